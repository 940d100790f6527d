pub mod Column
pub mod Place
pub mod Word
