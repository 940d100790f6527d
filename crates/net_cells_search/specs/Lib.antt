pub mod Marks
pub mod Lower
pub mod Room
