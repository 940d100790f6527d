pub mod Ring
pub mod Sum
pub mod Table
pub mod Loop
pub mod Points
