pub mod Steps
pub mod Laid
pub mod Cells
