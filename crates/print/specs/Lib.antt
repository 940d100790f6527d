pub mod Answer
pub mod Back
pub mod Heights
pub mod Rows
pub mod Signs
