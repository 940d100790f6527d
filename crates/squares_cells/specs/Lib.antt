pub mod Squares
pub mod Theorems
