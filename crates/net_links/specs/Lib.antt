pub mod Links
pub mod Theorems
