pub mod Network
pub mod Theorems
