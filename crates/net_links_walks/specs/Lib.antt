pub mod Walks
pub mod Theorems
