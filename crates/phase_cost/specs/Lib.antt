pub mod Cost
pub mod Steps
pub mod Certificate
pub mod Theorems
