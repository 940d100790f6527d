pub mod Cost
pub mod Fields
pub mod Integral
pub mod Least
pub mod Certificate
pub mod Change
pub mod Examples
