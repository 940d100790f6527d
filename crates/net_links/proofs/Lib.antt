pub mod Certificate
pub mod Cost
pub mod Dear
