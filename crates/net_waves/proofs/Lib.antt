pub mod Keep
pub mod Optimum
