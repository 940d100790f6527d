pub mod Filling
pub mod Refusing
