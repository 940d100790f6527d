pub mod Field
pub mod Model
pub mod Theorems
