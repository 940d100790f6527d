pub mod Points
pub mod Push
