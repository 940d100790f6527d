pub mod Near
pub mod Parts
pub mod Told
