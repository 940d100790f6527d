pub mod Cuts
pub mod Readings
