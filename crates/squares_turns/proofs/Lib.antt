pub mod Putting
pub mod Fitting
