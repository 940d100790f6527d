pub mod Fit
pub mod Least
