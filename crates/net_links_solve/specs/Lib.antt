pub mod Fit
pub mod Link
pub mod Settled
