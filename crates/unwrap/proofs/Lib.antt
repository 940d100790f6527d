pub mod Fitting
pub mod Promising
