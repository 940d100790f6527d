pub mod Costing
pub mod Fitting
pub mod Network
pub mod Settling
pub mod Solved
