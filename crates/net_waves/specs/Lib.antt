pub mod Promise
pub mod Potentials
