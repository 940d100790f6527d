pub mod Listed
pub mod Steps
pub mod Reach
pub mod Potentials
pub mod PathPush
pub mod Shortest
