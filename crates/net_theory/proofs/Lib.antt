pub mod Crossing
pub mod Edge
pub mod Cheapest
