pub mod Promise
pub mod Inner
pub mod Predecessors
pub mod Stepped
