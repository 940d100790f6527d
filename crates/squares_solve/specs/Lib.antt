pub mod Flows
pub mod Cost
pub mod Solved
