pub mod Promise
pub mod Slots
