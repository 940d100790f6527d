pub mod Sum
pub mod Promise
