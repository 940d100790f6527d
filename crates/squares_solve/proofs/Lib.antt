pub mod Adding
pub mod Summing
pub mod Costing
pub mod Beginning
pub mod Ending
pub mod Listing
pub mod Starting
