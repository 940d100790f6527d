pub mod Counting
pub mod Edges
pub mod Grouping
pub mod Placing
pub mod Slots
pub mod Listing
