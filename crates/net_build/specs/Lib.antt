pub mod Edges
pub mod Ends
pub mod Grouped
pub mod Lists
pub mod Placed
pub mod Slots
pub mod Two
