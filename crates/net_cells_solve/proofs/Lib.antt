pub mod Whole
pub mod Walking
pub mod Sending
pub mod Searches
pub mod Turning
pub mod Listings
