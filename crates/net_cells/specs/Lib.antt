pub mod Net
pub mod Lists
pub mod Search
pub mod Moves
pub mod Fenced
pub mod Sound
