pub mod Lists
pub mod Least
