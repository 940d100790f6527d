pub mod Holding
pub mod Judging
pub mod Lists
