pub mod Answer
pub mod Line
pub mod Refused
pub mod Rows
