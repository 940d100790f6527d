pub mod Lines
pub mod Reading
pub mod Squares
pub mod Turned
