pub mod Agreed
pub mod Counted
pub mod Drawn
pub mod Left
