pub mod Cost
pub mod Follow
pub mod Residue
pub mod Expect
