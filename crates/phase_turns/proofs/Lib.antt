pub mod Adding
pub mod Costing
pub mod Expecting
pub mod Filling
pub mod Following
pub mod Residues
