pub mod Cells
pub mod Away
pub mod Supply
pub mod Flows
pub mod Least
pub mod Start
