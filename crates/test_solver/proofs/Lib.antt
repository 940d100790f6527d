pub mod Partial
pub mod All
pub mod LentSlices
pub mod BalancedSupplies
