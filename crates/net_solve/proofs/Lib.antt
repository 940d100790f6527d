pub mod NonnegativeCosts
pub mod LoweredPotentials
pub mod Bottleneck
pub mod Augmentation
pub mod InitialFlow
pub mod Optimality
pub mod Progress
