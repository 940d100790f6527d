pub mod Buffers
pub mod Slices
pub mod Workspace
