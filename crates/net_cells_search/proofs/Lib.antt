pub mod Lowering
pub mod Whole
pub mod Tidying
pub mod Relaxing
pub mod Learning
