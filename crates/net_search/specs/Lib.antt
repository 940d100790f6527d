pub mod Label
pub mod Tree
pub mod Inner
pub mod Path
