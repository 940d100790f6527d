pub mod Flaw
pub mod Kind
