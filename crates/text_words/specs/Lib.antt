pub mod Numeral
pub mod Pieces
