pub mod Founds
pub mod Once
pub mod Pieces
