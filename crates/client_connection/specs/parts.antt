pub mod Pieces
pub mod Over
