pub mod Gains
pub mod Pieces
