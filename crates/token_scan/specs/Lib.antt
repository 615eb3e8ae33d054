pub mod Tokens
pub mod Pieces
