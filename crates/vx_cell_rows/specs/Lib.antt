pub mod Notes
pub mod Piece
pub mod Ready
