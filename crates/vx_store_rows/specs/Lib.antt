pub mod Piece
pub mod Ready
pub mod Watching
