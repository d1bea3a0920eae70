pub mod FilePiece
pub mod FileShelf
pub mod Known
