pub mod Bads
pub mod Device
pub mod MemPiece
pub mod Seen
pub mod Told
