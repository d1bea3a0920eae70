pub mod Stands
pub mod Buffers
pub mod Writes
