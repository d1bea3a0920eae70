pub mod Flow
pub mod Limit
pub mod MemSink
pub mod MemSource
