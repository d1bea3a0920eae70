pub mod Causes
pub mod Listed
pub mod MemShelf
pub mod OnShelf
pub mod Shelf
