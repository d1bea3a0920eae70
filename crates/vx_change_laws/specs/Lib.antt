pub mod Joining
pub mod Laws
pub mod Logging
pub mod Switching
pub mod Parting
pub mod Yielding
