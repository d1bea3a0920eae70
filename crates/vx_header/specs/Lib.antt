pub mod Named
pub mod Nearest
pub mod Places
pub mod Said
pub mod Sectors
pub mod Spelled
