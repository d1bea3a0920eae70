pub mod Volumes
pub mod Laws
