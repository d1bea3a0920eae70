pub mod Losses
pub mod Laws
