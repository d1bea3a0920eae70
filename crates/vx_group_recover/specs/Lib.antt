pub mod Healing
pub mod Laws
