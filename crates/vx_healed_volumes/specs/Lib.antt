pub mod Healed
pub mod Whole
pub mod Laws
