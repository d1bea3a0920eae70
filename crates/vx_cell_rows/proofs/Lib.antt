pub mod Masks
pub mod Claims
