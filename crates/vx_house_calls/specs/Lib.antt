pub mod Passes
pub mod Unseen
