pub mod Matches
pub mod Parts
pub mod Wholes
