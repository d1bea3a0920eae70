pub mod Matching
pub mod Whole
