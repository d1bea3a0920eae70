pub mod Marks
pub mod Mask
