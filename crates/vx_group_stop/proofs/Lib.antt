mod Clearings
mod Marks
pub mod Passes
