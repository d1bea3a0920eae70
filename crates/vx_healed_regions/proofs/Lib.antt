pub mod Healings
pub mod Marks
pub mod Numbers
pub mod Openings
pub mod Spared
pub mod Sparing
