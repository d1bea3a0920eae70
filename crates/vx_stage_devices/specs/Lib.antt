pub mod Looks
pub mod Wipes
pub mod Starts
pub mod Seeks
