pub mod Choice
pub mod Fault
pub mod Kept
pub mod Lines
pub mod Place
pub mod Script
pub mod Steps
