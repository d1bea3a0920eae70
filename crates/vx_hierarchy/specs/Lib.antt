pub mod Kernel
pub mod Rows
pub mod Lines
pub mod Hierarchy
