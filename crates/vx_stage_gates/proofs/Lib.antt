pub mod Lowest
pub mod DiskLists
