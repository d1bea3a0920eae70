mod Lists
pub mod Records
mod Columns
pub mod Less
pub mod Images
pub mod Texts
