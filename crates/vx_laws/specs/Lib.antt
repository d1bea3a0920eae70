pub mod Histories
pub mod Returning
