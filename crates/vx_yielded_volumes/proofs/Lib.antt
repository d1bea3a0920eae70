pub mod Edits
pub mod Copies
pub mod Lists
pub mod Forms
pub mod Lies
pub mod Runs
pub mod Named
