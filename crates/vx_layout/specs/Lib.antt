pub mod Columns
pub mod Ends
pub mod Runs
pub mod Valid
