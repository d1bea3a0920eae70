pub mod Places
pub mod Judging
pub mod Finds
pub mod Gathering
pub mod Giving
pub mod Importing
pub mod Readying
pub mod Taking
