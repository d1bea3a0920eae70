pub mod Committing
pub mod Planning
pub mod Changing
pub mod Joining
pub mod Creating
pub mod Judging
