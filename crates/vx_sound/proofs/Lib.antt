pub mod Headers
pub mod Fewer
mod Configs
pub mod Lists
mod Names
pub mod Edits
mod States
pub mod Ready
pub mod DevicesAfterCommit
pub mod CommitSteps
mod Leaders
mod ReadyToWrite
pub mod Imports
pub mod Settlement
pub mod Devices
pub mod Private
pub mod Volumes
pub mod Joiners
pub mod Commits
pub mod Running
pub mod Recoveries
pub mod Logs
pub mod Plexes
pub mod Leaving
pub mod Runs
pub mod Steps
pub mod Wants
