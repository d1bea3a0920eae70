pub mod Parts
pub mod Images
pub mod Commits
pub mod Changes
pub mod Named
mod Lives
pub mod Running
pub mod Mirrors
pub mod Logs
mod Plexes
pub mod Leaving
pub mod Devices
pub mod Joiners
pub mod Stages
pub mod Leavings
pub mod Recoveries
pub mod Steps
mod Lost
