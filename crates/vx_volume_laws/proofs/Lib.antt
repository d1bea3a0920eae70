mod Copies
mod Examples
mod Histories
mod Logs
mod Losses
pub mod Openings
mod Recoveries
mod Starts
mod Tracks
mod Volumes
pub mod Ranges
pub mod OpenedRuns
pub mod Held
pub mod OpenedImages
pub mod Loaded
mod Ends
mod LivesLeft
mod LivesOn
mod Marking
mod LivesRun
mod Startings
mod Tellings
mod LivesVolumes
pub mod Spots
pub mod Plexes
pub mod LeftCopies
pub mod Leavings
pub mod Keepings
pub mod Lyings
pub mod LeftLogs
pub mod Lowest
pub mod Recordings
pub mod Restated
pub mod Configurations
pub mod Stays
pub mod Armings
pub mod Forms
pub mod Lasting
pub mod LeftOpenings
pub mod OneCopies
pub mod ExactLogs
pub mod ExactLeft
