pub mod PlexMembers
pub mod Valid
mod Once
mod Chain
mod Walks
pub mod Plexes
pub mod Apart
pub mod Shapes
pub mod Room
pub mod Choices
mod Counts
pub mod Decided
mod Deciding
pub mod Imports
pub mod Members
pub mod Narrowing
pub mod Own
pub mod Readings
