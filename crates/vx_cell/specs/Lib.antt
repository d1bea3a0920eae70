pub mod Acts
pub mod Calls
pub mod Changes
pub mod Laws
pub mod Parting
pub mod Plexes
pub mod Region
pub mod Running
