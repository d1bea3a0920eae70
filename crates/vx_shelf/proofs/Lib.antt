pub mod Counts
pub mod Devices
pub mod Listings
pub mod NewImages
pub mod Numbers
pub mod Places
pub mod Holds
