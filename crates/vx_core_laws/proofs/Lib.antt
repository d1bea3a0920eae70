pub mod Beginnings
pub mod Courses
pub mod Exactly
pub mod Goes
pub mod Stills
pub mod Tracks
