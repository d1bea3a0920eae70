pub mod FirstPage
pub mod LogLaws
pub mod Masks
pub mod Plexes
pub mod Ranges
pub mod Readiness
