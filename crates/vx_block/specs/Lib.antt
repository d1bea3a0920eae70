pub mod Geometry
pub mod Reading
pub mod Regions
pub mod Parts
pub mod Word
