pub mod Lone
pub mod Blocks
pub mod OtherVolumes
pub mod VolumesRead
pub mod Lives
pub mod Drops
pub mod Tracked
