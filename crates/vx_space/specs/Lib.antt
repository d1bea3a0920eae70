pub mod Extents
pub mod Disks
pub mod Free
pub mod Gaps
pub mod Small
pub mod Taking
