pub mod Sums
pub mod Sizes
pub mod Stops
pub mod Alike
