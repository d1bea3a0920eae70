pub mod Yielded
pub mod YieldLaws
