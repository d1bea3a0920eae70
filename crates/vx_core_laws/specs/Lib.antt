pub mod Beginning
pub mod Course
pub mod Exact
pub mod Quiet
pub mod Tracking
