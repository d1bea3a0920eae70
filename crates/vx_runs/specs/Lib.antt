pub mod Part
pub mod Run
