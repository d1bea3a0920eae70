pub mod Laid
pub mod Named
