pub mod Parts
pub mod Config
pub mod Edits
pub mod Applied
pub mod Printed
pub mod Fields
pub mod Laws
