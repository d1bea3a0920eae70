mod Held
mod Named
mod Order
pub mod SameRows
