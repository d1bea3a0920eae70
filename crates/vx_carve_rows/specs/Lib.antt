pub mod Plain
pub mod Setting
