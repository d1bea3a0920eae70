pub mod Faults
pub mod Texts
pub mod Prepare
pub mod Carried
pub mod Groups
pub mod Create
pub mod Add
pub mod Enlisted
