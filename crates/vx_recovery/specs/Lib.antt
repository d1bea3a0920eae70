pub mod Edits
pub mod Healing
pub mod Recovering
pub mod Steps
pub mod Going
