pub mod Joined
pub mod Laws
pub mod Relogged
pub mod RelogLaws
pub mod Switched
pub mod SwitchLaws
pub mod Parted
pub mod PartLaws
