pub mod Fronts
pub mod Laws
pub mod Rests
pub mod Parted
pub mod RestLaws
pub mod Forms
