pub mod Offers
pub mod Sound
pub mod Standing
pub mod Laws
