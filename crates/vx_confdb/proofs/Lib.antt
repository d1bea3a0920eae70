pub mod Zeros
pub mod Preparation
pub mod Labels
pub mod NoOffers
pub mod Additions
pub mod Enlistment
