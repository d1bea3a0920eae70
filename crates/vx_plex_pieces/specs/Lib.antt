pub mod Runs
pub mod Parked
pub mod Laws
