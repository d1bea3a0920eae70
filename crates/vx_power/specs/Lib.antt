pub mod Berths
pub mod Drawn
pub mod Fused
pub mod Laws
pub mod Returned
pub mod Shown
