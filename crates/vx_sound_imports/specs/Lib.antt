pub mod Offered
pub mod Laws
pub mod Back
pub mod Left
