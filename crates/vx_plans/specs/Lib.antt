pub mod Plans
pub mod Serving
pub mod Showing
pub mod Steps
pub mod Recoveries
pub mod Laws
