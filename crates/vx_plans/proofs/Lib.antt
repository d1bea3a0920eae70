pub mod Calm
pub mod Carriers
pub mod Complete
pub mod Recoveries
