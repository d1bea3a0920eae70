pub mod OneGroup
pub mod Fields
pub mod Numbers
pub mod Readings
pub mod OneSaid
pub mod InKinds
pub mod RoundTrip
