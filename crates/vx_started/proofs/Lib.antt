pub mod Splices
pub mod Fills
pub mod Choice
pub mod PartSteps
pub mod PartWrites
pub mod CallCounts
pub mod Service
