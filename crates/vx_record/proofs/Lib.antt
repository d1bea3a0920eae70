pub mod Completion
pub mod Joins
pub mod ReadLines
pub mod ReadSteps
pub mod Faults
pub mod ValidRecords
