pub mod Progress
pub mod Parts
pub mod ReadRuns
pub mod WriteSteps
