pub mod HealingRuns
pub mod HealingReasons
pub mod ExactHealings
pub mod HealedVolumes
pub mod LeftMarks
pub mod LeftHeads
pub mod WholeImages
