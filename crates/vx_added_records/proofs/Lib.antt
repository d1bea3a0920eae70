mod Verdicts
pub mod SameDisks
