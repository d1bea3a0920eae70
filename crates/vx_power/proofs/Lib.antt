pub mod BerthLemmas
pub mod ShelfFacts
pub mod Joins
pub mod Steps
