pub mod Looks
pub mod Choice
pub mod Newest
pub mod Tries
pub mod Toggles
pub mod Naming
pub mod Answers
