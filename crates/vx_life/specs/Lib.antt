pub mod Candidates
pub mod Entry
pub mod Life
pub mod Order
