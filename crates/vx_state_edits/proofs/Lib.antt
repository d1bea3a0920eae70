mod Restating
mod Unseen
mod Members
mod ByKind
mod Steps
mod Changes
mod Fine
