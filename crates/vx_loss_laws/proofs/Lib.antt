mod Left
mod Others
mod Healed
mod Seen
mod Back
mod Entries
mod Runs
