mod Tests
mod Runs
mod GoodDisks
mod Subdisks
mod Counts
mod Whole
mod Sectors
mod OneList
