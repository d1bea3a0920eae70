pub mod Same
pub mod Tests
pub mod Sound
pub mod WorldLaws
pub mod StageChains
mod LentPlexes
mod ShownWorld
pub mod CommandEnds
mod Among
mod Told
mod Served
pub mod Lives
pub mod SameHouse
pub mod Given
pub mod RunningCalls
pub mod CallLaws
pub mod NoneRun
pub mod GateStage
mod FollowStage
pub mod CommandRanges
mod Recovered
pub mod Powers
pub mod Runs
pub mod Ends
mod Shelves
mod Soundly
