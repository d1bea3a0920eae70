pub mod DeviceLaws
pub mod CommitSlots
pub mod DiskToDevice
pub mod Members
pub mod GoodDisks
pub mod Holders
pub mod CommitJoins
pub mod Alone
pub mod CommitStage
pub mod Owns
pub mod Runners
pub mod Stillness
pub mod Texts
pub mod Configs
pub mod EditStage
mod ChangeStage
pub mod Lowest
pub mod Short
pub mod Room
pub mod Entry
pub mod Admitted
pub mod Admission
pub mod Gains
mod JoinedRuns
pub mod Joins
pub mod FailedJoins
pub mod OneItem
pub mod NewConfig
pub mod Enlistment
pub mod CreateCommit
pub mod CreateStage
mod Own
mod MakeStage
mod Verdicts
