-- What a commit over disks leaves.
use Rattle.std.specs.Prelude.{ℕ, ◌+◌, ◌≤◌, List, length, take, Result, OnOk}
use Rattle.vx_base.specs.Named.{Word}
use Rattle.vx_copies.specs.Lists.{Each, AllOf}
use Rattle.vx_copies.specs.Disks.{DiskSeen, IsBelow, CommitGoes}
use Rattle.vx_copies.specs.Config.{GivesOldOrNew, GivesNew}
use Rattle.vx_copies.specs.Chain.{Copy, AreInOrder, IsGoodMember, IsLed, IsSound}
use Rattle.vx_copies.specs.Commit.{CommitEnds}
use Rattle.vx_copies.specs.Written.{Recorded, IsDone, IsQuiet, WritesJust, sectors_of}
use Rattle.vx_copies.specs.declared.writing.Lost.{Lost}

pub record IsCarried (result : Result (Unit {0}) Lost) (carriers before now : ℕ) (text : List ℕ) (old new : List DiskSeen) : Type 0 where
  pub old_or_new : (group : Word) → AllOf (IsBelow group before) old → GivesOldOrNew group (before + 1) now text old new
  pub ok : (group : Word) → AllOf (IsBelow group before) old → OnOk result (GivesNew group (before + 1) now text new)
  pub below : (group : Word) → AllOf (IsBelow group before) old → AllOf (IsBelow group now) new
  pub ends : CommitEnds result carriers now text old new
  pub goes : Each (CommitGoes (before + 1) now text) old new
  pub sound : (group : Word) (missing : ℕ) (others : List Copy) → IsSound group missing others before carriers old → IsSound group missing others now carriers new
  pub all : OnOk result ((group : Word) (missing : ℕ) (others : List Copy) → IsSound group missing others before carriers old → IsSound group missing others now (length old) new)
  pub order : (group : Word) (since : ℕ) → AllOf (IsBelow group since) old → AreInOrder group since new
  pub lead : (group : Word) (since : ℕ) → since ≤ before → AllOf (IsBelow group since) old → AllOf (IsGoodMember group) (take carriers old) → IsLed group since carriers new
  pub recorded : Recorded (before + 1) now text old new
  pub done : OnOk result (IsDone carriers now text new)
  pub exact : OnOk result (Each IsQuiet old new → Each (WritesJust (sectors_of text)) old new)
  pub more : before ≤ now
  pub few : now ≤ before + 32
