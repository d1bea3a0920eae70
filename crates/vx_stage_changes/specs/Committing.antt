-- What the commit of a group leaves of its disks.
use Rattle.std.specs.Prelude.{◌≡◌, ◌+◌, ℕ, List, [], length, Result, Ok, Err}
use Rattle.vx_pages.specs.declared.local_piece.LocalPiece.{Ghosts}
use Rattle.vx_piece.specs.Seen.{Seen}
use Rattle.vx_copies.specs.Commit.{HasRisen}
use Rattle.vx_copies.specs.Disks.{IsCut, IsReady}
use Rattle.vx_copies.specs.Lists.{Each, AllOf, AnyOf}
use Rattle.vx_copies.specs.Written.{Recorded, IsDone, IsQuiet, WritesJust, sectors_of}
use Rattle.vx_confdb.specs.Groups.{members, IsCommitted, CarriesText}
use Rattle.vx_confdb.specs.declared.fault.GroupFault.{GroupFault}
use Rattle.vx_confdb.specs.declared.fault.GroupFault.TheVariants as fault
use Rattle.vx_confdb.specs.declared.group.Group.{Group}
use Rattle.vx_fronts.specs.Fronts.{HasPrivate}
use Rattle.vx_answers.specs.declared.answer.End.TheVariants as ends
use Rattle.vx_answers.specs.declared.refusal.Refusal.TheVariants as refusal
use Rattle.vx_house.specs.View.{HaveSlots}
use Rattle.vx_house.specs.declared.house.Imported.{Imported}
use Rattle.vx_house.specs.declared.stop.Stop.{Stop}
use Rattle.vx_house.specs.declared.stop.Stop.TheVariants as stops

-- the stop that a commit which was not done is
abbrev pub stop_of : GroupFault → Stop
stop_of fault.OutOfMemory = stops.OutOfMemory
stop_of (fault.TooLong bytes) = stops.Ended (ends.Refused (refusal.TooLong bytes))
stop_of fault.GroupLost = stops.Ended ends.GroupLost
stop_of fault.PowerLost = stops.Ended (ends.Lost [])

-- what a commit leaves, however it ends
pub record IsTried {P : Type 0} (see : P → Seen) (text : List ℕ) (old new : Group P) : Type 0 where
  pub committed : IsCommitted see text old new
  pub recorded : Recorded (old.sequence + 1) new.sequence text (members see old) (members see new)

-- all good disks carry the text, and one is good
pub record IsFinished {P : Type 0} (see : P → Seen) (text : List ℕ) (old new : Group P) : Type 0 where
  pub tried : IsTried see text old new
  pub carries : CarriesText see (old.sequence + 1) text new
  pub done : IsDone (length old.disks.items) new.sequence text (members see new)
  pub exact : Each IsQuiet (members see old) (members see new) → Each (WritesJust (sectors_of text)) (members see old) (members see new)

-- the commit is done, or the group or the power is lost, or nothing was written
abbrev pub CommitEnds : {P : Type 0} → (P → Seen) → Result (Unit {0}) Stop → List ℕ → Group P → Group P → Type 0
CommitEnds see (Ok u) text old new = IsFinished see text old new
CommitEnds see (Err stops.OutOfMemory) text old new = new ≡ old
CommitEnds see (Err (stops.Ended ends.GroupLost)) text old new = IsTried see text old new × Each HasRisen (members see old) (members see new)
CommitEnds see (Err (stops.Ended (ends.Lost parts))) text old new = (parts ≡ []) × IsTried see text old new × AnyOf IsCut (members see new)
CommitEnds see (Err (stops.Ended end)) text old new = ⊥

-- the disks can take a commit: their slots differ, each that is good is ready, and each has a private region
pub record IsWritable {P : Type 0} {ghosts : Ghosts P} (see : P → Seen) (g : Imported P ghosts) : Type 0 where
  pub slots : HaveSlots g.base.disks.items
  pub ready : AllOf IsReady (members see g.base)
  pub private : AllOf HasPrivate (members see g.base)
