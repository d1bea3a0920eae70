-- What is left of a house once a command is over.
use Rattle.std.specs.Prelude.{◌≡◌, [], None, IsSome, IfSome}
use Rattle.vx_pages.specs.declared.local_piece.LocalPiece.{Ghosts}
use Rattle.vx_piece.specs.Seen.{Seen}
use Rattle.vx_answers.specs.declared.answer.End.{End}
use Rattle.vx_answers.specs.declared.answer.End.TheVariants as ends
use Rattle.vx_moments.specs.Lives.{GroupStands}
use Rattle.vx_moments.specs.Moment.{Moment}
use Rattle.vx_house.specs.Holders.{AreHeld, holders}
use Rattle.vx_house.specs.Unmoved.{Unmoved}
use Rattle.vx_house.specs.View.{View, HasDisk, IsGroupWhole, IsMomentButGroup, KeepsButGroup, scene}

-- the house holds all that was taken, nothing is seen otherwise, and the hand is empty
pub record IsLater {P : Type 0} {ghosts : Ghosts P} (see : P → Seen) (old new : View P ghosts) : Type 0 where
  pub devices : AreHeld new.shelf.held (holders see new.house)
  pub moved : Unmoved (scene see old) (scene see new)
  pub hand : new.house.hand.items ≡ []

-- volumes and group stay
pub record LeavesBoth {P : Type 0} {ghosts : Ghosts P} (old new : View P ghosts) : Type 0 where
  pub volumes : new.house.volumes ≡ old.house.volumes
  pub group : new.house.group ≡ old.house.group

-- volumes stay, and the group does not
pub record LeavesVolumes {P : Type 0} {ghosts : Ghosts P} (old new : View P ghosts) : Type 0 where
  pub volumes : new.house.volumes ≡ old.house.volumes
  pub group : new.house.group ≡ None

-- neither stays
pub record LeavesNone {P : Type 0} {ghosts : Ghosts P} (old new : View P ghosts) : Type 0 where
  pub volumes : new.house.volumes.entries ≡ []
  pub group : new.house.group ≡ None

abbrev pub StaysBy : {P : Type 0} {ghosts : Ghosts P} → End → View P ghosts → View P ghosts → Type 0
StaysBy ends.GroupLost old new = LeavesVolumes old new
StaysBy (ends.Lost parts) old new = LeavesNone old new
StaysBy other old new = LeavesBoth old new

-- Memory was wanting to join the group's devices: the group is still held, nothing is seen otherwise, and the hand is empty.
pub record IsStuck {P : Type 0} {ghosts : Ghosts P} (see : P → Seen) (old new : View P ghosts) : Type 0 where
  pub later : IsLater see old new
  pub some : IsSome new.house.group
  pub whole : IfSome new.house.group (IsGroupWhole see)
  pub disks : IfSome new.house.group HasDisk

-- While no call is under way the bytes of the group's devices stand for the volumes that run.
abbrev pub StandsAt : {P : Type 0} {ghosts : Ghosts P} → (P → Seen) → View P ghosts → Type 0
StandsAt see v = (m : Moment) → KeepsButGroup see v → IsMomentButGroup see v m → GroupStands m.world

pub record IsLeft {P : Type 0} {ghosts : Ghosts P} (see : P → Seen) (end : End) (old new : View P ghosts) : Type 0 where
  pub later : IsLater see old new
  pub stays : StaysBy end old new
  pub stands : StandsAt see old
