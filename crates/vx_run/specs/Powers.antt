-- A command that is served while a power switch may be set, and the power that comes back behind it.
use Rattle.std.specs.Prelude.{◌≡◌, ◌≤◌, ℕ, [], Bool, false, true, Option, None, Result, Ok, Err}
use Rattle.vx_pages.specs.declared.local_piece.LocalPiece.{Ghosts}
use Rattle.vx_base.specs.Named.{Word, SameUnder}
use Rattle.vx_piece.specs.Seen.{Seen}
use Rattle.vx_power.specs.Returned.{AreReturned}
use Rattle.vx_shelf.specs.Shelf.{Held, SameCounts}
use Rattle.vx_script.specs.declared.command.Command.{Command}
use Rattle.vx_answers.specs.declared.answer.Answer.{Answer}
use Rattle.vx_moments.specs.Moment.{Counts, Moment}
use Rattle.vx_plans.specs.Steps.{LeavesOff, Step}
use Rattle.vx_house.specs.Scene.{Shelved, FaultsGoOn}
use Rattle.vx_house.specs.View.{View, Keeps, KeepsButGroup, IsMoment, scene}
use Rattle.vx_run.specs.Serving.{AnswerBlamed, IsHeldUp}
use Rattle.vx_run.specs.declared.unserved.Unserved.{Unserved}
use Rattle.vx_run.specs.declared.unserved.Unserved.TheVariants as unserved

-- ---- the shelf

-- no device is without its power for the switch
abbrev pub NoneGone : (Word → Bool) → Type 0
NoneGone gone = (name : Word) → gone name ≡ false

-- nobody holds a device that is gone
abbrev pub AreGoneFree : (Word → Bool) → (Word → Option Held) → Type 0
AreGoneFree gone held = (name : Word) → gone name ≡ true → held name ≡ None

-- the devices that were gone have their power back, and all else of the shelf is as it was
pub record GetsPower (gone : Word → Bool) (old new : Shelved) : Type 0 where
  pub free : AreReturned gone old.free new.free
  pub held : SameUnder old.held new.held
  pub counted : SameCounts old.counted new.counted
  pub faults : new.faults ≡ old.faults

-- ---- moments

-- no count of faults has fallen
pub record FaultsAreLater (old new : Counts) : Type 0 where
  pub faults : (name : Word) → old.faults name ≤ new.faults name
  pub shelf : old.shelf ≤ new.shelf

-- from each moment that the house was there is one that it is now, to which it goes so; power may have come back between
abbrev pub GoesOn : {P : Type 0} {ghosts : Ghosts P} → (P → Seen) → (Moment → Moment → Type 0) → View P ghosts → View P ghosts → Type 0
GoesOn see R old new = (m : Moment) → IsMoment see old m → (n : Moment) × IsMoment see new n × FaultsAreLater m.counts n.counts × R m n

-- what want of memory leaves of the command, but for the counts
abbrev pub IsOffBy : Command → Moment → Moment → Type 0
IsOffBy c m n = (off : Moment) × (n.world ≡ off.world) × LeavesOff c m off

-- ---- a command

-- The house is kept, its hand is empty, and from each moment the command is a step.
pub record StepGoes {P : Type 0} {ghosts : Ghosts P} (see : P → Seen) (place : ℕ) (c : Command) (answer : Answer) (old new : View P ghosts) : Type 0 where
  pub keeps : Keeps see new
  pub empty : new.house.hand.items ≡ []
  pub goes : GoesOn see (λ m n. Step place c m answer n) old new
  pub faults : FaultsGoOn (scene see old) (scene see new)
  pub blamed : AnswerBlamed answer (scene see old) (scene see new)

-- For want of memory the command is left so; of the group's devices some may be joined.
pub record IsLeftOff {P : Type 0} {ghosts : Ghosts P} (see : P → Seen) (c : Command) (old new : View P ghosts) : Type 0 where
  pub keeps : KeepsButGroup see new
  pub empty : new.house.hand.items ≡ []
  pub goes : GoesOn see (IsOffBy c) old new
  pub faults : FaultsGoOn (scene see old) (scene see new)

-- The command is a step; or it was left so for want of memory; or a group is held up.
abbrev pub StepEnds : {P : Type 0} {ghosts : Ghosts P} → (P → Seen) → ℕ → Command → Result Answer Unserved → View P ghosts → View P ghosts → Type 0
StepEnds see place c (Ok answer) old new = StepGoes see place c answer old new
StepEnds see place c (Err unserved.OutOfMemory) old new = IsLeftOff see c old new
StepEnds see place c (Err unserved.HeldUp) old new = IsHeldUp see new
