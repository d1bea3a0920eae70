-- A command that is served over a house and its shelf.
use Rattle.std.specs.Prelude.{◌≡◌, List, [], Result, Ok, Err, IsSome, IfSome}
use Rattle.vx_pages.specs.declared.local_piece.LocalPiece.{Ghosts}
use Rattle.vx_piece.specs.Seen.{Seen}
use Rattle.vx_answers.specs.declared.answer.Answer.{Answer}
use Rattle.vx_answers.specs.declared.answer.Answer.TheVariants.{One, Block}
use Rattle.vx_answers.specs.declared.answer.End.{End}
use Rattle.vx_answers.specs.declared.answer.View.{View as Shown}
use Rattle.vx_moments.specs.Moment.{Moment}
use Rattle.vx_plans.specs.Steps.{AreAsBefore, Serves}
use Rattle.vx_run.specs.declared.unserved.Unserved.{Unserved}
use Rattle.vx_run.specs.declared.unserved.Unserved.TheVariants as unserved
use Rattle.vx_house.specs.Goes.{Goes}
use Rattle.vx_house.specs.Scene.{Scene, FaultsGoOn, IsBlamed}
use Rattle.vx_house.specs.Holders.{AreHeld, holders}
use Rattle.vx_house.specs.View.{View, HasDisk, IsGroupWhole, Keeps, KeepsButGroup, scene}

-- how the command ended is laid to what has failed
abbrev pub AnswerBlamed : Answer → Scene → Scene → Type 0
AnswerBlamed (One views end) old new = IsBlamed end old new
AnswerBlamed (Block lines lost) old new = Unit {0}

-- The house is kept, its hand is empty, and from each moment the command is served so.
pub record CommandGoes {P : Type 0} {ghosts : Ghosts P} (see : P → Seen) (Does : Moment → List Shown → End → Moment → Type 0) (answer : Answer) (old new : View P ghosts) : Type 0 where
  pub keeps : Keeps see new
  pub empty : new.house.hand.items ≡ []
  pub goes : Goes see (λ m n. Serves Does AreAsBefore m answer n) old new
  pub faults : FaultsGoOn (scene see old) (scene see new)
  pub blamed : AnswerBlamed answer (scene see old) (scene see new)

-- For want of memory the command is left so; of the group's devices some may be joined.
pub record IsRefused {P : Type 0} {ghosts : Ghosts P} (see : P → Seen) (Left : Moment → Moment → Type 0) (old new : View P ghosts) : Type 0 where
  pub keeps : KeepsButGroup see new
  pub empty : new.house.hand.items ≡ []
  pub goes : Goes see Left old new
  pub faults : FaultsGoOn (scene see old) (scene see new)

-- Memory was wanting to join the devices of a group that was to leave: they are still held.
pub record IsHeldUp {P : Type 0} {ghosts : Ghosts P} (see : P → Seen) (v : View P ghosts) : Type 0 where
  pub held : AreHeld v.shelf.held (holders see v.house)
  pub some : IsSome v.house.group
  pub whole : IfSome v.house.group (IsGroupWhole see)
  pub disks : IfSome v.house.group HasDisk

-- The command is served; or it was left so for want of memory; or a group is held up.
abbrev pub CommandEnds : {P : Type 0} {ghosts : Ghosts P} → (P → Seen) → (Moment → List Shown → End → Moment → Type 0) → (Moment → Moment → Type 0) → Result Answer Unserved → View P ghosts → View P ghosts → Type 0
CommandEnds see Does Left (Ok answer) old new = CommandGoes see Does answer old new
CommandEnds see Does Left (Err unserved.OutOfMemory) old new = IsRefused see Left old new
CommandEnds see Does Left (Err unserved.HeldUp) old new = IsHeldUp see new
