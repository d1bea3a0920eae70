-- A run from a shelf that nobody holds a device of to one that has all its devices back.
use Rattle.std.specs.Prelude.{◌≡◌, ℕ, Bool, false, List, [], ◌++◌, Option, Some, None, IsSome}
use Rattle.vx_pages.specs.declared.local_piece.LocalPiece.{Ghosts}
use Rattle.vx_base.specs.Named.{Word}
use Rattle.vx_piece.specs.Seen.{Seen}
use Rattle.vx_script.specs.declared.command.Command.{Command}
use Rattle.vx_answers.specs.declared.answer.Answer.{Answer}
use Rattle.vx_answers.specs.declared.answer.End.TheVariants as ends
use Rattle.vx_moments.specs.Leaving.{PowerGoes}
use Rattle.vx_moments.specs.Lives.{GroupStands}
use Rattle.vx_moments.specs.Moment.{Counts, Moment}
use Rattle.vx_moments.specs.World.{World}
use Rattle.vx_plans.specs.Steps.{IsTranscript, PowerReturns}
use Rattle.vx_house.specs.Scene.{Shelved, Scene, seen_in, AreCountsOf, FaultsGoOn}
use Rattle.vx_house.specs.Leaves.{IsLeft}
use Rattle.vx_house.specs.View.{View, IsDeviceOf, at}
use Rattle.vx_house.specs.declared.house.House.{House}
use Rattle.vx_run.specs.Fine.{are_fine}
use Rattle.vx_run.specs.Powers.{FaultsAreLater, GetsPower}
use Rattle.vx_run.specs.Run.{AreBlamed, IsTranscriptThen, WritesFront, text_of}

-- what is seen of a shelf that nobody holds a device of
abbrev pub bare : Shelved → Scene
bare s = record { shelf = s; taken = [] }

-- A shelf that tells its devices is this moment: no volume is started, and no group is imported.
pub record IsShelfOf (s : Shelved) (m : Moment) : Type 0 where
  pub told : IsSome s.free
  pub devices_are : (name : Word) → IsDeviceOf false (seen_in None s.free name) (m.world.devices name)
  pub no_volumes : (vol : Word) → m.world.volumes vol ≡ None
  pub no_group : m.world.group ≡ None
  pub counts : AreCountsOf (bare s) m.counts

-- the power went: all devices were given back, and then those that the switch had taken it from had it again
pub record IsShut {P : Type 0} {ghosts : Ghosts P} (see : P → Seen) (old : View P ghosts) (shelf : Shelved) (house : House P ghosts) : Type 0 where
  pub between : Shelved
  pub left : IsLeft see (ends.Lost []) old (at between house)
  pub gone : Word → Bool
  pub back : GetsPower gone between shelf

-- From each moment that the shelf was to one that it is, where the power went at the end: the bytes that then are left of a group's
-- volumes stand for those that ran. Power that a switch has taken is back.
abbrev pub ShelfGoes : (Moment → Moment → Type 0) → Shelved → Shelved → Type 0
ShelfGoes R old new =
    (m : Moment) → IsShelfOf old m →
    (last : Moment) × (left : World) × R m last × FaultsAreLater m.counts last.counts × (GroupStands last.world × PowerGoes last.world left)
    × (counts : Counts) × PowerReturns last.counts counts × IsShelfOf new (record { world = left; counts = counts })

-- There is a transcript of the commands from each moment that the shelf was, its text was written, the power went, and
-- the shelf is what was left. Each fault that is told has its cause.
pub record CarriesOut (commands : List Command) (old : Shelved) (taken : Option (List ℕ)) (new : Shelved) (taken' : Option (List ℕ)) (fine : Bool) : Type 0 where
  pub answers : List Answer
  pub goes : ShelfGoes (λ m last. IsTranscript 0 m commands answers last) old new
  pub written : (text : List ℕ) → taken ≡ Some text → taken' ≡ Some (text ++ text_of answers)
  pub fine_is : fine ≡ are_fine answers
  pub faults : FaultsGoOn (bare old) (bare new)
  pub blamed : AreBlamed answers (bare old) (bare new)

-- The same of the first of the commands, those that were answered; of their text a front was written. The next may have been begun, and
-- left off for want of memory.
pub record StopsShort (commands : List Command) (old : Shelved) (taken : Option (List ℕ)) (new : Shelved) (taken' : Option (List ℕ)) : Type 0 where
  pub begun : List Command
  pub left : List Command
  pub split : commands ≡ begun ++ left
  pub answers : List Answer
  pub goes : ShelfGoes (λ m last. IsTranscriptThen 0 m begun answers left last) old new
  pub written : (text : List ℕ) → taken ≡ Some text → WritesFront answers text taken'
  pub faults : FaultsGoOn (bare old) (bare new)
  pub blamed : AreBlamed answers (bare old) (bare new)
