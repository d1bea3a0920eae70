-- What a step of a recovery does to a house and its shelf, by its answer.
use Rattle.std.specs.Prelude.{◌≡◌, ◌⊎◌, ℕ, Result, Ok, Err}
use Rattle.vx_base.specs.Named.{Word}
use Rattle.vx_pages.specs.declared.local_piece.LocalPiece.{Ghosts}
use Rattle.vx_piece.specs.Seen.{Seen}
use Rattle.vx_answers.specs.declared.answer.End.{End}
use Rattle.vx_moments.specs.Moment.{AreLater, Moment}
use Rattle.vx_recovery.specs.Steps.{EndLeft, EndStops, HasEnded, HasHealed, HealLeft, HealStops}
use Rattle.vx_house.specs.Goes.{Goes, GoesBy, KeepsBy, OnEnded}
use Rattle.vx_house.specs.Holders.{AreHeld, holders}
use Rattle.vx_house.specs.Scene.{FaultsGoOn, IsBlamed, Shelved}
use Rattle.vx_house.specs.View.{View, scene}
use Rattle.vx_house.specs.declared.house.House.{House}
use Rattle.vx_house.specs.declared.stop.Stop.{Stop}

-- nothing is done so
abbrev pub IsNever : Moment → Moment → Type 0
IsNever old new = ⊥

-- by the answer: it is done so, with what is told, or has ended the command so, or for want of memory it was left so
abbrev pub GoesAs : {P T : Type 0} {ghosts : Ghosts P} → (P → Seen) → (T → Moment → Moment → Type 0) → (Moment → End → Moment → Type 0) → (Moment → Moment → Type 0) → Result T Stop → View P ghosts → View P ghosts → Type 0
GoesAs see Done Ends Left (Ok told) old new = Goes see (Done told) old new
GoesAs {T = T} see Done Ends Left (Err stop) old new = GoesBy {T = T} see IsNever Ends Left (Err stop) old new

-- The step keeps the house, does what it says, and how it ends the command is laid to what has failed.
pub record StepGoes {P T : Type 0} {ghosts : Ghosts P} (see : P → Seen) (Done : T → Moment → Moment → Type 0) (Ends : Moment → End → Moment → Type 0) (Left : Moment → Moment → Type 0) (result : Result T Stop) (old new : View P ghosts) : Type 0 where
  pub keeps : KeepsBy see result new
  pub goes : GoesAs see Done Ends Left result old new
  pub faults : FaultsGoOn (scene see old) (scene see new)
  pub blamed : OnEnded result (λ end. IsBlamed end (scene see old) (scene see new))

-- a step was done before, by way of a moment
abbrev pub Via : (Moment → Moment → Type 0) → (Moment → Moment → Type 0) → Moment → Moment → Type 0
Via First R m n = (a : Moment) × AreLater m.counts a.counts × First m a × AreLater a.counts n.counts × R a n

-- ---- a volume is healed, and the end recorded

-- with these numbers of regions, and whatever marks
abbrev pub HasFinished : Word → (dirty copied : ℕ) → Moment → Moment → Type 0
HasFinished name dirty copied old new = (marks : ℕ) × Via (HasHealed name dirty copied marks) (HasEnded name marks) old new

-- it is not healed, or it is and this becomes of its end
abbrev pub StopsBehind : (Moment → Moment → Type 0) → Word → (ℕ → Moment → Moment → Type 0) → Moment → Moment → Type 0
StopsBehind Unhealed name End old new = Unhealed old new ⊎ ((dirty : ℕ) × (copied : ℕ) × (marks : ℕ) × Via (HasHealed name dirty copied marks) (End marks) old new)

-- so the command is ended
abbrev pub FinishStops : Word → Moment → End → Moment → Type 0
FinishStops name old end new = StopsBehind (λ m n. HealStops name m end n) name (λ marks m n. EndStops name marks m end n) old new

-- what want of memory leaves of both
abbrev pub FinishLeft : Word → Moment → Moment → Type 0
FinishLeft name old new = StopsBehind (HealLeft name) name (λ marks. EndLeft name) old new

-- ---- houses

-- the world is as it was
abbrev pub IsUnchanged : Moment → Moment → Type 0
IsUnchanged old new = new.world ≡ old.world

-- its devices were taken from some shelf
abbrev pub IsHeld : {P : Type 0} {ghosts : Ghosts P} → (P → Seen) → House P ghosts → Type 0
IsHeld see h = (shelf : Shelved) × AreHeld shelf.held (holders see h)
