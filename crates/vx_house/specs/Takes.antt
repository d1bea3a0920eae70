-- Devices that are taken into the hand.
use Rattle.std.specs.Prelude.{◌≡◌, ◌⊎◌, List, [], ◌∷◌, ◌++◌, Result, Ok, Err}
use Rattle.vx_pages.specs.declared.local_piece.LocalPiece.{Ghosts}
use Rattle.vx_base.specs.Named.{Word}
use Rattle.vx_piece.specs.Seen.{Seen}
use Rattle.vx_answers.specs.declared.answer.End.{End}
use Rattle.vx_answers.specs.declared.refusal.Refusal.{Refusal}
use Rattle.vx_moments.specs.Moment.{Moment}
use Rattle.vx_stages.specs.Ends.{EndsIn}
use Rattle.vx_stages.specs.Stages.{AreFree, IsAway, ShelfFailsAt}
use Rattle.vx_house.specs.Goes.{Goes}
use Rattle.vx_house.specs.Holders.{hand_names}
use Rattle.vx_house.specs.Scene.{FaultsGoOn, IsBlamed}
use Rattle.vx_house.specs.Unmoved.{Unmoved}
use Rattle.vx_house.specs.View.{View, Keeps, IsMoment, scene}
use Rattle.vx_house.specs.declared.stop.Stop.{Stop}
use Rattle.vx_house.specs.declared.stop.Stop.TheVariants as stops

-- Nothing is seen otherwise, and volumes and group are the same.
pub record Rested {P : Type 0} {ghosts : Ghosts P} (see : P → Seen) (old new : View P ghosts) : Type 0 where
  pub keeps : Keeps see new
  pub moved : Unmoved (scene see old) (scene see new)
  pub volumes : new.house.volumes ≡ old.house.volumes
  pub group : new.house.group ≡ old.house.group

-- the devices were free, one after the other, and stand behind those that were in hand
pub record Took {P : Type 0} {ghosts : Ghosts P} (see : P → Seen) (names : List Word) (old new : View P ghosts) : Type 0 where
  pub rested : Rested see old new
  pub hand : hand_names new.house ≡ hand_names old.house ++ names
  pub free : (m : Moment) → IsMoment see old m → AreFree m.world (hand_names old.house) names

-- the device could not be taken
abbrev pub IsUntaken : {P : Type 0} {ghosts : Ghosts P} → View P ghosts → Word → Moment → End → Moment → Type 0
IsUntaken old name m end n = ((r : Refusal) × IsAway m.world (hand_names old.house) name r × EndsIn r m end n) ⊎ ShelfFailsAt name m end n

pub record TakesEnd {P : Type 0} {ghosts : Ghosts P} (see : P → Seen) (name : Word) (end : End) (old new : View P ghosts) : Type 0 where
  pub keeps : Keeps see new
  pub goes : Goes see (λ m n. IsUntaken old name m end n) old new
  pub faults : FaultsGoOn (scene see old) (scene see new)
  pub blamed : IsBlamed end (scene see old) (scene see new)

abbrev pub TakeGives : {P : Type 0} {ghosts : Ghosts P} → (P → Seen) → Word → Result (Unit {0}) Stop → View P ghosts → View P ghosts → Type 0
TakeGives see name (Ok u) old new = Took see (name ∷ []) old new
TakeGives see name (Err (stops.Ended end)) old new = TakesEnd see name end old new
TakeGives see name (Err stops.OutOfMemory) old new = Rested see old new
