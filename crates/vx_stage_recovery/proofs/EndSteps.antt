-- What is left of a recovery that is recorded as begun, as one step: its volume is healed, and the end is recorded.
use Rattle.std.proofs.Common.{◌≡◌, ◌∙◌, ℕ, Option, Some, None, Result, refl, ap}
use Rattle.vx_pages.specs.declared.local_piece.LocalPiece.{Ghosts}
use Rattle.vx_base.specs.Named.{Word}
use Rattle.vx_piece.specs.Seen.{Seen}
use Rattle.vx_config_parts.specs.declared.vol.Vol.{Vol}
use Rattle.vx_image.proofs.Narrowing.{narrowed_self}
use Rattle.vx_moments.specs.Group.{DeviceStaysBut, image_on}
use Rattle.vx_moments.specs.Moment.{Moment}
use Rattle.vx_moments.specs.World.{Device, Group}
use Rattle.vx_group_recover.specs.declared.healing.Healed.{Healed}
use Rattle.vx_recovery.specs.Recovering.{IsReopened}
use Rattle.vx_recovery.specs.Steps.{OfBegun}
use Rattle.vx_stages.specs.Touching.{IsTouched}
use Rattle.vx_house.specs.Scene.{Shelved}
use Rattle.vx_house.specs.View.{IsMoment, View, at, group_of}
use Rattle.vx_house.specs.declared.house.House.{House}
use Rattle.vx_house.specs.declared.house.Imported.{Imported}
use Rattle.vx_house.specs.declared.stop.Stop.{Stop}
use Rattle.vx_house.proofs.Moments.{later_refl}
use Rattle.vx_stage_volumes.proofs.HeldStart.{world_of}
use Rattle.vx_stage_recovery.specs.Opening.{IsBegunIn}
use Rattle.vx_stage_recovery.specs.Steps.{FinishLeft, FinishStops, HasFinished, StepGoes}

-- ---- nothing was called

device_stays : (Q : ℕ → Type 0) (d : Option Device) → DeviceStaysBut Q d d
device_stays Q None = tt
device_stays Q (Some d) = (refl, λ k other. refl)

untouched : (g : Group) (vol : Word) (m : Moment) → IsTouched g vol m m
untouched g vol m = record {
  world = refl;
  changes = λ name. device_stays _ (m.world.devices name);
  calls = record { reads = λ name away. refl; writes = λ name away. refl; faults = λ name away. refl; shelf = refl };
}

-- the volume that was healed is open still
pub still_open : (g : Group) (v : Vol) (m : Moment) → IsReopened g v m m
still_open g v m = record { touched = untouched g v.name m; narrows = λ old. narrowed_self (image_on m.world.devices g v); later = later_refl m.counts }

-- ---- the step

module _ {P : Type 0} {ghosts : Ghosts P} (see : P → Seen) (name : Word) where
  -- it goes so, by its answer
  abbrev pub FinishGoes : Result Healed Stop → View P ghosts → View P ghosts → Type 0
  FinishGoes result old new = StepGoes see (λ (h : Healed). HasFinished name h.dirty h.copied) (FinishStops name) (FinishLeft name) result old new

  -- it holds of the volume of the name, whose recovery is begun
  pub of_begun : (shelf : Shelved) (h : House P ghosts) (g : Imported P ghosts) → h.group ≡ Some g → (Holds : Group → Vol → Moment → Moment → Type 0) (v : Vol) → IsBegunIn name g v → (m n : Moment) → IsMoment see (at shelf h) m →
      Holds (world_of see g) v m n → OfBegun name Holds m n
  of_begun shelf h g has Holds v begun m n is holds = (world_of see g, v, record { group = is.group_is ∙ ap (group_of see) has; volume = begun.found }, begun.state, holds)
