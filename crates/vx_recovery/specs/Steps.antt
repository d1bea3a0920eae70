-- The recovery of one volume in three steps: its beginning is recorded, it is healed, and its end is recorded and it runs.
use Rattle.std.specs.Prelude.{◌≡◌, ◌⊎◌, ℕ, None}
use Rattle.vx_base.specs.Named.{Word}
use Rattle.vx_config_parts.specs.declared.state.VolState.TheVariants as vol
use Rattle.vx_config_parts.specs.declared.vol.Vol.{Vol}
use Rattle.vx_answers.specs.declared.answer.End.{End}
use Rattle.vx_moments.specs.Moment.{Moment}
use Rattle.vx_moments.specs.World.{Group}
use Rattle.vx_stages.specs.Starting.{StopsUnopened, refusal_at_once}
use Rattle.vx_recovery.specs.Healing.{IsHealed}
use Rattle.vx_recovery.specs.Recovering.{EndWants, HealingWants, IsOf, IsRecoveryBegun, IsRecoveryEnded, IsRefusedBegun, StopsAtEnd, StopsHealing}

-- this holds of the volume of the name, whose recovery is recorded as begun
abbrev pub OfBegun : Word → (Group → Vol → Moment → Moment → Type 0) → Moment → Moment → Type 0
OfBegun name Holds old new = (g : Group) × (v : Vol) × IsOf name old.world g v × (v.state ≡ vol.Sync) × Holds g v old new

-- the beginning is recorded
abbrev pub HasBegun : Word → Moment → Moment → Type 0
HasBegun name old new = (g : Group) × (v : Vol) × IsRecoveryBegun name old g v new

-- it is healed, with these numbers and marks
abbrev pub HasHealed : Word → (dirty copied marks : ℕ) → Moment → Moment → Type 0
HasHealed name dirty copied marks old new = OfBegun name (λ g v m n. (refusal_at_once g v ≡ None) × IsHealed g v dirty copied marks m n) old new

-- the healing ends the command
abbrev pub HealStops : Word → Moment → End → Moment → Type 0
HealStops name old end new = OfBegun name (λ g v m n. IsRefusedBegun g v m end n ⊎ (StopsUnopened g v m end n ⊎ StopsHealing g v m end n)) old new

-- what want of memory leaves of it
abbrev pub HealLeft : Word → Moment → Moment → Type 0
HealLeft name old new = (new.world ≡ old.world) ⊎ OfBegun name HealingWants old new

-- the end is recorded, by these marks, and the volume runs
abbrev pub HasEnded : Word → ℕ → Moment → Moment → Type 0
HasEnded name marks old new = OfBegun name (λ g v m n. IsRecoveryEnded g v marks m n) old new

-- the end of the recovery ends the command
abbrev pub EndStops : Word → ℕ → Moment → End → Moment → Type 0
EndStops name marks old end new = OfBegun name (λ g v m n. IsRefusedBegun g v m end n ⊎ (StopsUnopened g v m end n ⊎ StopsAtEnd g v marks m end n)) old new

abbrev pub EndLeft : Word → Moment → Moment → Type 0
EndLeft name old new = (new.world ≡ old.world) ⊎ OfBegun name EndWants old new
