-- What refuses the start of a volume before anything is touched, by the form that it would be opened with.
use Rattle.std.specs.Prelude.{◌≡◌, ◌==◌, ◌&&◌, ◌||◌, not, ℕ, Bool, is_some, if◌then◌else◌, true, false, Option, Some, List, [], ◌∷◌}
use Rattle.vx_mask.specs.Mask.{has, lowest, union}
use Rattle.vx_config_parts.specs.declared.vol.Vol.{Vol}
use Rattle.vx_objects.specs.declared.config.Config.{Config}
use Rattle.vx_answers.specs.declared.answer.End.TheVariants as ends
use Rattle.vx_answers.specs.declared.refusal.Refusal.{Refusal}
use Rattle.vx_answers.specs.declared.refusal.Refusal.TheVariants as refusal
use Rattle.vx_state_edits.specs.Edits.{is_new}
use Rattle.vx_stages.specs.Starting.{first_of, refusal_at_once}
use Rattle.vx_stages.specs.Tests.{where_}
use Rattle.vx_volume.specs.declared.volume.VolumeShape.{VolumeShape}
use Rattle.vx_lending.specs.declared.form.VolumeForm.{VolumeForm}
use Rattle.vx_house.specs.declared.stop.Stop.{Stop}
use Rattle.vx_house.specs.declared.stop.Stop.TheVariants as stops

-- the configuration and the good disks refuse the start of the volume at once
abbrev pub refusal_here : Config → ℕ → Vol → Option Refusal
refusal_here c good v = refusal_at_once (record { config = c; good = good; members = []; sequence = 0 }) v

-- there is none of these
abbrev pub is_empty : {A : Type 0} → List A → Bool
is_empty [] = true
is_empty (x ∷ xs) = false

-- some plex may be current: of a volume that was never started the lowest, else any that is on
abbrev pub has_current : Bool → VolumeShape → Bool
has_current fresh shape = if fresh then has shape.on (lowest (union shape.on shape.off)) else not (shape.on == 0)

-- what refuses the start of a volume with this form
abbrev pub refusal_of_form : Vol → VolumeForm → Option Refusal
refusal_of_form v form =
    first_of (where_ (is_some v.dco && is_empty form.logs.items) (refusal.NoLog v.name))
    (where_ ((is_new v.state || not (is_some v.dco)) && not (has_current (is_new v.state) form.shape)) (refusal.NoCurrent 0))

-- the start is refused at once, or memory is wanting
abbrev pub IsRefusedEarly : Config → ℕ → Vol → Stop → Type 0
IsRefusedEarly c good v (stops.Ended end) = (r : Refusal) × (refusal_here c good v ≡ Some r) × (end ≡ ends.Refused r)
IsRefusedEarly c good v stops.OutOfMemory = Unit {0}
