-- Which volumes the command goes over, or which test refuses it.
use Rattle.std.specs.Prelude.{◌≡◌, ◌⊎◌, ℕ, Option, Some, None, List}
use Rattle.vx_base.specs.Named.{Word}
use Rattle.vx_answers.specs.declared.answer.End.TheVariants as ends
use Rattle.vx_answers.specs.declared.refusal.Refusal.{Refusal}
use Rattle.vx_answers.specs.declared.refusal.Refusal.TheVariants as refusal
use Rattle.vx_moments.specs.World.{Group, World}
use Rattle.vx_house.specs.declared.stop.Stop.{Stop}
use Rattle.vx_house.specs.declared.stop.Stop.TheVariants as stops
use Rattle.vx_recovery.specs.Edits.{AreShort, AreTooLong}
use Rattle.vx_recovery.specs.Going.{AreNamesOf, at_rest, refusal_of}

-- these are the names, and no text of the commits is too long
abbrev pub Fits : Option Word → World → List Word → Type 0
Fits vol w names = (g : Group) × (w.group ≡ Some g) × AreNamesOf vol g names × AreShort (at_rest w names) g.config

-- the longest text is too long, or memory is wanting
abbrev pub IsUnfit : Option Word → World → Stop → Type 0
IsUnfit vol w stops.OutOfMemory = Unit {0}
IsUnfit vol w (stops.Ended end) =
    (g : Group) × (w.group ≡ Some g) × (names : List Word) × AreNamesOf vol g names
    × ((bytes : ℕ) × AreTooLong (at_rest w names) g.config bytes × (end ≡ ends.Refused (refusal.TooLong bytes)))

-- no test refuses it
abbrev pub IsPlanned : Option Word → Option Word → World → List Word → Type 0
IsPlanned dg vol w names = (refusal_of dg vol w ≡ None) × Fits vol w names

-- one does
abbrev pub IsUnplanned : Option Word → Option Word → World → Stop → Type 0
IsUnplanned dg vol w stops.OutOfMemory = Unit {0}
IsUnplanned dg vol w (stops.Ended end) =
    ((r : Refusal) × (refusal_of dg vol w ≡ Some r) × (end ≡ ends.Refused r)) ⊎ ((refusal_of dg vol w ≡ None) × IsUnfit vol w (stops.Ended end))
