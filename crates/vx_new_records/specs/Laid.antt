-- What was made of extents so far, as the definitions have it.
use Rattle.std.specs.Prelude.{◌≡◌, MatchOption, Option, Some, None}
use Rattle.vx_new_volumes.specs.Laying.{Laid}
use Rattle.vx_new_records.specs.declared.laying.Laid.{Laid as Made}

abbrev pub laid : Made → Laid
laid m = record { objects = m.objects.items; nexts = m.nexts.items }

-- the definitions make the same, or none as well
abbrev pub IsLaid : Option Laid → Option Made → Type 0
IsLaid by_definition made = MatchOption made (by_definition ≡ None) (λ m. by_definition ≡ Some (laid m))
