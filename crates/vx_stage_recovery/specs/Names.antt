-- The names of the volumes that the command goes over.
use Rattle.std.specs.Prelude.{◌≡◌, Option, Some, None, List, [], ◌∷◌, map}
use Rattle.std.specs.List.Sorted.{IsPermutation, IsSorted}
use Rattle.std.specs.Cmp.Lexicographic.{slice_cmp}
use Rattle.std.specs.Ordering.{nat_cmp}
use Rattle.vx_base.specs.Named.{Word}
use Rattle.vx_config_parts.specs.declared.vol.Vol.{Vol}
use Rattle.vx_objects.specs.declared.config.Config.{Config}

-- those of all volumes of the configuration, in order
pub record AreAll (c : Config) (names : List Word) : Type 0 where
  pub all : IsPermutation (map (λ (v : Vol). v.name) c.volumes) names
  pub ordered : IsSorted (slice_cmp nat_cmp) names

-- the one that is given, or all
abbrev pub AreNames : Option Word → Config → List Word → Type 0
AreNames None c names = AreAll c names
AreNames (Some vol) c names = names ≡ vol ∷ []
