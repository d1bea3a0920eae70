-- That no sector of a disk is in two subdisks.
use Rattle.std.specs.Prelude.{◌≡◌, ◌⊎◌, ℕ, ◌+◌, ◌<◌, ◌≤◌, List, [], ◌∷◌, None}
use Rattle.vx_config_parts.specs.declared.object.Object.{Object}
use Rattle.vx_config_parts.specs.declared.object.Object.TheVariants.{SubdiskRecord}
use Rattle.vx_config_parts.specs.declared.subdisk.Subdisk.{Subdisk}
use Rattle.vx_rules.specs.Rules.{first_broken}

-- the record is one of these
abbrev pub IsOneOf : List Object → Object → Type 0
IsOneOf [] o = ⊥
IsOneOf (p ∷ ps) o = (o ≡ p) ⊎ IsOneOf ps o

-- the subdisk has the sector of its disk's public region
pub record HasSector (s : Subdisk) (sector : ℕ) : Type 0 where
  pub from : s.off ≤ sector
  pub below : sector < s.off + s.len

-- Where no rule is broken, two subdisks of one disk that have a sector in common have one name, which no two records have.
abbrev pub EachSectorIsInOneSubdisk : Type 0
EachSectorIsInOneSubdisk =
    (all : List Object) → first_broken all ≡ None →
    (s t : Subdisk) → IsOneOf all (SubdiskRecord s) → IsOneOf all (SubdiskRecord t) → s.disk ≡ t.disk →
    (sector : ℕ) → HasSector s sector → HasSector t sector → s.name ≡ t.name
