-- What is taken of a disk, sector by sector.
use Rattle.std.specs.Prelude.{◌≡◌, ℕ, zero, suc, ◌+◌, false, if◌then◌else◌, List, [], ◌∷◌, ◌++◌, length, take, drop}
use Rattle.std.specs.Str.{bytes_eq}
use Rattle.vx_base.specs.Named.{Word}
use Rattle.vx_space.specs.declared.extent.Extent.{Extent}
use Rattle.vx_space.specs.Extents.{total, taken, left}

-- so many sectors from one on
abbrev pub run : ℕ → ℕ → List ℕ
run from zero = []
run from (suc n) = from ∷ run (from + 1) n

-- the sectors of a disk in the extents, in their order
abbrev pub sectors : Word → List Extent → List ℕ
sectors disk [] = []
sectors disk (e ∷ es) = if bytes_eq e.disk disk then run e.start e.count ++ sectors disk es else sectors disk es

-- the first so many sectors of the disk are taken; its others stay, and all of other disks
pub record TakesTheFirst (disk : Word) (count : ℕ) (free : List Extent) : Type 0 where
  pub first : sectors disk (taken disk count free) ≡ take count (sectors disk free)
  pub rest : sectors disk (left disk count free) ≡ drop count (sectors disk free)
  pub others : (other : Word) → bytes_eq disk other ≡ false → sectors other (left disk count free) ≡ sectors other free
  pub counted : total disk free ≡ length (sectors disk free)

-- so it is of all extents
abbrev pub EachTakesTheFirst : Type 0
EachTakesTheFirst = (disk : Word) (count : ℕ) (free : List Extent) → TakesTheFirst disk count free
