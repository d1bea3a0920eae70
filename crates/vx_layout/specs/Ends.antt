-- Where the strips of a column end in it.
use Rattle.std.specs.Prelude.{ℕ, ◌+◌, ◌<◌, ◌≤◌, List, [], ◌∷◌, length}
use Rattle.std.specs.List.Sorted.{IsPartitionPoint}
use Rattle.vx_layout.specs.declared.strip.Strip.{Strip}

-- where each of these strips ends, if the first begins at this sector
abbrev pub ends_of : ℕ → List Strip → List ℕ
ends_of start [] = []
ends_of start (strip ∷ strips) = (start + strip.count) ∷ ends_of (start + strip.count) strips

-- so many strips end at the sector or before it, and the others behind it
pub record ArePassed (strips : List Strip) (sector passed : ℕ) : Type 0 where
  pub few : passed ≤ length strips
  pub point : IsPartitionPoint (λ end. end ≤ sector) (λ end. sector < end) (ends_of 0 strips) passed
