-- Counts that never fall, and stand still at their type's end.
use Rattle.std.specs.Prelude.{ℕ, ◌+◌, ◌-◌, ◌^◌, ◌≤◌, min}

-- the count after so many more
abbrev pub later_count : ℕ → ℕ → ℕ
later_count count more = min (count + more) (2 ^ 64 - 1)

-- the count has risen by at least so many
abbrev pub RoseBy : ℕ → ℕ → ℕ → Type 0
RoseBy more before now = later_count before more ≤ now

-- the count has risen
abbrev pub Rose : ℕ → ℕ → Type 0
Rose before now = RoseBy 1 before now
