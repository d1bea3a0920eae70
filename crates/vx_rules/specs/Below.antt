-- Tests of each number below another.
use Rattle.std.specs.Prelude.{ℕ, Bool, true, ◌&&◌, zero, suc}

-- the test holds for each number below
abbrev pub all_below : ℕ → (ℕ → Bool) → Bool
all_below zero test = true
all_below (suc n) test = all_below n test && test n
