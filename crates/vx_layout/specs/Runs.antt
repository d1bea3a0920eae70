-- The maximal contiguous runs of a range of blocks, in block order.
use Rattle.std.specs.Prelude.{◌≡◌, ℕ, ◌+◌, ◌<◌, ◌≤◌, List, [], ◌∷◌, Some}
use Rattle.vx_layout.specs.declared.strip.Strip.{Strip}
use Rattle.vx_layout.specs.declared.run.Run.{Run}
use Rattle.vx_layout.specs.Columns.{place_in, place_of, column_at, column_of, sector_of}

-- the blocks of a run lie one behind the other
pub record IsRun (unit : ℕ) (columns : List (List Strip)) (run : Run) : Type 0 where
  pub some : 0 < run.count
  pub places : (i : ℕ) → i < run.count → place_of unit columns (run.block + i) ≡ Some (record { disk = run.disk; sector = run.sector + i })

-- the second run begins where the first ends
abbrev pub Continues : Run → Run → Type 0
Continues first second = (second.disk ≡ first.disk) × (second.sector ≡ first.sector + first.count)

-- the run could not be joined with the next
abbrev pub IsApartFrom : Run → List Run → Type 0
IsApartFrom run [] = Unit {0}
IsApartFrom run (next ∷ rest) = ¬ Continues run next

-- these are the runs of the blocks from the first number up to the second
abbrev pub AreRuns : ℕ → List (List Strip) → ℕ → ℕ → List Run → Type 0
AreRuns unit columns start end [] = start ≡ end
AreRuns unit columns start end (run ∷ rest) =
    (run.block ≡ start) × IsRun unit columns run × IsApartFrom run rest × AreRuns unit columns (start + run.count) end rest

-- so many blocks from this one on are of one unit: they have the sectors that follow in its column
pub record IsInUnit (unit : ℕ) (columns : List (List Strip)) (block most count : ℕ) : Type 0 where
  pub some : 0 < count
  pub few : count ≤ most
  pub places : (i : ℕ) → i < count → place_of unit columns (block + i) ≡ place_in (column_at columns (column_of unit columns block)) (sector_of unit columns block + i)
