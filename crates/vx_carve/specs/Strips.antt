-- What is known of the strips of a layout, which decides where its blocks lie.
use Rattle.std.specs.Prelude.{◌≡◌, ◌≢◌, ◌==◌, ◌&&◌, nat_le, ℕ, ◌+◌, ◌<◌, Bool, List, true, length, slice_index, slice_index_or}
use Rattle.std.specs.List.{All, list_all, list_any, flat_map}
use Rattle.vx_piece.specs.Seen.{Seen}
use Rattle.vx_layout.specs.declared.strip.Strip.{Strip}
use Rattle.vx_layout.specs.declared.layout.Layout.{Layout}
use Rattle.vx_layout.specs.declared.run.Run.{Run}
use Rattle.vx_layout.specs.Valid.{is_apart}
use Rattle.vx_carve.specs.Together.{IsFree, owners}
use Rattle.vx_carve.specs.Carved.{wanted}

-- each strip of these columns is so
abbrev pub EachStrip : (Strip → Type 0) → List (List Strip) → Type 0
EachStrip P columns = All (λ strips. All P strips) columns

-- the device of the strip's slot has a number
abbrev pub HasNumber : List ℕ → Strip → Type 0
HasNumber numbers strip = strip.disk < length numbers

-- each sector of the strip is in one of the pieces
abbrev pub IsFreeStrip : List ℕ → List Seen → Strip → Type 0
IsFreeStrip numbers ps strip = IsFree (slice_index numbers strip.disk) (2048 + strip.start) strip.count ps

-- no strip of the one has a sector of a strip of the other
abbrev pub AreApartStrips : List (List Strip) → List (List Strip) → Type 0
AreApartStrips columns columns' = list_all (λ x. list_all (is_apart x) (flat_map (λ strips. strips) columns')) (flat_map (λ strips. strips) columns) ≡ true

-- the layouts of plexes: their devices have numbers, and no two have a sector in common
pub record ArePlexes (numbers : List ℕ) (layouts : List Layout) : Type 0 where
  pub numbered : All (λ (l : Layout). EachStrip (HasNumber numbers) l.columns) layouts
  pub apart : (j k : ℕ) (d : Layout) → j < length layouts → k < length layouts → j ≢ k → AreApartStrips (slice_index_or layouts j d).columns (slice_index_or layouts k d).columns

-- the runs are of disks that differ, each of which has a number
pub record AreOfDisks (numbers : List ℕ) (runs : List Run) : Type 0 where
  pub numbered : All (λ (r : Run). r.disk < length numbers) runs
  pub differ : (j k : ℕ) (d : Run) → j < length runs → k < length runs → (slice_index_or runs j d).disk ≡ (slice_index_or runs k d).disk → j ≡ k

-- each sector of the run is in one of the pieces
abbrev pub IsFreeRun : List ℕ → List Seen → Run → Type 0
IsFreeRun numbers ps run = IsFree (slice_index numbers run.disk) (2048 + run.sector) run.count ps

-- the device of the run's slot has a number, and each sector of the run is in one of the pieces
abbrev pub IsOpenRun : List ℕ → List Seen → Run → Type 0
IsOpenRun numbers ps run = (run.disk < length numbers) × IsFreeRun numbers ps run

-- the strip lies in one of these runs of disks
abbrev pub lies_in : List Run → Strip → Bool
lies_in runs strip = list_any (λ r. r.disk == strip.disk && nat_le r.sector strip.start && nat_le (strip.start + strip.count) (r.sector + r.count)) runs

-- each strip of these columns does
abbrev pub all_lie_in : List Run → List (List Strip) → Bool
all_lie_in runs columns = list_all (λ strips. list_all (lies_in runs) strips) columns

-- a sector is in as many of the pieces as of the runs
abbrev pub HaveTogether : List ℕ → List Run → List Seen → Type 0
HaveTogether numbers runs ps = (device sector : ℕ) → owners device sector ps ≡ wanted numbers device sector runs
