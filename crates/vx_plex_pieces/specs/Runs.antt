-- The pieces of one plex, region by region.
use Rattle.std.specs.Prelude.{◌≡◌, ℕ, ◌+◌, List, length}
use Rattle.vx_piece.specs.Seen.{Seen}
use Rattle.vx_runs.specs.Run.{run_sectors}
use Rattle.vx_layout.specs.declared.layout.Layout.{Layout}
use Rattle.vx_carve.specs.Carved.{AreCut}
use Rattle.vx_cell.specs.Plexes.{PlexSeen}

-- there is one plex in the region
abbrev pub HasOnePlex : List PlexSeen → Type 0
HasOnePlex plexes = length plexes ≡ 1

-- the pieces are those of the runs of these blocks of the layout, and have together as many sectors
pub record IsRunOf (numbers : List ℕ) (layout : Layout) (start count : ℕ) (run : List Seen) : Type 0 where
  pub cut : AreCut numbers layout.unit layout.columns start (start + count) run
  pub long : run_sectors run ≡ count
