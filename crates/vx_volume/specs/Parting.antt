-- A plex leaves a volume.
use Rattle.std.specs.Prelude.{◌≡◌, ℕ, List, map as map_list}
use Rattle.vx_mask.specs.Mask.{only, without}
use Rattle.vx_piece.specs.Seen.{Seen}
use Rattle.vx_pages.specs.Items.{EachItem}
use Rattle.vx_cell.specs.Parting.{LosesPlex, pieces_of}
use Rattle.vx_volume.specs.declared.volume.VolumeShape.{VolumeShape}
use Rattle.vx_volume.specs.Volume.{VolumeSeen, no_cell}

-- no region has a plex of this map now, and nothing else has changed
pub record LosesPlexes (map : ℕ) (old new : VolumeSeen) : Type 0 where
  pub cells : EachItem no_cell (λ r. LosesPlex map) old.cells new.cells
  pub same : new ≡ record old { cells = new.cells }

-- the pieces of the plex of this map, region by region
abbrev pub runs_of : ℕ → VolumeSeen → List (List Seen)
runs_of map v = map_list (λ c. pieces_of map c.plexes) v.cells

-- the masks of the volume without the plex
abbrev pub shape_without : VolumeShape → ℕ → VolumeShape
shape_without shape map = record shape { on = without shape.on (only map); off = without shape.off (only map) }
