-- The pieces of a volume.
use Rattle.std.specs.Prelude.{List, ◌++◌}
use Rattle.std.specs.List.{flat_map}
use Rattle.vx_piece.specs.Seen.{Seen}
use Rattle.vx_maps.specs.Spares.{copies_seen}
use Rattle.vx_volume.specs.Opening.{regions_seen}
use Rattle.vx_lending.specs.RegionPieces.{all_pieces}
use Rattle.vx_lending.specs.declared.pieces.VolumePieces.{VolumePieces}

-- the pieces of a copy
abbrev pub own_pieces : List Seen → List Seen
own_pieces copy = copy

-- the pieces of the copies of a log, in order
abbrev pub copy_pieces : List (List Seen) → List Seen
copy_pieces copies = flat_map own_pieces copies

-- those of the plexes of each region, and of the copies of the log
abbrev pub volume_pieces : {P : Type 0} → (P → Seen) → VolumePieces P → List Seen
volume_pieces seen v = all_pieces (regions_seen seen v.regions.items) ++ copy_pieces (copies_seen seen v.copies.items)
