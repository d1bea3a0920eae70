-- The first sector of a plex of change maps.
use Rattle.std.specs.Prelude.{ℕ, List, ◌++◌, codes}
use Rattle.vx_sector.specs.Fields.{zeros, eight_bytes, four_bytes}

-- the mark, the volume's length and the size of its regions, and the number of maps
unfoldable pub maps_header : ℕ → ℕ → ℕ → List ℕ
maps_header volume region maps = codes "vxdco020" ++ eight_bytes volume ++ eight_bytes region ++ four_bytes maps ++ zeros 484
