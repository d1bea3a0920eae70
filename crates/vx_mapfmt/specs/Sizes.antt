-- The sizes of a plex that holds the change maps of a volume, and the places in it.
use Rattle.std.specs.Prelude.{ℕ, ◌+◌, ◌-◌, ◌*◌, ◌/◌}

-- how many of a size it takes
abbrev pub parts_of : ℕ → ℕ → ℕ
parts_of size n = (n + (size - 1)) / size

-- a sector and a bit for each region, in whole 8,192 bytes
abbrev pub map_bytes_of : ℕ → ℕ
map_bytes_of regions = parts_of 8192 (512 + parts_of 8 regions) * 8192

-- three slots before the maps, each as large as a map
abbrev pub plex_bytes_of : ℕ → ℕ → ℕ
plex_bytes_of maps map_bytes = (3 + maps) * map_bytes

-- a page is one sector and has the bits of 4,096 regions
abbrev pub page_count : ℕ → ℕ
page_count regions = parts_of 4096 regions

-- the sector of the plex that holds a page of a map: the map's slot, its first sector, and the pages before
abbrev pub page_sector : ℕ → ℕ → ℕ → ℕ
page_sector map_bytes map page = (3 + map) * map_bytes / 512 + 1 + page
