-- What the sectors of a plex of change maps show: the bits of regions, and whether the plex is one of a volume's.
use Rattle.std.specs.Prelude.{◌≡◌, ℕ, ◌/◌, ◌%◌, ◌&&◌, nat_lt, Bool, List, slice_index_or}
use Rattle.std.specs.Str.{bytes_eq}
use Rattle.vx_base.specs.Blocks.{Contents}
use Rattle.vx_mask.specs.Mask.{has}
use Rattle.vx_block.specs.Regions.{region_count}
use Rattle.vx_mapfmt.specs.Header.{maps_header}
use Rattle.vx_mapfmt.specs.Sizes.{map_bytes_of, page_sector}

-- the bit of a region in a page: of its byte the bit
abbrev pub bit_in : List ℕ → ℕ → Bool
bit_in page region = has (slice_index_or page (region % 4096 / 8) 0) (region % 8)

-- the page of a map that has the region's bit, in a plex that holds this
abbrev pub page_in : ℕ → Contents → ℕ → ℕ → List ℕ
page_in regions contents map region = contents (page_sector (map_bytes_of regions) map (region / 4096))

-- the plex marks the region in the map; regions behind the last and maps behind the last are marked nowhere
abbrev pub marks : ℕ → Contents → ℕ → ℕ → Bool
marks regions contents map region = (nat_lt region regions && nat_lt map 32) && bit_in (page_in regions contents map region) region

-- the plex begins with the header of the maps of a volume of this length and region size
abbrev pub is_headed : ℕ → ℕ → Contents → Bool
is_headed length region contents = bytes_eq (contents 0) (maps_header length region 32)
