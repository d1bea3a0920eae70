-- What the regions of one plex are, and what they are good for.
use Rattle.std.specs.Prelude.{◌≡◌, ℕ, ◌-◌, ◌*◌, ◌<◌, true, List, [], ◌∷◌, length, map, min}
use Rattle.std.specs.List.{All}
use Rattle.vx_block.specs.Regions.{region_count}
use Rattle.vx_mask.specs.Mask.{has}
use Rattle.vx_layout.specs.declared.layout.Layout.{Layout}
use Rattle.vx_cell.specs.Plexes.{PlexSeen}
use Rattle.vx_pages.specs.Items.{item_at}
use Rattle.vx_volume.specs.Changing.{IsPlexFor}
use Rattle.vx_volume.specs.Volume.{VolumeSeen, IsVolume, cell_at}
use Rattle.vx_lending.specs.RegionPieces.{pieces_of}
use Rattle.vx_lending.specs.RegionsTaken.{AreTakenRegions}
use Rattle.vx_plex_pieces.specs.Runs.{HasOnePlex, IsRunOf}

-- Regions that were taken with one map have a plex each, whose pieces are those of the blocks of the region.
abbrev pub EachTakenRegionIsARun : Type 0
EachTakenRegionIsARun =
    (numbers : List ℕ) (own : ℕ) (layout : Layout) (blocks size : ℕ) (regions : List (List PlexSeen)) → AreTakenRegions numbers (own ∷ []) (layout ∷ []) blocks size regions →
    All HasOnePlex regions × ((r : ℕ) → r < length regions → IsRunOf numbers layout (r * size) (min size (blocks - r * size)) (item_at [] (map pieces_of regions) r))

-- So such regions are a plex for a volume of these blocks and regions, where each region is marked for it.
abbrev pub EachTakenPlexMayBePut : Type 0
EachTakenPlexMayBePut =
    (numbers : List ℕ) (own : ℕ) (layout : Layout) (v : VolumeSeen) (regions : List (List PlexSeen)) → IsVolume v → length regions ≡ region_count v.length v.region →
    AreTakenRegions numbers (own ∷ []) (layout ∷ []) v.length v.region regions → ((r : ℕ) → r < length v.cells → has (cell_at v r).stage.bits own ≡ true) → IsPlexFor own (map pieces_of regions) v
