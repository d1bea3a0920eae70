-- What the plexes of a region are as they are taken out of a pool.
use Rattle.std.specs.Prelude.{◌≡◌, ℕ, ◌+◌, ◌-◌, ◌*◌, ◌<◌, ◌==◌, Bool, false, min, List, [], ◌∷◌, length, map, slice_index_or}
use Rattle.std.specs.List.{list_any}
use Rattle.vx_layout.specs.declared.layout.Layout.{Layout}
use Rattle.vx_carve.specs.Carved.{AreCut}
use Rattle.vx_cell.specs.Plexes.{PlexSeen, AllCover, MapsDiffer, holds}
use Rattle.vx_lending.specs.RegionPieces.{own_pieces}

-- the map is one of these
abbrev pub is_among : ℕ → List ℕ → Bool
is_among map maps = list_any (λ m. m == map) maps

-- no map is there twice
abbrev pub AreDifferent : List ℕ → Type 0
AreDifferent [] = Unit {0}
AreDifferent (m ∷ ms) = (is_among m ms ≡ false) × AreDifferent ms

abbrev pub own_map : PlexSeen → ℕ
own_map p = p.map

-- One plex of each layout, with its map. Its pieces are those of the runs of these blocks, and have together as many sectors.
pub record IsTakenRegion (numbers maps : List ℕ) (layouts : List Layout) (start count : ℕ) (plexes : List PlexSeen) : Type 0 where
  pub maps_are : map own_map plexes ≡ maps
  pub cut : (k : ℕ) (d : Layout) → k < length layouts → AreCut numbers (slice_index_or layouts k d).unit (slice_index_or layouts k d).columns start (start + count) (slice_index_or (map own_pieces plexes) k [])
  pub cover : AllCover count plexes
  pub held : (k : ℕ) → holds plexes k ≡ is_among k maps
  pub differ : MapsDiffer plexes

-- each region of a volume of so many blocks, with so many to a region, is taken so
abbrev pub AreTakenRegions : List ℕ → List ℕ → List Layout → ℕ → ℕ → List (List PlexSeen) → Type 0
AreTakenRegions numbers maps layouts blocks size regions =
    (r : ℕ) → r < length regions → IsTakenRegion numbers maps layouts (r * size) (min size (blocks - r * size)) (slice_index_or regions r [])
