-- What the pieces of a volume are as they are taken out of a pool.
use Rattle.std.specs.Prelude.{◌≡◌, ℕ, ◌*◌, ◌/◌, ◌<◌, ◌≤◌, List, [], ◌∷◌, length, slice_index_or}
use Rattle.std.specs.List.{All}
use Rattle.vx_block.specs.Regions.{region_count}
use Rattle.vx_block.specs.declared.geometry.Geometry.{Geometry}
use Rattle.vx_mapfmt.specs.Sizes.{map_bytes_of}
use Rattle.vx_piece.specs.Seen.{Seen}
use Rattle.vx_layout.specs.declared.layout.Layout.{Layout}
use Rattle.vx_layout.specs.Columns.{capacity}
use Rattle.vx_carve.specs.Carved.{AreCut}
use Rattle.vx_carve.specs.Strips.{AreApartStrips, EachStrip, HasNumber, IsFreeStrip}
use Rattle.vx_maps.specs.Copies.{AreCopies}

-- the sectors of a slot of a volume's log
abbrev pub slot_of : Geometry → ℕ
slot_of geometry = map_bytes_of (region_count geometry.length geometry.region) / 512

-- the sectors of the log, in 35 slots
abbrev pub log_sectors : Geometry → ℕ
log_sectors geometry = 35 * slot_of geometry

-- each of the layouts has so many blocks
abbrev pub HaveBlocks : ℕ → List Layout → Type 0
HaveBlocks blocks layouts = (k : ℕ) (d : Layout) → k < length layouts → blocks ≤ capacity (slice_index_or layouts k d).columns

-- the copies of a log: none, or one or two with room for so many sectors in each slot
abbrev pub AreLogCopies : ℕ → List (List Seen) → Type 0
AreLogCopies size [] = Unit {0}
AreLogCopies size (x ∷ xs) = AreCopies size (x ∷ xs)

-- a copy for each log plex: the pieces of the runs of its first blocks, so many
pub record AreTakenCopies (numbers : List ℕ) (logs : List Layout) (sectors : ℕ) (copies : List (List Seen)) : Type 0 where
  pub long : length copies ≡ length logs
  pub cut : (k : ℕ) (d : Layout) → k < length logs → AreCut numbers (slice_index_or logs k d).unit (slice_index_or logs k d).columns 0 sectors (slice_index_or copies k [])

-- the strips of a plex that has no sector of these layouts are in pieces as before
abbrev pub OthersStay : List ℕ → List Layout → List Seen → List Seen → Type 0
OthersStay numbers layouts old new =
    (other : Layout) → EachStrip (HasNumber numbers) other.columns → All (λ (l : Layout). AreApartStrips l.columns other.columns) layouts → EachStrip (IsFreeStrip numbers old) other.columns → EachStrip (IsFreeStrip numbers new) other.columns
