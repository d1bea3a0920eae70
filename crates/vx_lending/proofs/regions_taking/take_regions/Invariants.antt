-- The regions so far are the last ones, the last first, and the blocks of the others are in the pool.
use Rattle.std.proofs.Common.{◌≡◌, ℕ, ◌+◌, ◌-◌, ◌*◌, ◌<◌, ◌≤◌, ◌++◌, [], length, map, min, get_or, vec_len, vec_capacity}
use Rattle.vx_block.specs.Regions.{region_count}
use Rattle.vx_layout.specs.declared.layout.Layout.{Layout}
use Rattle.vx_layout.specs.Columns.{place_of}
use Rattle.vx_carve.specs.Together.{SameSectors}
use Rattle.vx_carve.specs.Carved.{IsFreeAt, StaysBeside}
use Rattle.vx_volume.specs.Opening.{regions_seen}
use Rattle.vx_lending.specs.RegionPieces.{all_pieces}
use Rattle.vx_lending.specs.RegionsTaken.{IsTakenRegion}
use Rattle.vx_lending.proofs.regions_taking.take_regions.Given as goal

abbrev pub invariant-regions : goal.invariant-regions
invariant-regions g l = record {
  most : length l.regions.items + l.region ≡ region_count l.geometry.length l.geometry.region;
  room : vec_len l.regions + l.region ≤ vec_capacity l.regions;
  same : SameSectors (map g.P.Piece.seen l.fn.pool.items.items) (all_pieces (regions_seen g.P.Piece.seen l.regions.items) ++ map g.P.Piece.seen l.pool.items.items);
  beside : StaysBeside l.numbers l.layouts (l.region * l.geometry.region) l.geometry.length (map g.P.Piece.seen l.fn.pool.items.items) (map g.P.Piece.seen l.pool.items.items);
  free : (k : ℕ) (d : Layout) → k < length l.layouts → (b : ℕ) → b < l.region * l.geometry.region → b < l.geometry.length → IsFreeAt l.numbers (map g.P.Piece.seen l.pool.items.items) (place_of (get_or l.layouts k d).unit (get_or l.layouts k d).columns b);
  taken : (k : ℕ) → k < length l.regions.items → IsTakenRegion l.numbers l.maps l.layouts ((l.region + (length l.regions.items - 1 - k)) * l.geometry.region) (min l.geometry.region (l.geometry.length - (l.region + (length l.regions.items - 1 - k)) * l.geometry.region)) (get_or (regions_seen g.P.Piece.seen l.regions.items) k []);
}

abbrev pub decreases-regions : goal.decreases-regions
decreases-regions g l = l.region
