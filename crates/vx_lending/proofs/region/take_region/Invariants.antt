-- The plexes so far are those of the first layouts, and the blocks of the others are in the pool.
use Rattle.std.proofs.Common.{◌≡◌, ℕ, ◌+◌, ◌-◌, ◌<◌, ◌≤◌, ◌++◌, [], length, map, take, get_or, vec_len, vec_capacity}
use Rattle.vx_layout.specs.declared.layout.Layout.{Layout}
use Rattle.vx_layout.specs.Columns.{place_of}
use Rattle.vx_carve.specs.Together.{SameSectors, owners}
use Rattle.vx_carve.specs.Carved.{AreFreeBlocks, AreCut, IsAt}
use Rattle.vx_cell.specs.Plexes.{plexes_seen}
use Rattle.vx_lending.specs.RegionPieces.{own_pieces, pieces_of}
use Rattle.vx_lending.specs.RegionsTaken.{own_map}
use Rattle.vx_lending.proofs.region.take_region.Given as goal

abbrev pub invariant-plexes : goal.invariant-plexes
invariant-plexes g l = record {
  most : l.i ≤ length l.layouts;
  long : length l.plexes.items ≡ l.i;
  room : vec_len l.plexes + (length l.layouts - l.i) ≤ vec_capacity l.plexes;
  maps_are : map own_map (plexes_seen g.P.Piece.seen l.plexes.items) ≡ take l.i l.maps;
  same : SameSectors (map g.P.Piece.seen l.fn.pool.items.items) (pieces_of (plexes_seen g.P.Piece.seen l.plexes.items) ++ map g.P.Piece.seen l.pool.items.items);
  beside : (device sector : ℕ) → ((k : ℕ) (d : Layout) → k < l.i → (b : ℕ) → l.span.start ≤ b → b < l.span.start + l.span.count → IsAt l.numbers device sector (place_of (get_or l.layouts k d).unit (get_or l.layouts k d).columns b) → ⊥) → owners device sector (map g.P.Piece.seen l.pool.items.items) ≡ owners device sector (map g.P.Piece.seen l.fn.pool.items.items);
  free : (k : ℕ) (d : Layout) → l.i ≤ k → k < length l.layouts → AreFreeBlocks l.numbers (get_or l.layouts k d).unit (get_or l.layouts k d).columns l.span.start (l.span.start + l.span.count) (map g.P.Piece.seen l.pool.items.items);
  cut : (k : ℕ) (d : Layout) → k < l.i → AreCut l.numbers (get_or l.layouts k d).unit (get_or l.layouts k d).columns l.span.start (l.span.start + l.span.count) (get_or (map own_pieces (plexes_seen g.P.Piece.seen l.plexes.items)) k []);
}

abbrev pub decreases-plexes : goal.decreases-plexes
decreases-plexes g l = length l.layouts - l.i
