-- The regions that are left and the pool are together what there was.
use Rattle.std.proofs.Common.{◌≡◌, ◌+◌, ◌≤◌, ◌++◌, length, map, vec_len, vec_capacity}
use Rattle.vx_carve.specs.Together.{SameSectors}
use Rattle.vx_volume.specs.Opening.{regions_seen}
use Rattle.vx_lending.specs.RegionPieces.{all_pieces}
use Rattle.vx_lending.proofs.regions_back.put_last.Given as goal

abbrev pub invariant-left : goal.invariant-left
invariant-left g l = record {
  same : SameSectors (all_pieces (regions_seen g.P.Piece.seen l.fn.regions.items) ++ map g.P.Piece.seen l.fn.pool.items.items) (all_pieces (regions_seen g.P.Piece.seen l.left.items) ++ map g.P.Piece.seen l.pool.items.items);
  capacity : vec_capacity l.pool.items ≡ vec_capacity l.fn.pool.items;
  room : vec_len l.pool.items + length (all_pieces (regions_seen g.P.Piece.seen l.left.items)) ≤ vec_len l.fn.pool.items + length (all_pieces (regions_seen g.P.Piece.seen l.fn.regions.items));
}

abbrev pub decreases-left : goal.decreases-left
decreases-left g l = vec_len l.left
