-- The plexes that are left, the last first, and the pool are together what there was.
use Rattle.std.proofs.Common.{◌≡◌, ◌+◌, ◌≤◌, ◌++◌, length, map, vec_len, vec_capacity}
use Rattle.vx_carve.specs.Together.{SameSectors}
use Rattle.vx_cell.specs.Plexes.{plexes_seen}
use Rattle.vx_lending.specs.RegionPieces.{pieces_of}
use Rattle.vx_lending.proofs.regions_back.put_plexes.Given as goal

abbrev pub invariant-left : goal.invariant-left
invariant-left g l = record {
  same : SameSectors (pieces_of (plexes_seen g.P.Piece.seen l.fn.plexes.items) ++ map g.P.Piece.seen l.fn.pool.items.items) (pieces_of (plexes_seen g.P.Piece.seen l.left.items) ++ map g.P.Piece.seen l.pool.items.items);
  capacity : vec_capacity l.pool.items ≡ vec_capacity l.fn.pool.items;
  room : vec_len l.pool.items + length (pieces_of (plexes_seen g.P.Piece.seen l.left.items)) ≤ vec_len l.fn.pool.items + length (pieces_of (plexes_seen g.P.Piece.seen l.fn.plexes.items));
}

abbrev pub decreases-left : goal.decreases-left
decreases-left g l = vec_len l.left
