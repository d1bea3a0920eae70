-- The copies that are left and the pool are together what there was.
use Rattle.std.proofs.Common.{◌≡◌, ◌+◌, ◌≤◌, ◌++◌, length, map, vec_len, vec_capacity}
use Rattle.vx_carve.specs.Together.{SameSectors}
use Rattle.vx_maps.specs.Spares.{copies_seen}
use Rattle.vx_lending.specs.Pieces.{copy_pieces}
use Rattle.vx_lending.proofs.back.put_copies.Given as goal

abbrev pub invariant-left : goal.invariant-left
invariant-left g l = record {
  same : SameSectors (copy_pieces (copies_seen g.P.Piece.seen l.fn.copies.items) ++ map g.P.Piece.seen l.fn.pool.items.items) (copy_pieces (copies_seen g.P.Piece.seen l.left.items) ++ map g.P.Piece.seen l.pool.items.items);
  capacity : vec_capacity l.pool.items ≡ vec_capacity l.fn.pool.items;
  room : vec_len l.pool.items + length (copy_pieces (copies_seen g.P.Piece.seen l.left.items)) ≤ vec_len l.fn.pool.items + length (copy_pieces (copies_seen g.P.Piece.seen l.fn.copies.items));
}

abbrev pub decreases-left : goal.decreases-left
decreases-left g l = vec_len l.left
