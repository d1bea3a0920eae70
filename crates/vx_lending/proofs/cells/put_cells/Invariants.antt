-- The cells that are left, the last first, and the pool are together what there was.
use Rattle.std.proofs.Common.{◌≡◌, ◌+◌, ◌≤◌, ◌++◌, List, length, map, reverse, vec_len, vec_capacity}
use Rattle.vx_carve.specs.Together.{SameSectors}
use Rattle.vx_cell.specs.Changes.{CellSeen}
use Rattle.vx_volume.specs.Volume.{cells_seen}
use Rattle.vx_lending.specs.RegionPieces.{all_pieces, cell_plexes}
use Rattle.vx_lending.proofs.cells.put_cells.Given as goal

abbrev pub invariant-left : goal.invariant-left
invariant-left g l = record {
  same : SameSectors (all_pieces (cell_plexes g.P.Piece.seen l.fn.cells.items) ++ map g.P.Piece.seen l.fn.pool.items.items) (all_pieces (cell_plexes g.P.Piece.seen l.left.items) ++ map g.P.Piece.seen l.pool.items.items);
  capacity : vec_capacity l.pool.items ≡ vec_capacity l.fn.pool.items;
  room : vec_len l.pool.items + length (all_pieces (cell_plexes g.P.Piece.seen l.left.items)) ≤ vec_len l.fn.pool.items + length (all_pieces (cell_plexes g.P.Piece.seen l.fn.cells.items));
  all : (done : List CellSeen) × (cells_seen g.P.Piece.seen l.fn.cells.items ≡ done ++ reverse (cells_seen g.P.Piece.seen l.left.items));
}

abbrev pub decreases-left : goal.decreases-left
decreases-left g l = vec_len l.left
