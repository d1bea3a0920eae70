-- The cells below the index have room, and all are seen as they were.
use Rattle.std.proofs.Common.{◌≡◌, length, take}
use Rattle.std.specs.List.{All}
use Rattle.vx_cell.specs.Changes.{HasRoom}
use Rattle.vx_volume.specs.Volume.{cells_seen}
use Rattle.vx_volume.proofs.changing.reserve_cells.Given as goal

abbrev pub invariant-loop-index : goal.invariant-loop-index
invariant-loop-index g l = record {
  same : cells_seen g.P.Piece.seen l.cells.items ≡ cells_seen g.P.Piece.seen l.fn.cells.items;
  size : length l.cells.items ≡ length l.fn.cells.items;
  room : All HasRoom (take l.index l.cells.items);
}
