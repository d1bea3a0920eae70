-- The cells below the index have their marks, and the others are as they were.
use Rattle.std.proofs.Common.{◌≡◌, false, length}
use Rattle.std.specs.List.{All}
use Rattle.vx_cell.specs.Changes.{HasRoom}
use Rattle.vx_pages.proofs.Rounds.{Went}
use Rattle.vx_volume.specs.Changing.{IsRemarked}
use Rattle.vx_volume.specs.Log.{log_seen}
use Rattle.vx_volume.specs.Volume.{cells_seen, no_cell}
use Rattle.vx_volume.proofs.changing.remark_cells.Given as goal

abbrev pub invariant-loop-index : goal.invariant-loop-index
invariant-loop-index g l = record {
  went : Went no_cell (λ r. IsRemarked l.map l.lost ((log_seen g.P.Piece.seen l.log).claims r l.map)) l.index (cells_seen g.P.Piece.seen l.fn.cells.items) (cells_seen g.P.Piece.seen l.cells.items);
  size : length l.cells.items ≡ length l.fn.cells.items;
  room : l.lost ≡ false → All HasRoom l.fn.cells.items → All HasRoom l.cells.items;
}
