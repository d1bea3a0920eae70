-- The cells below the index have the plex on or off, and the others are as they were.
use Rattle.std.proofs.Common.{◌≡◌, length}
use Rattle.vx_volume.specs.Switching.{IsSwitched}
use Rattle.vx_pages.proofs.Rounds.{Went}
use Rattle.vx_volume.specs.Volume.{cells_seen, no_cell}
use Rattle.vx_volume.proofs.switching.switch_cells.Given as goal

abbrev pub invariant-loop-index : goal.invariant-loop-index
invariant-loop-index g l = record {
  went : Went no_cell (λ i. IsSwitched l.map l.on) l.index (cells_seen g.P.Piece.seen l.fn.cells.items) (cells_seen g.P.Piece.seen l.cells.items);
  size : length l.cells.items ≡ length l.fn.cells.items;
}
