-- The cells below the index have lost the plex, and the others are as they were; the pieces of those stand in the list.
use Rattle.std.proofs.Common.{◌≡◌, ◌≤◌, length, map, take, vec_capacity}
use Rattle.vx_pages.proofs.Rounds.{Went}
use Rattle.vx_cell.specs.Parting.{LosesPlex, pieces_of}
use Rattle.vx_volume.specs.Changing.{runs_seen}
use Rattle.vx_volume.specs.Volume.{cells_seen, no_cell}
use Rattle.vx_volume.proofs.parting.take_from_cells.Given as goal

abbrev pub invariant-loop-index : goal.invariant-loop-index
invariant-loop-index g l = record {
  went : Went no_cell (λ i. LosesPlex l.map) l.index (cells_seen g.P.Piece.seen l.fn.cells.items) (cells_seen g.P.Piece.seen l.cells.items);
  size : length l.cells.items ≡ length l.fn.cells.items;
  runs : runs_seen g.P.Piece.seen l.runs.items ≡ map (λ c. pieces_of l.map c.plexes) (take l.index (cells_seen g.P.Piece.seen l.fn.cells.items));
  count : length l.runs.items ≡ l.index;
  room : length l.fn.cells.items ≤ vec_capacity l.runs;
}
