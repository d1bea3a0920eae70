-- The cells so far are those of the first regions, and the rest are left, the last first.
use Rattle.std.proofs.Common.{◌≡◌, ℕ, ◌+◌, ◌<◌, ◌≤◌, ◌++◌, length, map, reverse, vec_len, vec_capacity}
use Rattle.vx_cell.specs.Changes.{CellSeen}
use Rattle.vx_pages.specs.Items.{item_at}
use Rattle.vx_volume.specs.Log.{log_seen}
use Rattle.vx_volume.specs.Opening.{IsOpenedCell, count_of, regions_seen}
use Rattle.vx_volume.specs.Volume.{cells_seen, no_cell}
use Rattle.vx_volume.proofs.opening.cells_of.Given as goal

abbrev pub invariant-opening : goal.invariant-opening
invariant-opening g l = record {
  same : map (λ (c : CellSeen). c.plexes) (cells_seen g.P.Piece.seen l.cells.items) ++ reverse (regions_seen g.P.Piece.seen l.left.items) ≡ regions_seen g.P.Piece.seen l.fn.regions.items;
  count : length l.cells.items ≡ l.region;
  each : (r : ℕ) → r < l.region → IsOpenedCell l.shape (log_seen g.P.Piece.seen l.log) r (item_at no_cell (cells_seen g.P.Piece.seen l.cells.items) r).plexes (item_at no_cell (cells_seen g.P.Piece.seen l.cells.items) r);
  total : l.region + vec_len l.left ≡ count_of l.shape;
  room : vec_len l.cells + vec_len l.left ≤ vec_capacity l.cells;
}

abbrev pub decreases-opening : goal.decreases-opening
decreases-opening g l = vec_len l.left
