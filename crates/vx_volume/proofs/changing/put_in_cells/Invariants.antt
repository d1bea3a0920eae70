-- The cells from the index on have the plex, and the pieces of those below it are left.
use Rattle.std.proofs.Common.{◌≡◌, ℕ, ◌<◌, ◌≤◌, [], length, vec_len}
use Rattle.vx_pages.specs.Items.{item_at}
use Rattle.vx_volume.specs.Changing.{HasGot, runs_seen}
use Rattle.vx_volume.specs.Volume.{cells_seen, no_cell}
use Rattle.vx_volume.proofs.Downwards.{Came, RoomBelow}
use Rattle.vx_volume.proofs.changing.put_in_cells.Given as goal

abbrev pub invariant-putting : goal.invariant-putting
invariant-putting g l = record {
  came : Came no_cell (λ r. HasGot l.map (item_at [] (runs_seen g.P.Piece.seen l.fn.plexes.items) r)) l.index (cells_seen g.P.Piece.seen l.fn.cells.items) (cells_seen g.P.Piece.seen l.cells.items);
  left : vec_len l.left ≡ l.index;
  size : length l.cells.items ≡ length l.fn.cells.items;
  low : l.index ≤ length l.cells.items;
  runs : (r : ℕ) → r < l.index → item_at [] (runs_seen g.P.Piece.seen l.left.items) r ≡ item_at [] (runs_seen g.P.Piece.seen l.fn.plexes.items) r;
  room : RoomBelow l.index l.cells.items;
}

abbrev pub decreases-putting : goal.decreases-putting
decreases-putting g l = vec_len l.left
