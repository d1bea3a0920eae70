use Rattle.std.proofs.Common.{◌≡◌, length}
use Rattle.vx_cell.specs.Plexes.{plexes_seen}
use Rattle.vx_cell.proofs.Arms.{FirstArmed}
use Rattle.vx_cell.proofs.plex.arm_plexes.Given as goal

abbrev pub invariant-loop-index : goal.invariant-loop-index
invariant-loop-index g l = record {
  size : length l.plexes.items ≡ length l.fn.plexes.items;
  done : FirstArmed l.index l.stop (plexes_seen g.P.Piece.seen l.fn.plexes.items) (plexes_seen g.P.Piece.seen l.plexes.items);
}
