use Rattle.std.proofs.Common.{◌≡◌, length, map}
use Rattle.vx_runs.proofs.Progress.{sectors_before, FirstParts}
use Rattle.vx_runs.proofs.ReadRuns.{WasRead, GivesUpTo}
use Rattle.vx_runs.proofs.run.read_run.Given as goal

abbrev pub invariant-loop-index : goal.invariant-loop-index
invariant-loop-index g l = record {
  start : l.start ≡ sectors_before l.index (map g.P.Piece.seen l.fn.pieces.items);
  size : length l.pieces.items ≡ length l.fn.pieces.items;
  done : FirstParts l.index WasRead 0 (map g.P.Piece.seen l.fn.pieces.items) (map g.P.Piece.seen l.pieces.items);
  long : length l.into ≡ length l.fn.into;
  gives : GivesUpTo l.start l.at l.into (map g.P.Piece.seen l.fn.pieces.items);
}
