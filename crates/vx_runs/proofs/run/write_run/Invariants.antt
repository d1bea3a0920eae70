use Rattle.std.proofs.Common.{◌≡◌, length, map, Ok}
use Rattle.vx_runs.specs.Part.{IsPartWritten}
use Rattle.vx_runs.proofs.Progress.{sectors_before, FirstParts}
use Rattle.vx_runs.proofs.run.write_run.Given as goal

abbrev pub invariant-loop-index : goal.invariant-loop-index
invariant-loop-index g l = record {
  start : l.start ≡ sectors_before l.index (map g.P.Piece.seen l.fn.pieces.items);
  size : length l.pieces.items ≡ length l.fn.pieces.items;
  done : FirstParts l.index (λ start p q. IsPartWritten {T = Unit {0}} start l.at l.from p q (Ok tt)) 0 (map g.P.Piece.seen l.fn.pieces.items) (map g.P.Piece.seen l.pieces.items);
}
