use Rattle.std.proofs.Common.{◌≡◌, length, map}
use Rattle.vx_runs.specs.Run.{IsArmed}
use Rattle.vx_runs.proofs.Progress.{FirstParts}
use Rattle.vx_runs.proofs.run.arm_run.Given as goal

abbrev pub invariant-loop-index : goal.invariant-loop-index
invariant-loop-index g l = record {
  size : length l.pieces.items ≡ length l.fn.pieces.items;
  done : FirstParts l.index (λ start p q. IsArmed l.stop p q) 0 (map g.P.Piece.seen l.fn.pieces.items) (map g.P.Piece.seen l.pieces.items);
}
