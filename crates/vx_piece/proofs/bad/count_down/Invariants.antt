use Rattle.std.proofs.Common.{◌≡◌, ◌++◌, take, drop}
use Rattle.vx_piece.specs.Bads.{bads_after}
use Rattle.vx_piece.proofs.bad.count_down.Given as goal

abbrev pub invariant-loop-bad : goal.invariant-loop-bad
invariant-loop-bad l = l.bads ≡ bads_after l.start l.count l.is_write (take l.bad-index l.initial.bads) ++ drop l.bad-index l.initial.bads
