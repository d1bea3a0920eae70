use Rattle.std.proofs.Common.{◌≡◌, ◌++◌, length, replicate, drop}
use Rattle.vx_block.proofs.reading.fill.Given as goal

abbrev pub invariant-loop-i : goal.invariant-loop-i
invariant-loop-i l = record {
  size : length l.out ≡ length l.fn.out;
  filled : l.out ≡ replicate l.i l.byte ++ drop l.i l.fn.out;
}
