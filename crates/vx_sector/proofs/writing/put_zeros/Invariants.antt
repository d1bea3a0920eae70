use Rattle.std.proofs.Common.{◌≡◌, ◌++◌, ◌+◌, take, replicate, length}
use Rattle.vx_sector.proofs.writing.put_zeros.Given as goal

abbrev pub invariant-loop-i : goal.invariant-loop-i
invariant-loop-i l = record {
  size : length l.out ≡ length l.fn.out;
  front : take (l.at + l.i) l.out ≡ take l.at l.fn.out ++ replicate l.i 0;
}
