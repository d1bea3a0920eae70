use Rattle.std.proofs.Common.{◌≡◌, ◌*◌, ◌++◌, length, take, drop}
use Rattle.vx_block.specs.Reading.{bytes_of}
use Rattle.vx_block.proofs.reading.read_bytes.Given as goal

-- the bytes so far, and those of the digits that are left, are those of all
abbrev pub invariant-loop-i : goal.invariant-loop-i
invariant-loop-i l = record {
  size : length l.out ≡ length l.fn.out;
  told : take l.i l.out ++ bytes_of (drop (2 * l.i) l.digits) ≡ bytes_of l.digits;
}
