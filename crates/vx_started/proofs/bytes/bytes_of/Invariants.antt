use Rattle.std.proofs.Common.{◌≡◌, ◌*◌, take}
use Rattle.vx_started.proofs.bytes.bytes_of.Given as goal

-- the bytes of the first blocks
abbrev pub invariant-loop-index : goal.invariant-loop-index
invariant-loop-index l = l.bytes.items ≡ take (512 * l.index) l.blocks
