use Rattle.std.proofs.Common.{◌≡◌, ◌++◌, length}
use Rattle.vx_script_words.specs.Packed.{paired}
use Rattle.vx_script_words.proofs.disks.pairs_of.Given as goal

abbrev pub invariant-loop-rest : goal.invariant-loop-rest
invariant-loop-rest l = l.disks.items ++ paired l.rest ≡ paired l.names

abbrev pub decreases-loop-rest : goal.decreases-loop-rest
decreases-loop-rest l = length l.rest
