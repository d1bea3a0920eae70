use Rattle.std.proofs.Common.{◌≡◌, ◌++◌, drop}
use Rattle.vx_space.specs.Gaps.{gaps}
use Rattle.vx_space.proofs.gaps.put_gaps.Given as goal

abbrev pub invariant-loop-subdisk : goal.invariant-loop-subdisk
invariant-loop-subdisk l = l.found.items ++ gaps l.disk l.at (drop l.subdisk-index l.subdisks) ≡ l.initial.found.items ++ gaps l.disk 0 l.subdisks
