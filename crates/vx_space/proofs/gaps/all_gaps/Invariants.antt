use Rattle.std.proofs.Common.{◌≡◌, ◌++◌, drop}
use Rattle.vx_space.specs.Gaps.{all_gaps}
use Rattle.vx_space.proofs.gaps.all_gaps.Given as goal

abbrev pub invariant-loop-disk : goal.invariant-loop-disk
invariant-loop-disk l = l.found.items ++ all_gaps l.subdisks (drop l.disk-index l.disks) ≡ all_gaps l.subdisks l.disks
