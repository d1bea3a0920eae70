use Rattle.std.proofs.Common.{◌≡◌, ◌++◌, drop}
use Rattle.vx_new_volumes.specs.Disks.{without}
use Rattle.vx_new_volumes.proofs.disks.without.Given as goal

abbrev pub invariant-loop-disk : goal.invariant-loop-disk
invariant-loop-disk l = l.found.items ++ without l.avoid (drop l.disk-index l.disks) ≡ without l.avoid l.disks
