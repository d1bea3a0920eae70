use Rattle.std.proofs.Common.{◌≡◌, ◌++◌, drop}
use Rattle.vx_new_volumes.specs.Disks.{others}
use Rattle.vx_new_volumes.proofs.disks.others.Given as goal

abbrev pub invariant-loop-disk : goal.invariant-loop-disk
invariant-loop-disk l = l.found.items ++ others l.name (drop l.disk-index l.disks) ≡ others l.name l.disks
