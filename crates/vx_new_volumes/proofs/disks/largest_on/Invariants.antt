use Rattle.std.proofs.Common.{◌≡◌, max, drop}
use Rattle.vx_new_volumes.specs.Disks.{largest_on}
use Rattle.vx_new_volumes.proofs.disks.largest_on.Given as goal

abbrev pub invariant-loop-disk : goal.invariant-loop-disk
invariant-loop-disk l = max l.largest (largest_on (drop l.disk-index l.disks) l.free) ≡ largest_on l.disks l.free
