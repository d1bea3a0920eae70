use Rattle.std.proofs.Common.{◌≡◌, drop}
use Rattle.vx_new_volumes.specs.Disks.{first_with}
use Rattle.vx_new_volumes.proofs.disks.first_with.Given as goal

abbrev pub invariant-loop-disk : goal.invariant-loop-disk
invariant-loop-disk l = first_with l.need (drop l.disk-index l.disks) l.free ≡ first_with l.need l.disks l.free
