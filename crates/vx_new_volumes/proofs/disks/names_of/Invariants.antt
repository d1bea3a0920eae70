use Rattle.std.proofs.Common.{◌≡◌, ◌++◌, drop}
use Rattle.vx_new_volumes.specs.Disks.{names_of}
use Rattle.vx_new_volumes.proofs.disks.names_of.Given as goal

abbrev pub invariant-loop-disk : goal.invariant-loop-disk
invariant-loop-disk l = l.names.items ++ names_of (drop l.disk-index l.disks) ≡ names_of l.disks
