use Rattle.std.proofs.Common.{◌≡◌, ◌++◌, drop}
use Rattle.std.specs.List.{filter}
use Rattle.vx_new_volumes.specs.Disks.{is_among}
use Rattle.vx_new_volumes.proofs.disks.those_among.Given as goal

abbrev pub invariant-loop-disk : goal.invariant-loop-disk
invariant-loop-disk l = l.found.items ++ filter (is_among l.names) (drop l.disk-index l.disks) ≡ filter (is_among l.names) l.disks
