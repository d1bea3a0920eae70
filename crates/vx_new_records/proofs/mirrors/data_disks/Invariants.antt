use Rattle.std.proofs.Common.{◌≡◌, ◌++◌, drop}
use Rattle.vx_new_volumes.specs.Mirrors.{data_disks_among, data_disks}
use Rattle.vx_new_records.proofs.mirrors.data_disks.Given as goal

abbrev pub invariant-loop-object : goal.invariant-loop-object
invariant-loop-object l = l.disks.items ++ data_disks_among l.group l.vol (drop l.object-index l.group) ≡ data_disks l.group l.vol
