use Rattle.std.proofs.Common.{◌≡◌, ◌≤◌, ◌-◌, drop}
use Rattle.vx_new_volumes.specs.Disks.{total_on}
use Rattle.vx_new_volumes.proofs.disks.total_up_to.Given as goal

abbrev pub invariant-loop-disk : goal.invariant-loop-disk
invariant-loop-disk l = record { rest : l.lacking - total_on (drop l.disk-index l.disks) l.free ≡ l.need - total_on l.disks l.free; within : l.lacking ≤ l.need }
