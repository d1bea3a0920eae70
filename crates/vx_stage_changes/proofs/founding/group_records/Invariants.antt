use Rattle.std.proofs.Common.{◌≡◌, take}
use Rattle.vx_stage_changes.specs.Creating.{group_records}
use Rattle.vx_stage_changes.proofs.founding.group_records.Given as goal

-- the records of the disks so far
abbrev pub invariant-loop-disk : goal.invariant-loop-disk
invariant-loop-disk g l = l.records.items ≡ group_records l.dg (take l.disk-index l.disks)
