use Rattle.std.proofs.Common.{◌≡◌, ◌++◌, drop}
use Rattle.vx_new_volumes.specs.Steps.{gather}
use Rattle.vx_new_volumes.proofs.gather.gather.Given as goal

abbrev pub invariant-loop-disk : goal.invariant-loop-disk
invariant-loop-disk l = record {
  part : l.extents.items ++ (gather l.lacking (drop l.disk-index l.disks) l.free).part ≡ (gather l.need l.disks l.initial.free).part;
  disks : l.kept.items ++ (gather l.lacking (drop l.disk-index l.disks) l.free).disks ≡ (gather l.need l.disks l.initial.free).disks;
  free : (gather l.lacking (drop l.disk-index l.disks) l.free).free ≡ (gather l.need l.disks l.initial.free).free;
}
