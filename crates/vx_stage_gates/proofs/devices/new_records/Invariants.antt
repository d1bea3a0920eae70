use Rattle.std.proofs.Common.{◌≡◌, take}
use Rattle.vx_stages.specs.Records.{new_records}
use Rattle.vx_house.specs.Plain.{plain}
use Rattle.vx_stage_gates.proofs.devices.new_records.Given as goal

-- the records of the disks so far
abbrev pub invariant-loop-disk : goal.invariant-loop-disk
invariant-loop-disk g l = record {
  slot : l.slot ≡ l.disk-index;
  records : l.records.items ≡ new_records l.dg (plain g.P.Piece.seen l.house) (take l.disk-index l.disks);
}
