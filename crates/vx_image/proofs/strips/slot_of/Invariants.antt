use Rattle.std.proofs.Common.{◌≡◌, drop}
use Rattle.vx_image.specs.Lies.{slot_of}
use Rattle.vx_image.proofs.strips.slot_of.Given as goal

abbrev pub invariant-loop-disk : goal.invariant-loop-disk
invariant-loop-disk l = slot_of (drop l.disk-index l.disks) l.name ≡ slot_of l.disks l.name
