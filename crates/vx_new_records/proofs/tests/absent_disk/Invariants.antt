use Rattle.std.proofs.Common.{◌≡◌, drop}
use Rattle.vx_new_volumes.specs.Tests.{absent_disk}
use Rattle.vx_new_records.proofs.tests.absent_disk.Given as goal

abbrev pub invariant-loop-name : goal.invariant-loop-name
invariant-loop-name l = absent_disk l.group (drop l.name-index l.names) ≡ absent_disk l.group l.names
