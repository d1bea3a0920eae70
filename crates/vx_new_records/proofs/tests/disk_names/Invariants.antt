use Rattle.std.proofs.Common.{◌≡◌, ◌||◌, ℕ, List, drop}
use Rattle.vx_rules.specs.References.{has_disk}
use Rattle.vx_new_volumes.specs.Naming.{is_known}
use Rattle.vx_new_records.proofs.tests.disk_names.Given as goal

abbrev pub invariant-loop-object : goal.invariant-loop-object
invariant-loop-object l = (name : List ℕ) → (is_known l.disks.items name || has_disk name (drop l.object-index l.group)) ≡ has_disk name l.group
