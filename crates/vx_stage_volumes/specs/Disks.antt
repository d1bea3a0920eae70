-- The good disks of a configuration are those of its group.
use Rattle.std.specs.Prelude.{◌+◌, ◌==◌, ◌&&◌, ◌||◌, not, nat_le, ℕ, Bool, List}
use Rattle.std.specs.List.{list_all, list_any}
use Rattle.vx_mask.specs.Mask.{has}
use Rattle.vx_config_parts.specs.declared.disk.Disk.{Disk as Record}
use Rattle.vx_copies.specs.declared.disk.Disk.{Disk}

-- the disk has the slot of the record, and room for its public region behind the private one
abbrev pub is_disk_of : {P : Type 0} → Record → Disk P → Bool
is_disk_of r d = d.slot == r.slot && nat_le (2048 + r.publen) d.sectors

-- some disk of the group is that of the record
abbrev pub has_disk : {P : Type 0} → List (Disk P) → Record → Bool
has_disk ds r = list_any (is_disk_of r) ds

-- each record of a good slot has one
abbrev pub have_disks : {P : Type 0} → List (Disk P) → ℕ → List Record → Bool
have_disks ds good rs = list_all (λ r. not (has good r.slot) || has_disk ds r) rs
