-- The test whether a disk of a configuration is one of a group's.
use Rattle.std.specs.Prelude.{ℕ, ◌-◌, ◌==◌, ◌&&◌, nat_lt, nat_le, Bool, List, length, slice_index}
use Rattle.vx_config_parts.specs.declared.disk.Disk.{Disk}
use Rattle.vx_copies.specs.Disks.{DiskSeen}

-- the slot of the disk has the number of the device, which has room for its public region
abbrev pub is_disk_on : List ℕ → Disk → DiskSeen → Bool
is_disk_on numbers d h = nat_lt d.slot (length numbers) && slice_index numbers d.slot == h.seen.device && nat_le 2048 h.sectors && nat_le d.publen (h.sectors - 2048)
