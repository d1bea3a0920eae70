-- The records and members that devices become.
use Rattle.std.specs.Prelude.{ℕ, zero, suc, ◌+◌, ◌-◌, ◌^◌, ◌==◌, ◌&&◌, nat_lt, nat_le, Bool, if◌then◌else◌, Option, Some, None, List, [], ◌∷◌, map}
use Rattle.std.specs.List.{list_all, list_any}
use Rattle.vx_base.specs.Named.{Word}
use Rattle.vx_config_parts.specs.declared.disk.Disk.{Disk}
use Rattle.vx_config_parts.specs.declared.object.Object.{Object}
use Rattle.vx_config_parts.specs.declared.object.Object.TheVariants.{GroupRecord, DiskRecord}
use Rattle.vx_objects.specs.declared.config.Config.{Config}
use Rattle.vx_script_words.specs.declared.value.DiskAt.{DiskAt}
use Rattle.vx_moments.specs.World.{World, Device, Member, Group}

abbrev pub devices_of : List DiskAt → List Word
devices_of disks = map (λ p. p.device) disks

abbrev pub names_of : List DiskAt → List Word
names_of disks = map (λ p. p.disk) disks

abbrev pub sectors_in : Option Device → ℕ
sectors_in None = 0
sectors_in (Some d) = d.sectors

-- the sectors of the device of a name
abbrev pub sectors_at : World → Word → ℕ
sectors_at w name = sectors_in (w.devices name)

-- the size is that of a disk
abbrev pub is_disk_size : ℕ → Bool
is_disk_size sectors = nat_lt 2048 sectors && nat_le sectors (2 ^ 40)

-- all these devices have the size of a disk
abbrev pub are_disk_sized : World → List Word → Bool
are_disk_sized w devices = list_all (λ name. is_disk_size (sectors_at w name)) devices

-- the record of a disk
abbrev pub disk_record : DiskAt → ℕ → ℕ → Disk
disk_record p slot sectors = record { name = p.disk; device = p.device; slot = slot; publen = sectors - 2048 }

-- a device as a member
abbrev pub member_at : DiskAt → ℕ → Member
member_at p slot = record { device = p.device; disk = p.disk; slot = slot }

-- the lowest of so many slots from this one up that no disk has
abbrev pub free_slot_from : ℕ → ℕ → Config → Option ℕ
free_slot_from zero slot config = None
free_slot_from (suc n) slot config = if list_any (λ d. d.slot == slot) config.disks then free_slot_from n (slot + 1) config else Some slot

abbrev pub slot_or_last : Option ℕ → ℕ
slot_or_last None = 32
slot_or_last (Some slot) = slot

-- the lowest free slot; where all are taken, the first that no disk can have
unfoldable pub next_slot : Config → ℕ
next_slot config = slot_or_last (free_slot_from 32 0 config)

-- the slot that a new disk of the imported group has
abbrev pub slot_in : Option Group → ℕ
slot_in None = 0
slot_in (Some g) = next_slot g.config

-- the records of a new group: its disks have the slots from this one up
abbrev pub disk_records : ℕ → World → List DiskAt → List Object
disk_records slot w [] = []
disk_records slot w (p ∷ ps) = DiskRecord (disk_record p slot (sectors_at w p.device)) ∷ disk_records (slot + 1) w ps

abbrev pub new_records : Word → World → List DiskAt → List Object
new_records dg w disks = GroupRecord (record { name = dg; version = 1 }) ∷ disk_records 0 w disks

abbrev pub new_members : ℕ → List DiskAt → List Member
new_members slot [] = []
new_members slot (p ∷ ps) = member_at p slot ∷ new_members (slot + 1) ps
