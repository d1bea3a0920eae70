-- A group that is made of the devices in hand.
use Rattle.std.specs.Prelude.{◌≡◌, ◌⊎◌, ℕ, ◌+◌, ◌-◌, ◌<◌, ◌&&◌, Bool, true, List, [], ◌∷◌, map, Result, Ok, Err}
use Rattle.std.specs.List.{list_all}
use Rattle.vx_pages.specs.declared.local_piece.LocalPiece.{Ghosts}
use Rattle.vx_base.specs.Named.{Word}
use Rattle.vx_piece.specs.Seen.{Seen}
use Rattle.vx_header.specs.Sectors.{is_short_name}
use Rattle.vx_copies.specs.Disks.{disk_seen}
use Rattle.vx_copies.specs.declared.disk.Disk.{Disk}
use Rattle.vx_confdb.specs.Create.{IsFounded, RefusedBy}
use Rattle.vx_confdb.specs.Enlisted.{IsMadeOf, AreBegun}
use Rattle.vx_confdb.specs.Groups.{members}
use Rattle.vx_confdb.specs.declared.fault.GroupFault.{GroupFault}
use Rattle.vx_config_parts.specs.declared.disk.Disk.{Disk as Record}
use Rattle.vx_config_parts.specs.declared.object.Object.{Object}
use Rattle.vx_config_parts.specs.declared.object.Object.TheVariants.{GroupRecord, DiskRecord}
use Rattle.vx_objects.specs.declared.config.Config.{Config}
use Rattle.vx_objects.specs.Config.{objects_of}
use Rattle.vx_script_words.specs.declared.value.DiskAt.{DiskAt}
use Rattle.vx_stages.specs.Records.{is_disk_size}
use Rattle.vx_lending.specs.Public.{lent_pieces, still_pieces}
use Rattle.vx_house.specs.Goes.{IsBlankSeen}
use Rattle.vx_house.specs.View.{IsGroupIdle}
use Rattle.vx_house.specs.declared.house.Imported.{Imported}
use Rattle.vx_house.specs.declared.house.Taken.{Taken}
use Rattle.vx_house.specs.declared.stop.Stop.{Stop}
use Rattle.vx_house.specs.declared.stop.Stop.TheVariants as stops
use Rattle.vx_stage_changes.specs.Committing.{stop_of}
use Rattle.vx_stage_changes.specs.Joining.{disk_for}
use Rattle.vx_stage_changes.specs.Planning.{IsShortText}
use Rattle.vx_stage_changes.specs.declared.founding.Unfounded.{Unfounded}

-- the devices as disks, with the names of the words in their order and the slots from this one up
abbrev pub disks_from : {P : Type 0} → (P → Seen) → ℕ → List (Taken P) → List DiskAt → List (Disk P)
disks_from see slot [] ps = []
disks_from see slot (t ∷ ts) [] = []
disks_from see slot (t ∷ ts) (p ∷ ps) = disk_for see p slot t ∷ disks_from see (slot + 1) ts ps

-- a disk as a device in hand
abbrev pub taken_of : {P : Type 0} → Disk P → Taken P
taken_of d = record { device = d.device; piece = d.piece }

-- the record of a disk, which has its public region behind the private one
abbrev pub record_of : {P : Type 0} → Disk P → Record
record_of d = record { name = d.name; device = d.device; slot = d.slot; publen = d.sectors - 2048 }

-- the records of a group and of its disks
abbrev pub group_records : {P : Type 0} → Word → List (Disk P) → List Object
group_records dg ds = GroupRecord (record { name = dg; version = 1 }) ∷ map (λ d. DiskRecord (record_of d)) ds

-- the disk has a size and a name that one may have
abbrev pub is_fit : {P : Type 0} → Disk P → Bool
is_fit d = is_disk_size d.sectors && is_short_name d.name

-- the group has a name that one may have, and each of its disks is fit
abbrev pub are_fit : {P : Type 0} → Word → List (Disk P) → Bool
are_fit dg ds = is_short_name dg && list_all is_fit ds

-- a disk that nothing was written to, on a device without a header
pub record IsUnwritten {P : Type 0} (see : P → Seen) (d : Disk P) : Type 0 where
  pub good : d.good ≡ true
  pub slot : d.slot < 32
  pub half : d.half < 2
  pub sectors : (see d.piece).sectors ≡ d.sectors
  pub blank : IsBlankSeen (see d.piece)

-- a configuration of these disks, and its text
pub record IsDrawn {P : Type 0} (dg : Word) (ds : List (Disk P)) (config : Config) (text : List ℕ) : Type 0 where
  pub records : objects_of config ≡ group_records dg ds
  pub printed : IsShortText config text

-- a group was made, and its disks carry the text
pub record IsFoundedBy {P : Type 0} {ghosts : Ghosts P} (see : P → Seen) (dg : Word) (g : Imported P ghosts) (ds : List (Disk P)) : Type 0 where
  pub text : List ℕ
  pub drawn : IsDrawn dg ds g.config text
  pub founded : IsFounded see dg text ds g.base
  pub made : IsMadeOf dg g.base.sequence text (map (disk_seen see) ds) (members see g.base)
  -- none of them is parted
  pub still : still_pieces see g.public ≡ []
  pub lent : lent_pieces see g.public ≡ []
  pub idle : IsGroupIdle g

-- a group was to be made, and its disks are given back
pub record IsRefusedBy {P : Type 0} (see : P → Seen) (dg : Word) (stop : Stop) (ds back : List (Disk P)) : Type 0 where
  pub text : List ℕ
  pub config : Config
  pub drawn : IsDrawn dg ds config text
  pub fault : GroupFault
  pub stop_is : stop ≡ stop_of fault
  pub refused : RefusedBy see fault dg text ds back
  pub begun : AreBegun dg text (map (disk_seen see) ds) (map (disk_seen see) back)

-- nothing was begun for want of memory, or the making of a group was
abbrev pub IsUnfounded : {P : Type 0} → (P → Seen) → Word → Stop → List (Disk P) → List (Disk P) → Type 0
IsUnfounded see dg stop ds back = ((stop ≡ stops.OutOfMemory) × (back ≡ ds)) ⊎ IsRefusedBy see dg stop ds back

-- a group is made of the disks, or they are given back
abbrev pub FoundEnds : {P : Type 0} {ghosts : Ghosts P} → (P → Seen) → Word → Result (Imported P ghosts) (Unfounded P) → List (Disk P) → Type 0
FoundEnds see dg (Ok g) ds = IsFoundedBy see dg g ds
FoundEnds see dg (Err u) ds = IsUnfounded see dg u.stop ds u.disks.items

-- the devices are in hand again: as they were, or as the making of a group left them
pub record IsHandedBack {P : Type 0} (see : P → Seen) (dg : Word) (pairs : List DiskAt) (stop : Stop) (before now : List (Taken P)) : Type 0 where
  pub back : List (Disk P)
  pub hand : now ≡ map taken_of back
  pub ends : IsUnfounded see dg stop (disks_from see 0 before pairs) back

-- a group is made of the devices in hand; or they are in hand as they were for want of memory; or the making has left them so
abbrev pub CreateEnds : {P : Type 0} {ghosts : Ghosts P} → (P → Seen) → Word → List DiskAt → Result (Imported P ghosts) Stop → List (Taken P) → List (Taken P) → Type 0
CreateEnds see dg pairs (Ok g) before now = (now ≡ []) × IsFoundedBy see dg g (disks_from see 0 before pairs)
CreateEnds see dg pairs (Err stop) before now = ((stop ≡ stops.OutOfMemory) × (now ≡ before)) ⊎ IsHandedBack see dg pairs stop before now
