-- What a call or a pass on one running volume does to its group, and to the moments of its house.
use Rattle.std.specs.Prelude.{◌≡◌, ℕ, true, List, Some, Contains, slice_index}
use Rattle.std.specs.List.{list_any}
use Rattle.std.specs.BTreeMap.{is_at, get}
use Rattle.std.specs.Cmp.Lexicographic.{slice_cmp}
use Rattle.std.specs.Map.{set_value}
use Rattle.std.specs.Ordering.{nat_cmp}
use Rattle.vx_pages.specs.declared.local_piece.LocalPiece.{Ghosts}
use Rattle.vx_base.specs.Counts.{Rose}
use Rattle.vx_base.specs.Named.{Word, put, SameUnder}
use Rattle.vx_piece.specs.Seen.{Seen}
use Rattle.vx_runs.specs.Run.{SomeCut}
use Rattle.vx_carve.specs.Together.{cut_on, faults_on}
use Rattle.vx_layout.specs.declared.strip.Strip.{Strip}
use Rattle.vx_config_parts.specs.declared.plex.Plex.{Plex}
use Rattle.vx_image.specs.Lies.{strips_of}
use Rattle.vx_copies.specs.Disks.{DiskSeen}
use Rattle.vx_copies.specs.Lists.{AnyOf}
use Rattle.vx_confdb.specs.Groups.{members}
use Rattle.vx_fronts.specs.Rests.{AllTell, is_of}
use Rattle.vx_moments.specs.Moment.{Counts, Moment, AreLater}
use Rattle.vx_moments.specs.Moment.{HasFailed as FailsAt}
use Rattle.vx_moments.specs.World.{Group, Volume}
use Rattle.vx_moments.specs.Group.{ChangesOnly}
use Rattle.vx_moments.specs.Owners.{IsDeviceOfVolume, device_at}
use Rattle.vx_volume.specs.Volume.{IsVolume, shape_of, volume_seen}
use Rattle.vx_volume_laws.specs.Exact.{IsExactVolume}
use Rattle.vx_volume_laws.specs.Running.{IsSureOfOthers, RunsAsVolume}
use Rattle.vx_lending.specs.Left.{held_pieces}
use Rattle.vx_volume_laws.specs.Lying.{LiesIn}
use Rattle.vx_lending.specs.declared.public.Running.{Running}
use Rattle.vx_lending.specs.Public.{running_at}
use Rattle.vx_group_calls.specs.Causes.{AreCutWhereDead}
use Rattle.vx_group_volumes.specs.Disks.{AreCalled}
use Rattle.vx_group_volumes.specs.Places.{IsSlotOf, disks_at}
use Rattle.vx_stages.specs.GroupCalls.{CallsOnly, PlexHasFailed}
use Rattle.vx_stages.specs.Logs.{LogIsSpared}
use Rattle.vx_house.specs.Runs.{IsRunOf}
use Rattle.vx_house.specs.Scene.{Scene, Shelved, HasFailed, FaultsGoOn, counts_of}
use Rattle.vx_house.specs.View.{View, Keeps, IsGroupWhole, IsMoment, at, member_in, scene}
use Rattle.vx_house.specs.declared.house.House.{House}
use Rattle.vx_house.specs.declared.house.Imported.{Imported}

-- One running volume of the group has been called: its pieces are where they were, it lies where it did, and all else of the group is
-- as before.
pub record IsCalledIn {P : Type 0} {ghosts : Ghosts P} (see : P → Seen) (name : Word) (old new : Imported P ghosts) : Type 0 where
  pub before : Running P ghosts
  pub after : Running P ghosts
  pub was : running_at old.public name ≡ Some before
  pub entries : new.public.running.entries ≡ set_value (is_at (slice_cmp nat_cmp name)) old.public.running.entries after
  pub puts : SameUnder (put name (Some after) (get (slice_cmp nat_cmp) old.public.running)) (get (slice_cmp nat_cmp) new.public.running)
  pub same : new ≡ record old { public = record old.public { running = new.public.running } }
  pub called : AreCalled (held_pieces see before.volume) (held_pieces see after.volume)
  pub tells : AllTell (held_pieces see before.volume) → AllTell (held_pieces see after.volume)
  pub whole : IsVolume (volume_seen see after.volume)
  pub form : after.form ≡ before.form
  pub shape : shape_of after.volume ≡ shape_of before.volume
  pub lies : (numbers : List ℕ) → LiesIn see numbers before.form before.volume → LiesIn see numbers after.form after.volume
  pub dead : AreCutWhereDead (volume_seen see before.volume) → AreCutWhereDead (volume_seen see after.volume)

-- the house with this group
abbrev pub with_group : {P : Type 0} {ghosts : Ghosts P} → House P ghosts → Imported P ghosts → House P ghosts
with_group h g = record h { group = Some g }

-- the volume lies where the other does, with its blocks and regions
pub record LiesAlike (old new : Volume) : Type 0 where
  pub lies : new.lies ≡ old.lies
  pub length_is : new.length ≡ old.length
  pub region_is : new.region ≡ old.region

-- The moment comes behind the other: the volume of the name is this one now, the devices have changed in its sectors alone, and none but
-- its own were called.
pub record IsNext {P : Type 0} {ghosts : Ghosts P} (see : P → Seen) (v : View P ghosts) (g : Group) (name : Word) (volume : Volume) (m n : Moment) : Type 0 where
  pub is : IsMoment see v n
  pub later : AreLater m.counts n.counts
  pub counts : n.counts ≡ counts_of (scene see v)
  pub world : n.world ≡ record m.world { devices = n.world.devices; volumes = put name (Some volume) m.world.volumes }
  pub changes : ChangesOnly g name m.world.devices n.world.devices
  pub calls : CallsOnly g name m.counts n.counts

-- the disk is one of these
abbrev pub IsOneOf : List DiskSeen → DiskSeen → Type 0
IsOneOf hs h = AnyOf (λ x. x ≡ h) hs

-- one of the disks is of the device with this number
pub record IsDiskOf (hs : List DiskSeen) (number : ℕ) : Type 0 where
  pub disk : DiskSeen
  pub there : IsOneOf hs disk
  pub number_is : disk.seen.device ≡ number

-- the member of the slot is the disk of the device with this number
pub record IsSlotOfDisk (hs : List DiskSeen) (g : Group) (slot number : ℕ) : Type 0 where
  pub disk : DiskSeen
  pub there : IsOneOf hs disk
  pub number_is : disk.seen.device ≡ number
  pub device_is : device_at g.members slot ≡ Some disk.device

-- a strip of the plex is on the disk of the slot
abbrev pub LiesOnSlot : Group → Plex → ℕ → Type 0
LiesOnSlot g p slot = (strip : Strip) × Contains (strips_of g.config p) strip × (strip.disk ≡ slot)

-- The device of the slot has failed, in a moment and as the house sees it.
pub record SlotFails (g : Group) (old new : Scene) (before after : Counts) (slot : ℕ) : Type 0 where
  pub device : Word
  pub device_is : device_at g.members slot ≡ Some device
  pub failed : FailsAt before after device
  pub seen : HasFailed device old new

-- the device of the slot is without power
pub record SlotIsCut (g : Group) (counts : Counts) (slot : ℕ) : Type 0 where
  pub device : Word
  pub device_is : device_at g.members slot ≡ Some device
  pub cut : counts.cut device ≡ true

-- on some device of the volume the power is gone
abbrev pub IsCutOf : Group → Word → Counts → Type 0
IsCutOf g name counts = (device : Word) × IsDeviceOfVolume g name device × (counts.cut device ≡ true)

-- The volume ran as one of the world, and goes on as each one that lies where that did and that it runs as now, if its log is exact where
-- no device of it has failed. Its pieces are on devices of its plexes, the disks of which are members of the group. Where the count of its pieces on such a device rose, the device
-- has failed, and each plex on it with it; where one of them is cut, the device is.
pub record RunsOn {P : Type 0} {ghosts : Ghosts P} (see : P → Seen) (old v : View P ghosts) (hs : List DiskSeen) (name : Word) (before after : Running P ghosts) (m : Moment) : Type 0 where
  pub group : Group
  pub here : m.world.group ≡ Some group
  pub volume : Volume
  pub there : m.world.volumes name ≡ Some volume
  pub run : IsRunOf see hs group name before volume
  pub next :
      (later : Volume) → LiesAlike volume later → (later.sound ≡ true → RunsAsVolume run.plexes (volume_seen see after.volume) later) →
      (later.sound ≡ true → IsSureOfOthers run.plexes (volume_seen see after.volume) later) →
      (later.sound ≡ true → LogIsSpared group name later.failed → IsExactVolume (volume_seen see after.volume)) → (n : Moment) × IsNext see v group name later m n
  pub members : (h : DiskSeen) → IsOneOf hs h → Contains group.members (member_in h)
  pub slots : (slot number : ℕ) → IsSlotOf (disks_at run.placed.runs.opening) slot → slice_index run.numbers slot ≡ number → IsSlotOfDisk hs group slot number
  pub own : (h : DiskSeen) → IsOneOf hs h → list_any (is_of h.seen.device) (held_pieces see before.volume) ≡ true → IsDeviceOfVolume group name h.device
  pub failed :
      (h : DiskSeen) → IsOneOf hs h → Rose (faults_on h.seen.device (held_pieces see before.volume)) (faults_on h.seen.device (held_pieces see after.volume)) →
      FailsAt m.counts (counts_of (scene see v)) h.device × IsDeviceOfVolume group name h.device
  pub cut : (h : DiskSeen) → IsOneOf hs h → cut_on h.seen.device (held_pieces see after.volume) ≡ 1 → (counts_of (scene see v)).cut h.device ≡ true
  pub slot_failed :
      (slot number : ℕ) → IsSlotOf (disks_at run.placed.runs.opening) slot → slice_index run.numbers slot ≡ number →
      Rose (faults_on number (held_pieces see before.volume)) (faults_on number (held_pieces see after.volume)) →
      SlotFails group (scene see old) (scene see v) m.counts (counts_of (scene see v)) slot
  pub slot_cut :
      (slot number : ℕ) → IsSlotOf (disks_at run.placed.runs.opening) slot → slice_index run.numbers slot ≡ number → cut_on number (held_pieces see after.volume) ≡ 1 →
      SlotIsCut group (counts_of (scene see v)) slot
  pub plex_failed :
      (p : Plex) (slot number : ℕ) → LiesOnSlot group p slot → IsSlotOf (disks_at run.placed.runs.opening) slot → slice_index run.numbers slot ≡ number →
      Rose (faults_on number (held_pieces see before.volume)) (faults_on number (held_pieces see after.volume)) →
      PlexHasFailed group m.counts (counts_of (scene see v)) p
  pub lost : SomeCut (held_pieces see after.volume) → IsCutOf group name (counts_of (scene see v))

-- What a call on one running volume of the group does to the house: it keeps what it did, no count of faults falls, and where that of the
-- volume's pieces on a device rose, this is the device of one of the group's disks, and has failed.
pub record GoesOnWith {P : Type 0} {ghosts : Ghosts P} (see : P → Seen) (shelf : Shelved) (h : House P ghosts) (old new : Imported P ghosts) (name : Word) (before after : Running P ghosts) : Type 0 where
  pub keeps : Keeps see (at shelf (with_group h new))
  pub whole : IsGroupWhole see new
  pub faults : FaultsGoOn (scene see (at shelf h)) (scene see (at shelf (with_group h new)))
  pub disks : (number : ℕ) → Rose (faults_on number (held_pieces see before.volume)) (faults_on number (held_pieces see after.volume)) →
      IsDiskOf (members see old.base) number
  pub failed :
      (d : DiskSeen) → IsOneOf (members see old.base) d → Rose (faults_on d.seen.device (held_pieces see before.volume)) (faults_on d.seen.device (held_pieces see after.volume)) →
      HasFailed d.device (scene see (at shelf h)) (scene see (at shelf (with_group h new)))
  pub moments : (m : Moment) → IsMoment see (at shelf h) m → RunsOn see (at shelf h) (at shelf (with_group h new)) (members see old.base) name before after m

-- A call on one running volume of the group of a house goes on with the house, and with each moment that it is.
abbrev pub EachCallGoesOn : {P : Type 0} {ghosts : Ghosts P} → (P → Seen) → House P ghosts → Imported P ghosts → Imported P ghosts → Type 0
EachCallGoesOn see h old new =
    (shelf : Shelved) (name : Word) → h.group ≡ Some old → (called : IsCalledIn see name old new) → Keeps see (at shelf h) →
    GoesOnWith see shelf h old new name called.before called.after
