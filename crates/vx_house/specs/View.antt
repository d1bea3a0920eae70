-- The moments of the world that a shelf and a house are.
use Rattle.std.specs.Prelude.{◌≡◌, ◌≢◌, ◌==◌, ◌<◌, ℕ, Bool, true, false, List, [], ◌∷◌, ◌++◌, map, Option, Some, None, IsSome, IfSome}
use Rattle.std.specs.List.{list_any}
use Rattle.std.specs.Str.{bytes_eq}
use Rattle.std.specs.BTreeMap.{IsOrdered}
use Rattle.std.specs.Cmp.Lexicographic.{slice_cmp}
use Rattle.std.specs.Ordering.{nat_cmp}
use Rattle.vx_pages.specs.declared.local_piece.LocalPiece.{Ghosts}
use Rattle.vx_base.specs.Named.{Word}
use Rattle.vx_piece.specs.Seen.{Seen}
use Rattle.vx_copies.specs.Disks.{DiskSeen, good_mask}
use Rattle.vx_copies.specs.Lists.{AllOf}
use Rattle.vx_copies.specs.declared.disk.Disk.{Disk}
use Rattle.vx_confdb.specs.Groups.{members, CarriesText}
use Rattle.vx_confdb.specs.Texts.{text_of}
use Rattle.vx_objects.specs.declared.config.Config.{Config}
use Rattle.vx_fronts.specs.Parted.{AreParted}
use Rattle.vx_lending.specs.Public.{lent_pieces, still_pieces}
use Rattle.vx_group_start.specs.Laying.{AreRunningVolumes, AreStuckVolumes}
use Rattle.vx_started.specs.Stands.{IsSized, StandsFor}
use Rattle.vx_started.specs.declared.started.Started.{Started}
use Rattle.vx_moments.specs.World.{Device, Volume, Member, Group, OnDevice}
use Rattle.vx_moments.specs.Moment.{Moment}
use Rattle.vx_moments.specs.Copies.{IsTextOf}
use Rattle.vx_moments.specs.Leaving.{lone}
use Rattle.vx_house.specs.Holders.{holders, volume_at, whole_members, AreHeld}
use Rattle.vx_house.specs.Runs.{AreInPlace, AreRuns}
use Rattle.vx_house.specs.Scene.{Shelved, Scene, seen_at, AreCountsOf}
use Rattle.vx_house.specs.declared.house.House.{House}
use Rattle.vx_house.specs.declared.house.Imported.{Imported}

-- a shelf and a house
pub record View (P : Type 0) (ghosts : Ghosts P) : Type 0 where
  pub shelf : Shelved
  pub house : House P ghosts

abbrev pub at : {P : Type 0} {ghosts : Ghosts P} → Shelved → House P ghosts → View P ghosts
at shelf house = record { shelf = shelf; house = house }

-- what is seen of all devices
abbrev pub scene : {P : Type 0} {ghosts : Ghosts P} → (P → Seen) → View P ghosts → Scene
scene see v = record { shelf = v.shelf; taken = holders see v.house }

-- a started volume has the device
abbrev pub is_lent : {P : Type 0} {ghosts : Ghosts P} → House P ghosts → Word → Bool
is_lent h name = list_any (λ e. bytes_eq e.1.device name) h.volumes.entries

-- what is seen under a name is the world's device; of one that a started volume has the sectors alone
abbrev pub IsDeviceOf : Bool → Option Seen → Option Device → Type 0
IsDeviceOf lent None None = Unit {0}
IsDeviceOf lent None (Some d) = ⊥
IsDeviceOf lent (Some seen) None = ⊥
IsDeviceOf lent (Some seen) (Some d) = (d.sectors ≡ seen.sectors) × (lent ≡ false → seen.told ≡ Some d.contents)

-- a started volume is the world's
pub record IsVolumeOf {P : Type 0} (see : P → Seen) (b : Started P) (v : Volume) : Type 0 where
  pub lies : v.lies ≡ OnDevice b.device
  pub length_is : v.length ≡ b.geometry.length
  pub region_is : v.region ≡ b.geometry.region
  pub stands : StandsFor v.length (see b.piece) b.numbers.items v.life

abbrev pub IsAtVolume : {P : Type 0} → (P → Seen) → Option (Started P) → Option Volume → Type 0
IsAtVolume see None None = Unit {0}
IsAtVolume see None (Some v) = ⊥
IsAtVolume see (Some b) None = ⊥
IsAtVolume see (Some b) (Some v) = IsVolumeOf see b v

abbrev pub member_of : {P : Type 0} → Disk P → Member
member_of d = record { device = d.device; disk = d.name; slot = d.slot }

-- a disk, by what is seen of it, as the world's member
abbrev pub member_in : DiskSeen → Member
member_in h = record { device = h.device; disk = h.name; slot = h.slot }

-- the imported group, as the world has it
abbrev pub group_of : {P : Type 0} {ghosts : Ghosts P} → (P → Seen) → Option (Imported P ghosts) → Option Group
group_of see None = None
group_of see (Some g) = Some (record {
  config = g.config;
  good = good_mask (members see g.base);
  members = map member_of g.base.disks.items;
  sequence = g.base.sequence;
})

-- What is seen of all devices, by a shelf that tells its devices, and a house are this moment.
pub record IsMomentIn {P : Type 0} {ghosts : Ghosts P} (see : P → Seen) (s : Scene) (h : House P ghosts) (m : Moment) : Type 0 where
  pub told : IsSome s.shelf.free
  pub devices_are : (name : Word) → IsDeviceOf (is_lent h name) (seen_at s name) (m.world.devices name)
  pub volumes_are : (vol : Word) → IsAtVolume see (volume_at h vol) (lone (m.world.volumes vol))
  pub runs_are : AreRuns see h.group m.world.group m.world.volumes
  pub group_is : m.world.group ≡ group_of see h.group
  pub counts : AreCountsOf s m.counts

-- a house with its shelf is this moment
abbrev pub IsMoment : {P : Type 0} {ghosts : Ghosts P} → (P → Seen) → View P ghosts → Moment → Type 0
IsMoment see v m = IsMomentIn see (scene see v) v.house m

-- the device has the size that its disk says
abbrev pub AreSized : List DiskSeen → Type 0
AreSized hs = AllOf (λ h. h.seen.sectors ≡ h.sectors) hs

-- the fronts of the disks and what is behind them are together their devices
abbrev pub IsGroupParted : {P : Type 0} {ghosts : Ghosts P} → (P → Seen) → Imported P ghosts → Type 0
IsGroupParted see g = AreParted (members see g.base) (still_pieces see g.public ++ lent_pieces see g.public)

-- no volume of the group runs
abbrev pub RunsNone : {P : Type 0} {ghosts : Ghosts P} → Imported P ghosts → Type 0
RunsNone g = g.public.running.entries ≡ []

-- no volume of the group runs, and no pieces of one are left over
pub record IsGroupIdle {P : Type 0} {ghosts : Ghosts P} (g : Imported P ghosts) : Type 0 where
  pub running : g.public.running.entries ≡ []
  pub left : g.public.left.items ≡ []
  pub stuck : g.public.stuck.items ≡ []

-- the group whose devices can be joined again, once its volumes are laid down
pub record IsGroupWhole {P : Type 0} {ghosts : Ghosts P} (see : P → Seen) (g : Imported P ghosts) : Type 0 where
  pub parted : IsGroupParted see g
  pub volumes : AreRunningVolumes see g.public.running.entries
  pub stuck : AreStuckVolumes see g.public.stuck.items

-- the group has a disk
abbrev pub HasDisk : {P : Type 0} {ghosts : Ghosts P} → Imported P ghosts → Type 0
HasDisk g = g.base.disks.items ≢ []

-- the slots differ
abbrev pub HaveSlots : {P : Type 0} → List (Disk P) → Type 0
HaveSlots [] = Unit {0}
HaveSlots (d ∷ ds) = AllOf (λ e. e.slot ≢ d.slot) ds × HaveSlots ds

-- the configuration has a disk of each slot
abbrev pub AreRecorded : {P : Type 0} → Config → List (Disk P) → Type 0
AreRecorded config ds = AllOf (λ d. list_any (λ r. r.slot == d.slot) config.disks ≡ true) ds

-- The good disks of the group carry the text of its configuration, and its running volumes are in their places.
pub record IsGroupKept {P : Type 0} {ghosts : Ghosts P} (see : P → Seen) (g : Imported P ghosts) : Type 0 where
  pub named : g.base.name ≡ g.config.group
  pub text : IsTextOf g.config (text_of g.base.text)
  pub first : ℕ
  pub carries : CarriesText see first (text_of g.base.text) g.base
  pub sized : AreSized (whole_members see g)
  pub slots : HaveSlots g.base.disks.items
  pub recorded : AreRecorded g.config g.base.disks.items
  pub whole : IsGroupWhole see g
  pub placed : AreInPlace see g

-- What a house keeps: its volumes stand in the order of their names, its devices have their sizes, and its group carries its text.
pub record KeepsHouse {P : Type 0} {ghosts : Ghosts P} (see : P → Seen) (h : House P ghosts) : Type 0 where
  pub ordered : IsOrdered (slice_cmp nat_cmp) h.volumes
  pub hand : AllOf (λ t. 0 < (see t.piece).sectors) h.hand.items
  pub volumes : (vol : Word) (b : Started P) → volume_at h vol ≡ Some b → IsSized (see b.piece) b.geometry.length
  pub group : IfSome h.group (IsGroupKept see)

-- what a house with its shelf keeps: beside that it holds all devices that were taken
pub record Keeps {P : Type 0} {ghosts : Ghosts P} (see : P → Seen) (v : View P ghosts) : Type 0 where
  pub devices : AreHeld v.shelf.held (holders see v.house)
  pub house : KeepsHouse see v.house

-- a house with its shelf is this moment, but for the group
pub record IsMomentButGroup {P : Type 0} {ghosts : Ghosts P} (see : P → Seen) (v : View P ghosts) (m : Moment) : Type 0 where
  pub told : IsSome v.shelf.free
  pub devices_are : (name : Word) → IsDeviceOf (is_lent v.house name) (seen_at (scene see v) name) (m.world.devices name)
  pub volumes_are : (vol : Word) → IsAtVolume see (volume_at v.house vol) (lone (m.world.volumes vol))
  pub runs_are : AreRuns see v.house.group m.world.group m.world.volumes
  pub counts : AreCountsOf (scene see v) m.counts

-- what is kept where the group or the power was lost: all but what the group carries
pub record KeepsButGroup {P : Type 0} {ghosts : Ghosts P} (see : P → Seen) (v : View P ghosts) : Type 0 where
  pub devices : AreHeld v.shelf.held (holders see v.house)
  pub ordered : IsOrdered (slice_cmp nat_cmp) v.house.volumes
  pub hand : AllOf (λ t. 0 < (see t.piece).sectors) v.house.hand.items
  pub volumes : (vol : Word) (b : Started P) → volume_at v.house vol ≡ Some b → IsSized (see b.piece) b.geometry.length
  pub whole : IfSome v.house.group (IsGroupWhole see)
