-- The devices that are taken from a shelf, by name, with what is seen of them.
use Rattle.std.specs.Prelude.{◌≡◌, false, if◌then◌else◌, List, [], ◌∷◌, ◌++◌, map, Option, Some, None}
use Rattle.std.specs.Str.{bytes_eq}
use Rattle.std.specs.BTreeMap.{get}
use Rattle.std.specs.Cmp.Lexicographic.{slice_cmp}
use Rattle.std.specs.Ordering.{nat_cmp}
use Rattle.vx_pages.specs.declared.local_piece.LocalPiece.{Ghosts}
use Rattle.vx_base.specs.Named.{Word}
use Rattle.vx_piece.specs.Seen.{Seen}
use Rattle.vx_shelf.specs.Shelf.{Held, AreNumbered, IsWhole, IsOut}
use Rattle.vx_copies.specs.Disks.{DiskSeen}
use Rattle.vx_copies.specs.Lists.{AllOf}
use Rattle.vx_copies.specs.declared.disk.Disk.{Disk}
use Rattle.vx_confdb.specs.Groups.{members}
use Rattle.vx_fronts.specs.Fronts.{Rests}
use Rattle.vx_fronts.specs.Laws.{whole_disks}
use Rattle.vx_fronts.specs.Rests.{rests_of}
use Rattle.vx_lending.specs.Public.{lent_pieces, still_pieces}
use Rattle.vx_started.specs.declared.started.Started.{Started}
use Rattle.vx_house.specs.declared.house.House.{House}
use Rattle.vx_house.specs.declared.house.Imported.{Imported}
use Rattle.vx_house.specs.declared.house.Taken.{Taken}

-- a device that is taken: its name, and what is seen of it
pub record Holder : Type 0 where
  pub name : Word
  pub seen : Seen

-- a device in hand
abbrev pub hand_holder : {P : Type 0} → (P → Seen) → Taken P → Holder
hand_holder see t = record { name = t.device; seen = see t.piece }

-- a disk that is there whole
abbrev pub disk_holder : {P : Type 0} → (P → Seen) → Disk P → Holder
disk_holder see d = record { name = d.device; seen = see d.piece }

-- a disk, by what is seen of it
abbrev pub holder_in : DiskSeen → Holder
holder_in h = record { name = h.device; seen = h.seen }

-- a started volume
abbrev pub volume_holder : {P : Type 0} → (P → Seen) → Word × Started P → Holder
volume_holder see e = record { name = e.1.device; seen = see e.1.piece }

-- the names of the devices in hand
abbrev pub hand_names : {P : Type 0} {ghosts : Ghosts P} → House P ghosts → List Word
hand_names h = map (λ t. t.device) h.hand.items

-- the started volume of a name
abbrev pub volume_at : {P : Type 0} {ghosts : Ghosts P} → House P ghosts → Word → Option (Started P)
volume_at h name = get (slice_cmp nat_cmp) h.volumes name

-- the rests of the group's devices behind the fronts that its disks have, of the pieces that lie still and of those that running volumes
-- have
abbrev pub group_rests : {P : Type 0} {ghosts : Ghosts P} → (P → Seen) → Imported P ghosts → Rests
group_rests see g = rests_of (still_pieces see g.public ++ lent_pieces see g.public) []

-- the disks of the group with their whole devices
abbrev pub whole_members : {P : Type 0} {ghosts : Ghosts P} → (P → Seen) → Imported P ghosts → List DiskSeen
whole_members see g = whole_disks (group_rests see g) (members see g.base)

-- the devices of the group's disks
abbrev pub group_holders : {P : Type 0} {ghosts : Ghosts P} → (P → Seen) → Option (Imported P ghosts) → List Holder
group_holders see None = []
group_holders see (Some g) = map holder_in (whole_members see g)

-- all devices that a house holds: those of volumes, of the group, and those in hand
abbrev pub holders : {P : Type 0} {ghosts : Ghosts P} → (P → Seen) → House P ghosts → List Holder
holders see h = map (volume_holder see) h.volumes.entries ++ (group_holders see h.group ++ map (hand_holder see) h.hand.items)

-- what is seen of the device of a name among these
abbrev pub held_as : List Holder → Word → Option Seen
held_as [] name = None
held_as (h ∷ hs) name = if bytes_eq h.name name then Some h.seen else held_as hs name

-- no two have one name
abbrev pub AreApart : List Holder → Type 0
AreApart [] = Unit {0}
AreApart (h ∷ hs) = AllOf (λ o. bytes_eq h.name o.name ≡ false) hs × AreApart hs

-- the whole device was taken from the shelf
abbrev pub IsTakenFrom : (Word → Option Held) → Holder → Type 0
IsTakenFrom held h = IsWhole h.seen × IsOut (held h.name) h.seen

-- These are all devices that were taken from the shelf, each one whole, and no two have one number.
pub record AreHeld (held : Word → Option Held) (hs : List Holder) : Type 0 where
  pub each : AllOf (IsTakenFrom held) hs
  pub apart : AreApart hs
  pub only : (name : Word) → held_as hs name ≡ None → held name ≡ None
  pub numbers : AreNumbered held
