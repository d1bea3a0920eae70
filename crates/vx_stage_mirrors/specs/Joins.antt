-- One plex has joined a running volume of the group.
use Rattle.std.specs.Prelude.{◌≡◌, ℕ, ◌<◌, true, List, [], Some, length, slice_index}
use Rattle.vx_mask.specs.Mask.{has}
use Rattle.vx_base.specs.Named.{Word}
use Rattle.vx_piece.specs.Seen.{Seen}
use Rattle.vx_runs.specs.Run.{RunTells}
use Rattle.vx_pages.specs.declared.local_piece.LocalPiece.{Ghosts}
use Rattle.vx_pages.specs.Items.{item_at}
use Rattle.vx_layout.specs.declared.layout.Layout.{Layout}
use Rattle.vx_carve.specs.Carved.{HaveNumbers}
use Rattle.vx_config_parts.specs.declared.object.Object.{Object}
use Rattle.vx_config_parts.specs.declared.plex.Plex.{Plex}
use Rattle.vx_config_parts.specs.declared.vol.Vol.{Vol}
use Rattle.vx_objects.specs.declared.config.Config.{Config}
use Rattle.vx_copies.specs.Disks.{DiskSeen}
use Rattle.vx_copies.specs.Lists.{AnyOf}
use Rattle.vx_moments.specs.World.{Group}
use Rattle.vx_moments.specs.Owners.{device_at}
use Rattle.vx_volume.specs.Changing.{IsFreeIn}
use Rattle.vx_volume.specs.Volume.{volume_seen}
use Rattle.vx_lending.specs.Form.{IsLayoutOf}
use Rattle.vx_lending.specs.declared.public.Running.{Running}
use Rattle.vx_joined_volumes.specs.Joined.{HasJoined, IsFormJoined, JoinsOne}
use Rattle.vx_house.specs.Runs.{IsNumbered, IsOnDisk}

-- ---- the volume

-- By an edit that adds one data plex with its subdisks, a running volume has become one with a plex more: its form has the map and the
-- layout of the plex, and each region the pieces of it that lie there, by these numbers of the slots.
pub record IsJoinedBy {P : Type 0} {ghosts : Ghosts P} (see : P → Seen) (c : Config) (good : ℕ) (v : Vol) (numbers : List ℕ) (added : List Object) (c' : Config) (p : Plex) (m : ℕ) (l : Layout) (runs : List (List Seen)) (before after : Running P ghosts) : Type 0 where
  pub joins : JoinsOne c good v added c' p m
  pub layout : IsLayoutOf c' p l
  pub form : IsFormJoined m l before.form after.form
  pub volume : HasJoined see numbers v m l runs before.volume after.volume

-- the map was free in the volume before, and the pieces tell what they hold
pub record AreNewIn {P : Type 0} {ghosts : Ghosts P} (see : P → Seen) (m : ℕ) (runs : List (List Seen)) (before : Running P ghosts) : Type 0 where
  pub free : IsFreeIn m (volume_seen see before.volume)
  pub told : (r : ℕ) → r < length (volume_seen see before.volume).cells → RunTells (item_at [] runs r)

-- ---- disks

-- each of these disks is one of those, by its slot and by the name and the number of its device
abbrev pub AreStillDisks : List DiskSeen → List DiskSeen → Type 0
AreStillDisks hs ks = (h : DiskSeen) → AnyOf (λ x. x ≡ h) hs → (k : DiskSeen) × AnyOf (λ x. x ≡ k) ks × (k.device ≡ h.device) × (k.seen.device ≡ h.seen.device) × (k.slot ≡ h.slot)

-- the first 32 slots have these numbers, which differ
pub record AreOfSlots (numbers : List ℕ) : Type 0 where
  pub long : length numbers ≡ 32
  pub own : HaveNumbers numbers

-- the number of a slot is that of the device of each disk in it, and each good slot has a disk
pub record AreNumbersOn (numbers : List ℕ) (hs : List DiskSeen) (good : ℕ) : Type 0 where
  pub slots : AreOfSlots numbers
  pub each : (h : DiskSeen) → AnyOf (λ x. x ≡ h) hs → slice_index numbers h.slot ≡ h.seen.device
  pub some : (slot : ℕ) → has good slot ≡ true → IsOnDisk numbers hs slot

-- ---- the group of the world

-- so it is with the members of a group
pub record AreNumbersIn (numbers : List ℕ) (hs : List DiskSeen) (g : Group) : Type 0 where
  pub slots : AreOfSlots numbers
  pub each : (slot : ℕ) (h : DiskSeen) → AnyOf (λ x. x ≡ h) hs → device_at g.members slot ≡ Some h.device → slice_index numbers slot ≡ h.seen.device
  pub some : (slot : ℕ) → has g.good slot ≡ true → IsNumbered numbers hs g.members slot

-- a group after a commit: it has the disks that it had, and no others are good
pub record GoesOn (g g' : Group) : Type 0 where
  pub fewer : (slot : ℕ) → has g'.good slot ≡ true → has g.good slot ≡ true
  pub devices : (slot : ℕ) (device : Word) → device_at g.members slot ≡ Some device → device_at g'.members slot ≡ Some device
