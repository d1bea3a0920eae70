-- What the parted disks of a group are good for.
use Rattle.std.specs.Prelude.{◌≡◌, ℕ, ◌+◌, ◌<◌, ◌≤◌, Bool, List, slice_index, length}
use Rattle.std.specs.List.{All}
use Rattle.vx_piece.specs.Seen.{Seen}
use Rattle.vx_carve.specs.Together.{AreOnce}
use Rattle.vx_config_parts.specs.declared.disk.Disk.{Disk}
use Rattle.vx_config_parts.specs.declared.vol.Vol.{Vol}
use Rattle.vx_objects.specs.declared.config.Config.{Config}
use Rattle.vx_copies.specs.Disks.{DiskSeen}
use Rattle.vx_copies.specs.Lists.{AllOf, AnyOf}
use Rattle.vx_fronts.specs.Parted.{AreParted, IsCutShort}
use Rattle.vx_lending.specs.Form.{IsFormOf}
use Rattle.vx_lending.specs.FormLaws.{AreFree, AreNumbered, all_layouts, good_disks}
use Rattle.vx_lending.specs.declared.form.VolumeForm.{VolumeForm}

-- the disk of a configuration is this one of its group: its slot has the number of the device, which has room for its public region
pub record IsDiskOn (numbers : List ℕ) (d : Disk) (h : DiskSeen) : Type 0 where
  pub slot : d.slot < length numbers
  pub number : slice_index numbers d.slot ≡ h.seen.device
  pub room : 2048 + d.publen ≤ h.sectors

-- each good disk of a configuration is one of these
abbrev pub AreGroupDisks : List ℕ → List DiskSeen → ℕ → List Disk → Type 0
AreGroupDisks numbers hs good disks = All (λ (d : Disk). AnyOf (IsDiskOn numbers d) hs) (good_disks good disks)

-- The good disks of the configuration then have numbers.
abbrev pub GroupDisksAreNumbered : Type 0
GroupDisksAreNumbered = (numbers : List ℕ) (hs : List DiskSeen) (good : ℕ) (disks : List Disk) → AreGroupDisks numbers hs good disks → AreNumbered numbers good disks

-- Where the disks of a group are parted right behind their private regions, no sector is in two of the pieces behind, ..
abbrev pub BehindAreOnce : Type 0
BehindAreOnce = (hs : List DiskSeen) (behind : List Seen) → AreParted hs behind → AreOnce behind

-- .. and the plexes and logs of each volume of a configuration of these disks lie in these pieces.
abbrev pub VolumesAreFree : Type 0
VolumesAreFree =
    (c : Config) (good : ℕ) (v : Vol) (fresh : Bool) (form : VolumeForm) → IsFormOf c good v fresh form →
    (numbers : List ℕ) (hs : List DiskSeen) (behind : List Seen) → AreParted hs behind → AllOf IsCutShort hs → AreGroupDisks numbers hs good c.disks →
    AreFree numbers behind (all_layouts form)
