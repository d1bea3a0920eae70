-- Devices that were found are given back, or become disks of the group.
use Rattle.std.specs.Prelude.{◌≡◌, ℕ, true, false, Bool, List, ◌∷◌, map}
use Rattle.std.specs.List.{filter}
use Rattle.vx_mask.specs.Mask.{has}
use Rattle.vx_piece.specs.Seen.{Seen}
use Rattle.vx_copies.specs.Disks.{DiskSeen as DiskHeld, disk_seen as disk_held}
use Rattle.vx_copies.specs.declared.disk.Disk.{Disk}
use Rattle.vx_import.specs.Looks.{Looked}
use Rattle.vx_import.specs.Answers.{disk_of}
use Rattle.vx_house.specs.Holders.{Holder, disk_holder, AreHeld}
use Rattle.vx_house.specs.Scene.{Shelved, Scene}
use Rattle.vx_house.specs.Unmoved.{Unmoved}
use Rattle.vx_house.specs.Reading.{IsReturned}

-- all that is held is held as whole devices, and nothing is seen otherwise
pub record IsBack (old new : Scene) : Type 0 where
  pub held : AreHeld new.shelf.held new.taken
  pub moved : Unmoved old new

-- those whose slot is good
abbrev pub good_looks : ℕ → List Looked → List Looked
good_looks good fs = filter (λ f. has good f.label.slot) fs

-- what a device is as a good disk
abbrev pub disk_in : Looked → DiskHeld
disk_in f = disk_of true f.device f f.seen

-- what devices are as good disks
abbrev pub disks_in : List Looked → List DiskHeld
disks_in fs = map disk_in fs

-- what is seen of the disks
abbrev pub seen_disks : {P : Type 0} → (P → Seen) → List (Disk P) → List DiskHeld
seen_disks see ds = map (disk_held see) ds

-- the devices of the disks
abbrev pub disk_holders : {P : Type 0} → (P → Seen) → List (Disk P) → List Holder
disk_holders see ds = map (disk_holder see) ds

-- the device is the first of the disks
pub record IsChosenFirst {P : Type 0} (see : P → Seen) (f : Looked) (old new : List (Disk P)) (shelf shelf' : Shelved) : Type 0 where
  pub disk : Disk P
  pub disks_are : new ≡ disk ∷ old
  pub disk_is : disk_held see disk ≡ disk_in f
  pub still : shelf' ≡ shelf

-- the device is back on the shelf
pub record IsLeftOut {P : Type 0} (f : Looked) (old new : List (Disk P)) (shelf shelf' : Shelved) : Type 0 where
  pub back : IsReturned f.device f.seen shelf shelf'
  pub same : new ≡ old

-- a good one is a disk, and another one is back
abbrev pub IsSorted : {P : Type 0} → Bool → (P → Seen) → Looked → List (Disk P) → List (Disk P) → Shelved → Shelved → Type 0
IsSorted true see f old new shelf shelf' = IsChosenFirst see f old new shelf shelf'
IsSorted false see f old new shelf shelf' = IsLeftOut f old new shelf shelf'
