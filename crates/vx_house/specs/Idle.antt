-- The sectors of a volume that does not run lie in the pool of its group.
use Rattle.std.specs.Prelude.{◌≡◌, ℕ, ◌+◌, ◌≤◌, Bool, None, List, [], map, Contains}
use Rattle.vx_pages.specs.declared.local_piece.LocalPiece.{Ghosts}
use Rattle.vx_piece.specs.Seen.{Seen}
use Rattle.vx_config_parts.specs.declared.disk.Disk.{Disk}
use Rattle.vx_config_parts.specs.declared.vol.Vol.{Vol}
use Rattle.vx_copies.specs.Disks.{DiskSeen, good_mask}
use Rattle.vx_copies.specs.Lists.{AllOf}
use Rattle.vx_confdb.specs.Groups.{members}
use Rattle.vx_fronts.specs.Parted.{IsCutShort}
use Rattle.vx_lending.specs.Form.{IsFormOf}
use Rattle.vx_lending.specs.FormLaws.{AreFree, all_layouts, good_disks}
use Rattle.vx_lending.specs.declared.form.VolumeForm.{VolumeForm}
use Rattle.vx_lending.specs.Public.{running_at}
use Rattle.vx_house.specs.Runs.{IsOnDisk}
use Rattle.vx_house.specs.View.{IsGroupKept}
use Rattle.vx_house.specs.declared.house.Imported.{Imported}

-- the disk of the record is among these, by the number of its device, and its public region fits behind the private one
pub record HasRoom (numbers : List ℕ) (hs : List DiskSeen) (r : Disk) : Type 0 where
  pub on : IsOnDisk numbers hs r.slot
  pub room : 2048 + r.publen ≤ on.disk.sectors

-- so is that of each record whose disk is good
abbrev pub HaveRoom : List ℕ → List DiskSeen → ℕ → List Disk → Type 0
HaveRoom numbers hs good records = (r : Disk) → Contains (good_disks good records) r → HasRoom numbers hs r

-- All devices of the group are parted right behind the private regions, and what is behind lies in the pool or in a running volume.
pub record IsGathered {P : Type 0} {ghosts : Ghosts P} (see : P → Seen) (g : Imported P ghosts) : Type 0 where
  pub short : AllOf IsCutShort (members see g.base)
  pub left : g.public.left.items ≡ []
  pub stuck : g.public.stuck.items ≡ []

-- In a kept group that was gathered, all sectors of a volume that does not run are in the pool.
abbrev pub EachIdleVolumeIsFree : {P : Type 0} {ghosts : Ghosts P} → (P → Seen) → Imported P ghosts → Type 0
EachIdleVolumeIsFree see g =
    IsGroupKept see g → IsGathered see g → (v : Vol) → running_at g.public v.name ≡ None → (fresh : Bool) (form : VolumeForm) → IsFormOf g.config (good_mask (members see g.base)) v fresh form →
    (numbers : List ℕ) → HaveRoom numbers (members see g.base) (good_mask (members see g.base)) g.config.disks →
    AreFree numbers (map see g.public.pool.items.items) (all_layouts form)
