-- A plex that every copy of the log of a running volume marks may be recorded: by the configuration that has it too, the volume is sound
-- by its bytes.
use Rattle.std.specs.Prelude.{◌≡◌, ℕ, ◌+◌, ◌<◌, true, List, [], ◌∷◌, length, Option, Some, Ok}
use Rattle.std.specs.List.{All}
use Rattle.vx_base.specs.Blocks.{Contents}
use Rattle.vx_base.specs.Named.{Word}
use Rattle.vx_piece.specs.Seen.{Seen}
use Rattle.vx_carve.specs.Together.{Holds}
use Rattle.vx_pages.specs.declared.local_piece.LocalPiece.{Ghosts}
use Rattle.vx_config_parts.specs.declared.object.Object.{Object}
use Rattle.vx_config_parts.specs.declared.plex.Plex.{Plex}
use Rattle.vx_config_parts.specs.declared.vol.Vol.{Vol}
use Rattle.vx_config_parts.specs.Objects.{is_data_plex_of}
use Rattle.vx_copies.specs.Disks.{DiskSeen}
use Rattle.vx_copies.specs.Lists.{AllOf}
use Rattle.vx_objects.specs.declared.config.Config.{Config}
use Rattle.vx_objects.specs.declared.edit.Edit.TheVariants.{Make}
use Rattle.vx_objects.specs.Applied.{IsEdited}
use Rattle.vx_cell.specs.Region.{Tells, marks_or}
use Rattle.vx_volume.specs.Laws.{AreTold}
use Rattle.vx_volume.specs.Volume.{VolumeSeen, volume_seen}
use Rattle.vx_image.specs.Image.{Image, is_marked_by_all, regions_of}
use Rattle.vx_image.specs.Soundness.{IsSoundImage}
use Rattle.vx_moments.specs.World.{Device, Group, Volume, World}
use Rattle.vx_moments.specs.Group.{public_of}
use Rattle.vx_lending.specs.declared.public.Running.{Running}
use Rattle.vx_lending.specs.Left.{held_pieces}
use Rattle.vx_stages.specs.Recorded.{IsMarkedEverywhere, IsSoundAs}
use Rattle.vx_group_edits.specs.OfVolume.{AreOf}
use Rattle.vx_group_volumes.specs.Runs.{RunsIn}
use Rattle.vx_group_edits.specs.Joins.{plexes_in}
use Rattle.vx_house.specs.Runs.{IsRunOf}
use Rattle.vx_stage_mirrors.specs.Marking.{SetsAll}

-- ---- marks

-- the volume has a log that tells what it holds, and each copy of it shows the mark of the map in each region
pub record IsShownIn (map : ℕ) (v : VolumeSeen) : Type 0 where
  pub there : v.log.there ≡ true
  pub told : Tells v.log.told
  pub shows : (r n : ℕ) → r < length v.cells → n < v.log.copies → (marks_or v.log.told r).shows n map ≡ true

-- the image is sound, and each copy of its log marks the map in each region
pub record IsSoundMarked (map : ℕ) (v : Image) : Type 0 where
  pub sound : IsSoundImage v
  pub marked : (r : ℕ) → r < regions_of v → is_marked_by_all v r map ≡ true

-- Where all bits of a map were set in the log of a running volume that told what it held, each copy shows them.
abbrev pub EachMarkIsShown : {P : Type 0} {ghosts : Ghosts P} → (P → Seen) → Running P ghosts → Running P ghosts → Type 0
EachMarkIsShown see before after =
    (c : Config) (good : ℕ) (numbers : List ℕ) (v : Vol) → RunsIn see c good numbers v after →
    (map : ℕ) → SetsAll map (Ok tt) (volume_seen see before.volume) (volume_seen see after.volume) → AreTold (volume_seen see before.volume) →
    IsShownIn map (volume_seen see after.volume)

-- ---- the bytes

-- The pieces of the running volume hold these sectors, by the numbers of devices, and so do the devices of these disks.
pub record HoldsOnDevices {P : Type 0} {ghosts : Ghosts P} (see : P → Seen) (hs : List DiskSeen) (devices : Word → Option Device) (held : ℕ → Contents) (r : Running P ghosts) : Type 0 where
  pub hold : All (Holds held) (held_pieces see r.volume)
  pub public : AllOf (λ h. (k : ℕ) → public_of (devices h.device) k ≡ held h.seen.device (2048 + k)) hs

-- one data plex of the volume, with this map, is added by the edit
pub record AddsPlex (g : Group) (name : Word) (map : ℕ) (added : List Object) (next : Config) : Type 0 where
  pub edited : IsEdited (Make added ∷ []) g.config next
  pub of : AreOf name added
  pub plex : Plex
  pub one : plexes_in added ≡ plex ∷ []
  pub data_is : is_data_plex_of name plex ≡ true
  pub has_map : plex.map ≡ Some map

-- A data plex with a map that each copy of the log shows everywhere is added to a running volume whose bytes were sound as it began: as
-- the next configuration records it, the volume is sound by what the devices hold, and its log marks the plex everywhere. Disks may have failed since. A copy on a disk that is
-- no longer good does not count; where none counts there is no choice of marks, and any such image is sound.
abbrev pub EachShownPlexIsSound : {P : Type 0} {ghosts : Ghosts P} → (P → Seen) → Running P ghosts → Type 0
EachShownPlexIsSound see running =
    (hs : List DiskSeen) (g : Group) (name : Word) (w : Volume) → IsRunOf see hs g name running w → w.sound ≡ true →
    (map : ℕ) → IsShownIn map (volume_seen see running.volume) →
    (world : World) (held : ℕ → Contents) → HoldsOnDevices see hs world.devices held running →
    (added : List Object) (next : Config) → AddsPlex g name map added next →
    IsSoundAs g next name world × IsMarkedEverywhere g name map world

-- So it is where all bits of the map were set in the log, and no page of it failed.
abbrev pub EachMarkedVolumeIsSound : {P : Type 0} {ghosts : Ghosts P} → (P → Seen) → Running P ghosts → Running P ghosts → Type 0
EachMarkedVolumeIsSound see before after =
    (hs : List DiskSeen) (g : Group) (name : Word) (w : Volume) → IsRunOf see hs g name after w → w.sound ≡ true →
    (map : ℕ) → SetsAll map (Ok tt) (volume_seen see before.volume) (volume_seen see after.volume) → AreTold (volume_seen see before.volume) →
    (world : World) (held : ℕ → Contents) → HoldsOnDevices see hs world.devices held after →
    (added : List Object) (next : Config) → AddsPlex g name map added next →
    IsSoundAs g next name world × IsMarkedEverywhere g name map world
