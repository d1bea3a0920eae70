-- What the recovery of one volume makes of its bytes: wherever it is stopped, and where it is done.
use Rattle.std.specs.Prelude.{◌≡◌, ◌/◌, ◌<◌, ◌&&◌, ◌||◌, ℕ, Bool, true, false, Contains}
use Rattle.std.specs.List.{AllZip}
use Rattle.vx_base.specs.Blocks.{Contents}
use Rattle.vx_base.specs.Named.{Word}
use Rattle.vx_config_parts.specs.declared.plex.Plex.{Plex}
use Rattle.vx_config_parts.specs.declared.vol.Vol.{Vol}
use Rattle.vx_config_parts.specs.Objects.{is_data_plex_of}
use Rattle.vx_image.specs.Bytes.{map_or_zero}
use Rattle.vx_image.specs.Counts.{IsSizeBetween, is_possibly_behind, is_surely_behind}
use Rattle.vx_image.specs.Image.{Image, PlexImage, is_available, regions_of}
use Rattle.vx_image.specs.Meaning.{ReadsOneList, candidates_read, dirty_read, possible_read, sure_read}
use Rattle.vx_image.specs.Soundness.{IsSoundImage}
use Rattle.vx_image.specs.UsedPlexes.{is_on}
use Rattle.vx_moments.specs.Group.{image_on}
use Rattle.vx_moments.specs.Lives.{volume_begun}
use Rattle.vx_moments.specs.Moment.{Counts, HasFailed, Moment}
use Rattle.vx_moments.specs.Owners.{owners_of}
use Rattle.vx_moments.specs.Tracks.{volume_failed}
use Rattle.vx_moments.specs.Volumes.{StandsForVolume}
use Rattle.vx_moments.specs.World.{Group, Volume}
use Rattle.vx_stages.specs.GroupCalls.{PlexHasFailed}
use Rattle.vx_stages.specs.Starting.{plexes_started}
use Rattle.vx_stages.specs.Touching.{IsTouched}
use Rattle.vx_state_edits.specs.Edits.{is_marked}

-- ---- which plexes have failed

-- a data plex of this name is on, and one of its devices has failed meanwhile
abbrev pub OnHasFailed : Group → Vol → Counts → Counts → Word → Type 0
OnHasFailed g v old new name =
    (p : Plex) × Contains g.config.plexes p × (p.name ≡ name) × (is_data_plex_of v.name p ≡ true) × (is_on g.config g.good p ≡ true) × PlexHasFailed g old new p

-- ---- wherever it is stopped

-- Of a plex that is held nothing is written but in regions that are dirty, or marked on it, and nothing where it is not available; its name, map
-- and state are as they were. What lies on disks that are not good is nobody's.
pub record IsSpared (before : Image) (p q : PlexImage) : Type 0 where
  pub same : q ≡ record p { values = q.values }
  pub away : p.held ≡ true → is_available p ≡ false → (b : ℕ) → b < before.length → q.values b ≡ p.values b
  pub values : p.held ≡ true → (b : ℕ) → b < before.length → dirty_read before (b / before.region) ≡ false → possible_read before p.map (b / before.region) ≡ false → q.values b ≡ p.values b

-- the volume as a life begins over its bytes, where these devices have failed since
abbrev pub volume_over : Group → Vol → (Word → Bool) → Image → Volume
volume_over g v failed image = volume_failed (owners_of g v.name (plexes_started g v)) failed (volume_begun g v (plexes_started g v) image)

-- The recovery of the volume has come so far. No device was called but its own, and of these nothing was written but dirty and marked regions. What
-- its bytes are now stands for what they were: they are as sound, what is read from them was among what was read before, no region is
-- dirty that was not, and a plex that is written to may miss a region more only where that was dirty and a device of the plex has failed.
pub record IsHealing (g : Group) (v : Vol) (old new : Moment) : Type 0 where
  pub touched : IsTouched g v.name old new
  pub plexes : AllZip (IsSpared (image_on old.world.devices g v)) (image_on old.world.devices g v).plexes (image_on new.world.devices g v).plexes
  pub failed : Word → Bool
  pub have_failed : (device : Word) → failed device ≡ true → HasFailed old.counts new.counts device
  pub stands : IsSoundImage (image_on old.world.devices g v) → StandsForVolume (image_on new.world.devices g v) (volume_over g v failed (image_on old.world.devices g v))

-- ---- where it is done

-- regions that may be copied besides those that a plex may miss: the dirty ones, where a plex that is on has failed
pub record MayBeCopied (g : Group) (v : Vol) (before : Image) (old new : Counts) (upper : ℕ → Bool) : Type 0 where
  pub failed : Bool
  pub if_failed : failed ≡ true → (name : Word) × OnHasFailed g v old new name
  pub upper_is : (r : ℕ) → upper r ≡ (is_possibly_behind before r || (failed && dirty_read before r))

-- The marks have each data plex that surely misses something still, and each that they have may miss something; none that is available.
pub record AreMarksLeft (g : Group) (v : Vol) (after : Image) (marks : ℕ) : Type 0 where
  pub sure : (p : PlexImage) → Contains after.plexes p → (r : ℕ) → r < regions_of after → sure_read after p.map r ≡ true →
      (q : Plex) → Contains g.config.plexes q → is_data_plex_of v.name q ≡ true → map_or_zero q.map ≡ p.map → is_marked marks q.map ≡ true
  pub possible : (q : Plex) → Contains g.config.plexes q → is_data_plex_of v.name q ≡ true → is_marked marks q.map ≡ true →
      (r : ℕ) × (r < regions_of after) × (possible_read after (map_or_zero q.map) r ≡ true)

-- Where its bytes were sound all is mended: no region is dirty, no available plex misses anything, and so all that are available hold one list, of
-- which each block is among those that were read before. The number is that of the regions that were copied.
pub record IsMended (g : Group) (v : Vol) (copied marks : ℕ) (old new : Moment) : Type 0 where
  pub clear : (r : ℕ) → r < regions_of (image_on new.world.devices g v) → dirty_read (image_on new.world.devices g v) r ≡ false
  pub whole : (p : PlexImage) → Contains (image_on new.world.devices g v).plexes p → is_available p ≡ true →
      (r : ℕ) → r < regions_of (image_on new.world.devices g v) → possible_read (image_on new.world.devices g v) p.map r ≡ false
  pub list : Contents
  pub reads : ReadsOneList (image_on new.world.devices g v) (candidates_read (image_on old.world.devices g v)) list
  pub upper : ℕ → Bool
  pub upper_is : MayBeCopied g v (image_on old.world.devices g v) old.counts new.counts upper
  pub copied_is : IsSizeBetween copied (regions_of (image_on old.world.devices g v)) (is_surely_behind (image_on old.world.devices g v)) upper
  pub marks_are : AreMarksLeft g v (image_on new.world.devices g v) marks

-- The volume is recovered. The first number is that of the regions that were dirty.
pub record IsHealed (g : Group) (v : Vol) (dirty copied marks : ℕ) (old new : Moment) : Type 0 where
  pub healing : IsHealing g v old new
  pub dirty_is : IsSizeBetween dirty (regions_of (image_on old.world.devices g v)) (sure_read (image_on old.world.devices g v) 30) (dirty_read (image_on old.world.devices g v))
  pub mended : IsSoundImage (image_on old.world.devices g v) → IsMended g v copied marks old new
