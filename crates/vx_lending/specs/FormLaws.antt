-- What the form of a volume is good for.
use Rattle.std.specs.Prelude.{◌≡◌, ◌≢◌, ℕ, ◌*◌, ◌<◌, ◌≤◌, ◌++◌, Bool, true, false, None, is_some, List, [], length, map, slice_index_or}
use Rattle.std.specs.List.{All, filter}
use Rattle.vx_block.specs.Regions.{region_count}
use Rattle.vx_mask.specs.Mask.{has, union}
use Rattle.vx_mapfmt.specs.Sizes.{map_bytes_of, plex_bytes_of}
use Rattle.vx_marks.specs.Log.{LogSeen}
use Rattle.vx_piece.specs.Seen.{Seen}
use Rattle.vx_layout.specs.Columns.{capacity}
use Rattle.vx_layout.specs.declared.layout.Layout.{Layout}
use Rattle.vx_carve.specs.Strips.{AreApartStrips, ArePlexes, EachStrip, IsFreeStrip, IsOpenRun, all_lie_in}
use Rattle.vx_config_parts.specs.declared.disk.Disk.{Disk}
use Rattle.vx_config_parts.specs.declared.vol.Vol.{Vol}
use Rattle.vx_objects.specs.declared.config.Config.{Config}
use Rattle.vx_image.specs.Room.{public_of}
use Rattle.vx_volume.specs.declared.volume.VolumeShape.{VolumeShape}
use Rattle.vx_volume.specs.Opening.{AreVolumeMasks}
use Rattle.vx_lending.specs.RegionLaws.{AreMapsOf}
use Rattle.vx_lending.specs.RegionsTaken.{AreDifferent}
use Rattle.vx_lending.specs.declared.form.VolumeForm.{VolumeForm}
use Rattle.vx_image.specs.UsedPlexes.{IsVolOf}
use Rattle.vx_lending.specs.Form.{IsFormOf}

-- ---- where the plexes lie

-- the disks that are good
abbrev pub good_disks : ℕ → List Disk → List Disk
good_disks good disks = filter (λ d. has good d.slot) disks

-- the layouts of the plexes, and behind them those of the logs
abbrev pub all_layouts : VolumeForm → List Layout
all_layouts form = form.layouts.items ++ form.logs.items

-- each sector of these layouts is in one of the pieces
abbrev pub AreFree : List ℕ → List Seen → List Layout → Type 0
AreFree numbers ps layouts = All (λ (l : Layout). EachStrip (IsFreeStrip numbers ps) l.columns) layouts

-- the devices of the good disks have numbers
abbrev pub AreNumbered : List ℕ → ℕ → List Disk → Type 0
AreNumbered numbers good disks = All (λ (d : Disk). d.slot < length numbers) (good_disks good disks)

-- The plexes and logs of a form lie in the public regions of good disks alone.
abbrev pub FormsLieOnGoodDisks : Type 0
FormsLieOnGoodDisks =
    (c : Config) (good : ℕ) (v : Vol) (fresh : Bool) (form : VolumeForm) → IsFormOf c good v fresh form →
    All (λ (l : Layout). all_lie_in (map public_of (good_disks good c.disks)) l.columns ≡ true) (all_layouts form)

-- So they are in pieces where those regions are.
abbrev pub FormsAreFree : Type 0
FormsAreFree =
    (c : Config) (good : ℕ) (v : Vol) (fresh : Bool) (form : VolumeForm) → IsFormOf c good v fresh form →
    (numbers : List ℕ) (ps : List Seen) → All (λ d. IsOpenRun numbers ps (public_of d)) (good_disks good c.disks) → AreFree numbers ps (all_layouts form)

-- The plexes of the form can be taken out of the pieces, and its logs beside them.
pub record CanBeTaken (numbers : List ℕ) (ps : List Seen) (form : VolumeForm) : Type 0 where
  pub maps : length form.maps.items ≡ length form.layouts.items
  pub differ : AreDifferent form.maps.items
  pub inside : (k : ℕ) (d : Layout) → k < length form.layouts.items → form.shape.geometry.length ≤ capacity (slice_index_or form.layouts.items k d).columns
  pub plexes : ArePlexes numbers form.layouts.items
  pub free : AreFree numbers ps form.layouts.items
  pub all_plexes : ArePlexes numbers (all_layouts form)
  pub all_free : AreFree numbers ps (all_layouts form)

-- They can where they are in pieces.
abbrev pub FormsCanBeTaken : Type 0
FormsCanBeTaken =
    (c : Config) (good : ℕ) (v : Vol) (fresh : Bool) (form : VolumeForm) → IsVolOf c v → IsFormOf c good v fresh form →
    (numbers : List ℕ) (ps : List Seen) → AreNumbered numbers good c.disks → AreFree numbers ps (all_layouts form) → CanBeTaken numbers ps form

-- The plexes and logs of two volumes have no sector in common.
abbrev pub FormsAreApart : Type 0
FormsAreApart =
    (c : Config) (good good' : ℕ) (v w : Vol) (fresh fresh' : Bool) (form form' : VolumeForm) → IsFormOf c good v fresh form → IsFormOf c good' w fresh' form' → v.name ≢ w.name →
    All (λ (l : Layout). All (λ (m : Layout). AreApartStrips l.columns m.columns) (all_layouts form')) (all_layouts form)

-- ---- its masks

-- some plex is on
abbrev pub HasOn : VolumeShape → Type 0
HasOn shape = (k : ℕ) × (has shape.on k ≡ true)

-- the log is one for the volume: it is there where the volume has a DCO, and it has the regions and the map of the dirty regions
pub record IsLogFor (v : Vol) (log : LogSeen) : Type 0 where
  pub there : log.there ≡ is_some v.dco
  pub regions : (r : ℕ) → r < region_count v.len v.region → log.has_region r ≡ true
  pub maps : log.there ≡ true → 30 < log.maps

-- A volume may be opened with the masks of its form, over regions that were taken with its maps. Without a log its one plex has
-- to be on.
abbrev pub FormsHaveMasks : Type 0
FormsHaveMasks =
    (c : Config) (good : ℕ) (v : Vol) (fresh : Bool) (form : VolumeForm) → IsVolOf c v → IsFormOf c good v fresh form →
    (log : LogSeen) → IsLogFor v log → (log.there ≡ false → HasOn form.shape) → AreVolumeMasks form.shape log × AreMapsOf form.shape form.maps.items

-- No map of the form is that of the dirty regions, nor one behind it.
abbrev pub FormsHaveLowMaps : Type 0
FormsHaveLowMaps =
    (c : Config) (good : ℕ) (v : Vol) (fresh : Bool) (form : VolumeForm) → IsVolOf c v → IsFormOf c good v fresh form →
    (k : ℕ) → has (union (union form.shape.on form.shape.off) form.shape.snaps) k ≡ true → k < 30

-- ---- its logs

-- at most two, none without a DCO, and each has the bytes of the change maps of the volume
pub record HasLogs (v : Vol) (form : VolumeForm) : Type 0 where
  pub few : length form.logs.items ≤ 2
  pub none : v.dco ≡ None → form.logs.items ≡ []
  pub room : All (λ (l : Layout). plex_bytes_of 32 (map_bytes_of (region_count form.shape.geometry.length form.shape.geometry.region)) ≤ 512 * capacity l.columns) form.logs.items

abbrev pub FormsHaveLogs : Type 0
FormsHaveLogs = (c : Config) (good : ℕ) (v : Vol) (fresh : Bool) (form : VolumeForm) → IsVolOf c v → IsFormOf c good v fresh form → HasLogs v form
