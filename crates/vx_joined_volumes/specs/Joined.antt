-- A running volume that a plex joins: what joins it, the form that it has then, and what it counts as opened by.
use Rattle.std.specs.Prelude.{◌≡◌, ℕ, ◌<◌, is_some, true, false, Some, List, [], ◌∷◌, ◌++◌, map}
use Rattle.vx_mask.specs.Mask.{only, union}
use Rattle.vx_piece.specs.Seen.{Seen}
use Rattle.vx_layout.specs.declared.layout.Layout.{Layout}
use Rattle.vx_pages.specs.declared.local_piece.LocalPiece.{Ghosts}
use Rattle.vx_config_parts.specs.declared.disk.Disk.{Disk}
use Rattle.vx_config_parts.specs.declared.object.Object.{Object}
use Rattle.vx_config_parts.specs.declared.plex.Plex.{Plex}
use Rattle.vx_config_parts.specs.declared.vol.Vol.{Vol}
use Rattle.vx_config_parts.specs.Objects.{is_data_plex_of}
use Rattle.vx_objects.specs.declared.config.Config.{Config}
use Rattle.vx_objects.specs.declared.edit.Edit.TheVariants.{Make}
use Rattle.vx_objects.specs.Applied.{IsEdited}
use Rattle.vx_image.specs.Bytes.{is_held}
use Rattle.vx_image.specs.Image.{is_available_state}
use Rattle.vx_cell.specs.Plexes.{PlexSeen}
use Rattle.vx_volume.specs.declared.volume.Volume.{Volume}
use Rattle.vx_volume.specs.Changing.{IsPlexFor, PutsPlex}
use Rattle.vx_volume.specs.Volume.{IsVolume, log_of, shape_of, volume_seen}
use Rattle.vx_lending.specs.RegionsTaken.{AreTakenRegions}
use Rattle.vx_lending.specs.declared.form.VolumeForm.{VolumeForm}
use Rattle.vx_group_edits.specs.OfVolume.{AreOf}
use Rattle.vx_group_edits.specs.Joins.{plexes_in}
use Rattle.vx_group_volumes.specs.Runs.{Opening}
use Rattle.vx_group_volumes.specs.Places.{disks_at}

-- ---- what it counts as opened by

-- the slots of disks, as a mask
abbrev pub mask_of_slots : List Disk → ℕ
mask_of_slots [] = 0
mask_of_slots (d ∷ ds) = union (only d.slot) (mask_of_slots ds)

-- the disks that were good as the volume was opened, and those that are good now
abbrev pub good_joined : Opening → ℕ → ℕ
good_joined o good = union (mask_of_slots (disks_at o)) good

-- by the new configuration, with these disks, as a volume that was started before
abbrev pub opening_joined : Opening → Config → ℕ → Vol → Opening
opening_joined o c good v = record { config = c; good = good_joined o good; vol = v; fresh = false }

-- ---- what joins it

-- One data plex with this map joins a prepared volume by an edit that adds it with its subdisks: its state is one that is available,
-- and all its disks are good.
pub record JoinsOne (c : Config) (good : ℕ) (v : Vol) (added : List Object) (c' : Config) (p : Plex) (m : ℕ) : Type 0 where
  pub of : AreOf v.name added
  pub edited : IsEdited (Make added ∷ []) c c'
  pub alone : plexes_in added ≡ p ∷ []
  pub data_is : is_data_plex_of v.name p ≡ true
  pub state : is_available_state p.state ≡ true
  pub map : p.map ≡ Some m
  pub low : m < 30
  pub prepared : is_some v.dco ≡ true
  pub held : is_held c' good p ≡ true

-- the form with one plex more, which is on: behind the others, with this map and layout
pub record IsFormJoined (m : ℕ) (l : Layout) (old new : VolumeForm) : Type 0 where
  pub shape : new.shape ≡ record old.shape { on = union old.shape.on (only m) }
  pub maps : new.maps.items ≡ old.maps.items ++ m ∷ []
  pub layouts : new.layouts.items ≡ old.layouts.items ++ l ∷ []
  pub logs : new.logs.items ≡ old.logs.items

-- ---- the volume of the code

-- the plex of a region: these pieces, with the map
abbrev pub plex_of_run : ℕ → List Seen → List PlexSeen
plex_of_run m run = record { map = m; pieces = run } ∷ []

-- A plex with this map was put into each region of a volume, in pieces that lie where the layout does. Its log is as it was.
pub record HasJoined {P : Type 0} {ghosts : Ghosts P} (see : P → Seen) (numbers : List ℕ) (v : Vol) (m : ℕ) (l : Layout) (runs : List (List Seen)) (old new : Volume P ghosts) : Type 0 where
  pub fits : IsPlexFor m runs (volume_seen see old)
  pub puts : PutsPlex m runs (volume_seen see old) (volume_seen see new)
  pub taken : AreTakenRegions numbers (m ∷ []) (l ∷ []) v.len v.region (map (plex_of_run m) runs)
  pub whole : IsVolume (volume_seen see new)
  pub shape : shape_of new ≡ record (shape_of old) { on = union (shape_of old).on (only m) }
  pub log : log_of new ≡ log_of old
