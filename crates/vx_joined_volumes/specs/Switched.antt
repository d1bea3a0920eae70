-- A running volume of which a plex goes on or off: what the edit makes of the plex, and what the form and the volume are then.
use Rattle.std.specs.Prelude.{◌≡◌, ◌≢◌, ◌⊎◌, ℕ, Bool, true, Some, Contains, [], ◌∷◌}
use Rattle.vx_piece.specs.Seen.{Seen}
use Rattle.vx_layout.specs.declared.place.Place.{Place}
use Rattle.vx_pages.specs.declared.local_piece.LocalPiece.{Ghosts}
use Rattle.vx_config_parts.specs.declared.plex.Plex.{Plex}
use Rattle.vx_config_parts.specs.declared.state.PlexState.{PlexState}
use Rattle.vx_config_parts.specs.declared.vol.Vol.{Vol}
use Rattle.vx_config_parts.specs.Objects.{is_data_plex_of}
use Rattle.vx_objects.specs.declared.config.Config.{Config}
use Rattle.vx_objects.specs.declared.edit.Edit.TheVariants.{SetPlex}
use Rattle.vx_objects.specs.Applied.{IsEdited}
use Rattle.vx_image.specs.Bytes.{map_or_zero}
use Rattle.vx_image.specs.Own.{IsOfVolume}
use Rattle.vx_image.specs.UsedPlexes.{IsVolOf}
use Rattle.vx_volume.specs.declared.volume.Volume.{Volume}
use Rattle.vx_volume.specs.Switching.{Switches, shape_with}
use Rattle.vx_volume.specs.Volume.{IsVolume, log_of, shape_of, volume_seen}
use Rattle.vx_lending.specs.RegionsTaken.{is_among}
use Rattle.vx_lending.specs.declared.form.VolumeForm.{VolumeForm}
use Rattle.vx_volume_laws.specs.Keeping.{LiesStill}

-- ---- its state

-- the plex in this state
abbrev pub restated : Plex → PlexState → Plex
restated p next = record p { state = next }

-- One data plex of the volume gets another state by an edit. Its volume and its map stay.
pub record SetsState (c : Config) (v : Vol) (p : Plex) (next : PlexState) (c' : Config) : Type 0 where
  pub there : Contains c.plexes p
  pub data_is : is_data_plex_of v.name p ≡ true
  pub edited : IsEdited (SetPlex p.name (Some v.name) next p.map ∷ []) c c'

-- What the edit leaves: the volume, the disks, subdisks and relations are recorded as they were, and so is each other plex; the plex has
-- its state, and no plex is added. Each lies where it lay, and the volume has no sector that it had not.
pub record IsStateSet (c : Config) (v : Vol) (p : Plex) (next : PlexState) (c' : Config) : Type 0 where
  pub recorded : IsVolOf c' v
  pub disks : c'.disks ≡ c.disks
  pub subdisks : c'.subdisks ≡ c.subdisks
  pub snaps : c'.snaps ≡ c.snaps
  pub own : Contains c'.plexes (restated p next)
  pub others : (q : Plex) → Contains c.plexes q → q ≢ p → Contains c'.plexes q
  pub none_added : (x : Plex) → Contains c'.plexes x → (x ≡ restated p next) ⊎ Contains c.plexes x
  pub lies : (q : Plex) → LiesStill c c' q q
  pub places : (place : Place) → IsOfVolume c' v.name place → IsOfVolume c v.name place

-- ---- its form

-- the volume was opened with the plex: its form has the map
abbrev pub WasTaken : VolumeForm → Plex → Type 0
WasTaken form p = is_among (map_or_zero p.map) form.maps.items ≡ true

-- the form with the plex of this map on or off
pub record IsFormSwitched (m : ℕ) (on : Bool) (old new : VolumeForm) : Type 0 where
  pub shape : new.shape ≡ shape_with old.shape m on
  pub maps : new.maps.items ≡ old.maps.items
  pub layouts : new.layouts.items ≡ old.layouts.items
  pub logs : new.logs.items ≡ old.logs.items

-- ---- the volume of the code

-- The plex of this map went on or off in each region of a volume. Its log is as it was.
pub record HasSwitched {P : Type 0} {ghosts : Ghosts P} (see : P → Seen) (m : ℕ) (on : Bool) (old new : Volume P ghosts) : Type 0 where
  pub switches : Switches m on (volume_seen see old) (volume_seen see new)
  pub whole : IsVolume (volume_seen see new)
  pub shape : shape_of new ≡ shape_with (shape_of old) m on
  pub log : log_of new ≡ log_of old
