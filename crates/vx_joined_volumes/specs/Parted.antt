-- A running volume that a plex leaves: what the edit makes of the configuration, and what the form and the volume are then.
use Rattle.std.specs.Prelude.{◌≡◌, ◌≢◌, ◌==◌, ℕ, Bool, true, false, if◌then◌else◌, None, Contains, List, [], ◌∷◌}
use Rattle.vx_piece.specs.Seen.{Seen}
use Rattle.vx_layout.specs.declared.place.Place.{Place}
use Rattle.vx_pages.specs.declared.local_piece.LocalPiece.{Ghosts}
use Rattle.vx_config_parts.specs.declared.plex.Plex.{Plex}
use Rattle.vx_config_parts.specs.declared.state.PlexState.TheVariants as plex_state
use Rattle.vx_config_parts.specs.declared.vol.Vol.{Vol}
use Rattle.vx_config_parts.specs.Objects.{is_data_plex_of, refers}
use Rattle.vx_objects.specs.declared.config.Config.{Config}
use Rattle.vx_objects.specs.declared.edit.Edit.{Edit}
use Rattle.vx_objects.specs.declared.edit.Edit.TheVariants.{RemovePlex, SetPlex}
use Rattle.vx_objects.specs.Applied.{IsEdited}
use Rattle.vx_image.specs.Own.{IsOfVolume}
use Rattle.vx_image.specs.UsedPlexes.{IsVolOf}
use Rattle.vx_volume.specs.declared.volume.Volume.{Volume}
use Rattle.vx_volume.specs.Parting.{LosesPlexes, shape_without}
use Rattle.vx_volume.specs.Volume.{IsVolume, log_of, shape_of, volume_seen}
use Rattle.vx_lending.specs.declared.form.VolumeForm.{VolumeForm}
use Rattle.vx_volume_laws.specs.Keeping.{LiesStill}

-- ---- its record

-- A plex that is dissociated is EMPTY, of no volume, and has no map; its subdisks stay. One that is removed goes with them.
abbrev pub leaving_edit : Bool → Plex → Edit
leaving_edit remove p = if remove then RemovePlex p.name else SetPlex p.name None plex_state.Empty None

-- One data plex of the volume leaves it by an edit.
pub record TakesOut (c : Config) (v : Vol) (p : Plex) (remove : Bool) (c' : Config) : Type 0 where
  pub there : Contains c.plexes p
  pub data_is : is_data_plex_of v.name p ≡ true
  pub edited : IsEdited (leaving_edit remove p ∷ []) c c'

-- What the edit leaves: the volume, the disks and the relations are recorded as they were, and so is each other plex, which lies where it
-- lay. The volume has no plex that it had not, none of this name, and no sector that it had not.
pub record IsTakenOut (c : Config) (v : Vol) (p : Plex) (c' : Config) : Type 0 where
  pub recorded : IsVolOf c' v
  pub disks : c'.disks ≡ c.disks
  pub snaps : c'.snaps ≡ c.snaps
  pub others : (q : Plex) → Contains c.plexes q → q ≢ p → Contains c'.plexes q
  pub none_added : (x : Plex) → Contains c'.plexes x → refers x.vol v.name ≡ true → Contains c.plexes x
  pub gone : (x : Plex) → Contains c'.plexes x → x.name ≡ p.name → refers x.vol v.name ≡ false
  pub lies : (q : Plex) → Contains c.plexes q → q ≢ p → LiesStill c c' q q
  pub places : (place : Place) → IsOfVolume c' v.name place → IsOfVolume c v.name place

-- ---- its form

-- items that go with these maps, without the one of the first such map
abbrev pub without_map : {A : Type 0} → ℕ → List ℕ → List A → List A
without_map m [] xs = xs
without_map m (k ∷ ks) [] = []
without_map m (k ∷ ks) (x ∷ xs) = if k == m then xs else x ∷ without_map m ks xs

-- The form without the plex of this map; so it is the same, but for the mask of plexes that are off, where it was opened without it.
pub record IsFormParted (m : ℕ) (old new : VolumeForm) : Type 0 where
  pub shape : new.shape ≡ shape_without old.shape m
  pub maps : new.maps.items ≡ without_map m old.maps.items old.maps.items
  pub layouts : new.layouts.items ≡ without_map m old.maps.items old.layouts.items
  pub logs : new.logs.items ≡ old.logs.items

-- ---- the volume of the code

-- The plex of this map left each region of a volume. Its log is as it was.
pub record HasParted {P : Type 0} {ghosts : Ghosts P} (see : P → Seen) (m : ℕ) (old new : Volume P ghosts) : Type 0 where
  pub loses : LosesPlexes m (volume_seen see old) (volume_seen see new)
  pub whole : IsVolume (volume_seen see new)
  pub shape : shape_of new ≡ shape_without (shape_of old) m
  pub log : log_of new ≡ log_of old
