-- A running volume that a plex of its log leaves: what the edit is, on which copy of the log the plex is, and what the form and the volume are
-- then.
use Rattle.std.specs.Prelude.{◌≡◌, ℕ, ◌<◌, Bool, true, Contains, List, [], ◌∷◌, length, map, slice_index_or}
use Rattle.std.specs.List.{flat_map, remove}
use Rattle.vx_base.specs.Named.{Word}
use Rattle.vx_piece.specs.Seen.{Seen}
use Rattle.vx_layout.specs.declared.layout.Layout.{Layout}
use Rattle.vx_layout.specs.declared.strip.Strip.{Strip}
use Rattle.vx_pages.specs.declared.local_piece.LocalPiece.{Ghosts}
use Rattle.vx_config_parts.specs.declared.plex.Plex.{Plex}
use Rattle.vx_config_parts.specs.declared.vol.Vol.{Vol}
use Rattle.vx_config_parts.specs.Objects.{is_log_plex_of}
use Rattle.vx_objects.specs.declared.config.Config.{Config}
use Rattle.vx_objects.specs.Applied.{IsEdited}
use Rattle.vx_image.specs.UsedPlexes.{used_logs}
use Rattle.vx_volume.specs.declared.volume.Volume.{Volume}
use Rattle.vx_volume.specs.Volume.{IsVolume, log_of, shape_of, volume_seen}
use Rattle.vx_volume.specs.Yielding.{PartsLog, YieldsCopy}
use Rattle.vx_lending.specs.declared.form.VolumeForm.{VolumeForm}
use Rattle.vx_group_volumes.specs.Runs.{Opening}
use Rattle.vx_joined_volumes.specs.Parted.{leaving_edit}

-- ---- its record

-- One log plex of the volume leaves it by an edit.
pub record TakesLogOut (c : Config) (v : Vol) (p : Plex) (remove : Bool) (c' : Config) : Type 0 where
  pub there : Contains c.plexes p
  pub log_is : is_log_plex_of v.name p ≡ true
  pub edited : IsEdited (leaving_edit remove p ∷ []) c c'

-- ---- its copy

-- the log plexes that a volume was opened with, in the order of the copies
abbrev pub opened_logs : Opening → List Word
opened_logs o = map (λ (q : Plex). q.name) (used_logs o.vol.dco o.config o.good o.fresh o.vol.name)

-- a strip is one of both layouts
pub record HaveStrip (l m : Layout) : Type 0 where
  pub strip : Strip
  pub in_first : Contains (flat_map (λ strips. strips) l.columns) strip
  pub in_second : Contains (flat_map (λ strips. strips) m.columns) strip

-- the copy at this place lies where the layout does: they have a strip in common
pub record IsCopyOn (logs : List Layout) (copy : ℕ) (l : Layout) : Type 0 where
  pub inside : copy < length logs
  pub shared : (d : Layout) → HaveStrip (slice_index_or logs copy d) l

-- no copy lies just where the layout does
abbrev pub IsOnNoCopy : List Layout → Layout → Type 0
IsOnNoCopy logs l = (k : ℕ) (d : Layout) → k < length logs → (slice_index_or logs k d).unit ≡ l.unit → (slice_index_or logs k d).columns ≡ l.columns → ⊥

-- ---- its form

-- The form without the copy of the log at this place.
pub record IsFormYielded (copy : ℕ) (old new : VolumeForm) : Type 0 where
  pub shape : new.shape ≡ old.shape
  pub maps : new.maps.items ≡ old.maps.items
  pub layouts : new.layouts.items ≡ old.layouts.items
  pub logs : new.logs.items ≡ remove old.logs.items copy

-- ---- the volume of the code

-- The log of a volume has given up this copy, one of two, with its pieces. Nothing else of it has changed.
pub record HasYielded {P : Type 0} {ghosts : Ghosts P} (see : P → Seen) (copy : ℕ) (old new : Volume P ghosts) : Type 0 where
  pub yields : YieldsCopy copy (volume_seen see old) (volume_seen see new)
  pub whole : IsVolume (volume_seen see new)
  pub shape : shape_of new ≡ shape_of old
  pub gone : List Seen
  pub parts : PartsLog see copy gone (log_of old) (log_of new)
