-- A running volume of one plex whose log is another one by a new configuration: what has changed there, and in the volume.
use Rattle.std.specs.Prelude.{◌≡◌, ℕ, List, map}
use Rattle.vx_block.specs.Regions.{region_count}
use Rattle.vx_mask.specs.Mask.{only}
use Rattle.vx_piece.specs.Seen.{Seen}
use Rattle.vx_pages.specs.declared.local_piece.LocalPiece.{Ghosts}
use Rattle.vx_pages.specs.Sector.{KeepsPiece}
use Rattle.vx_maps.specs.Going.{CutCopiesGo}
use Rattle.vx_layout.specs.declared.layout.Layout.{Layout}
use Rattle.vx_volume.specs.declared.volume.Volume.{Volume}
use Rattle.vx_volume.specs.Log.{log_seen}
use Rattle.vx_volume.specs.Logging.{ChangesLog}
use Rattle.vx_volume.specs.Volume.{IsVolume, log_of, shape_of, volume_seen}
use Rattle.vx_lending.specs.declared.form.VolumeForm.{VolumeForm}
use Rattle.vx_lending.specs.Logs.{log_copies}
use Rattle.vx_lending.specs.Taken.{AreTakenCopies, log_sectors}
use Rattle.vx_volume_laws.specs.Lying.{IsLogFor, IsLogOver}

-- ---- the form

-- plex 0 is on and alone, and the logs lie so
pub record IsFormRelogged (logs : List Layout) (old new : VolumeForm) : Type 0 where
  pub shape : new.shape ≡ record old.shape { on = only 0; off = 0; snaps = 0 }
  pub maps : new.maps.items ≡ map (λ m. 0) old.maps.items
  pub layouts : new.layouts.items ≡ old.layouts.items
  pub logs_are : new.logs.items ≡ logs

-- ---- the volume of the code

-- The volume has another log, whose copies lie on these layouts, each cut and gone on since it was taken out of the pieces; or none, and then
-- there is no layout.
pub record HasRelogged {P : Type 0} {ghosts : Ghosts P} (see : P → Seen) (numbers : List ℕ) (logs : List Layout) (old new : Volume P ghosts) : Type 0 where
  pub changes : ChangesLog (log_seen see (log_of new)) (volume_seen see old) (volume_seen see new)
  pub whole : IsVolume (volume_seen see new)
  pub shape : shape_of new ≡ record (shape_of old) { on = only 0; off = 0; snaps = 0 }
  pub copies : List (List Seen)
  pub taken : AreTakenCopies numbers logs (log_sectors (shape_of old).geometry) copies
  pub cut : CutCopiesGo KeepsPiece copies (log_copies see (log_of new))
  pub log_for : IsLogFor (shape_of old).geometry (log_of new)
  pub over : IsLogOver (log_seen see (log_of new)) (region_count (shape_of old).geometry.length (shape_of old).geometry.region) (log_copies see (log_of new))
