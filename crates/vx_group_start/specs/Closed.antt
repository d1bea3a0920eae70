-- A volume that is put back, or comes back as it was.
use Rattle.std.specs.Prelude.{◌≡◌}
use Rattle.vx_piece.specs.Seen.{Seen}
use Rattle.vx_pages.specs.declared.local_piece.LocalPiece.{Ghosts}
use Rattle.vx_volume.specs.declared.volume.Volume.{Volume}
use Rattle.vx_volume.specs.Volume.{log_of, shape_of, volume_seen}
use Rattle.vx_lending.specs.declared.public.Running.{Running}

-- the volume is as that one
pub record IsSameVolume {P : Type 0} {ghosts : Ghosts P} (seen : P → Seen) (old new : Volume P ghosts) : Type 0 where
  pub seen_is : volume_seen seen new ≡ volume_seen seen old
  pub log_is : log_of new ≡ log_of old
  pub shape_is : shape_of new ≡ shape_of old

-- the running volume is as that one, with its form
pub record IsSameRunning {P : Type 0} {ghosts : Ghosts P} (seen : P → Seen) (old new : Running P ghosts) : Type 0 where
  pub form_is : new.form ≡ old.form
  pub volume_is : IsSameVolume seen old.volume new.volume
