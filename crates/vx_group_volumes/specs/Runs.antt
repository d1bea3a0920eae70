-- The running volumes of an imported group.
use Rattle.std.specs.Prelude.{◌≡◌, ℕ, nat_lt, is_some, Bool, List, length}
use Rattle.vx_piece.specs.Seen.{Seen}
use Rattle.vx_pages.specs.declared.local_piece.LocalPiece.{Ghosts}
use Rattle.vx_config_parts.specs.declared.vol.Vol.{Vol}
use Rattle.vx_objects.specs.declared.config.Config.{Config}
use Rattle.vx_image.specs.Image.{IsFilled}
use Rattle.vx_volume.specs.Volume.{IsVolume, shape_of, volume_seen}
use Rattle.vx_image.specs.UsedPlexes.{IsVolOf}
use Rattle.vx_lending.specs.Form.{IsFormOf}
use Rattle.vx_lending.specs.declared.public.Running.{Running}
use Rattle.vx_volume_laws.specs.Keeping.{KeepsVolume}
use Rattle.vx_volume_laws.specs.Lying.{LiesIn}
use Rattle.vx_group_calls.specs.Causes.{AreCutWhereDead}

-- what a volume was opened by: a configuration, the slots whose disks were good, and whether it had never been started
pub record Opening : Type 0 where
  pub config : Config
  pub good : ℕ
  pub vol : Vol
  pub fresh : Bool

-- A volume of the configuration runs: it lies where the form says that it was opened with, the configuration keeps it since then, it has
-- a log just where it has a DCO, and a region of it is dead only where it is cut.
pub record RunsIn {P : Type 0} {ghosts : Ghosts P} (see : P → Seen) (config : Config) (good : ℕ) (numbers : List ℕ) (vol : Vol) (running : Running P ghosts) : Type 0 where
  pub recorded : IsVolOf config vol
  pub filled : IsFilled vol.state
  pub opening : Opening
  pub of : IsVolOf opening.config opening.vol
  pub form : IsFormOf opening.config opening.good opening.vol opening.fresh running.form
  pub keeps : KeepsVolume opening.config opening.good opening.vol opening.fresh config good vol
  pub whole : IsVolume (volume_seen see running.volume)
  pub shape : shape_of running.volume ≡ running.form.shape
  pub logged : nat_lt 0 (length running.form.logs.items) ≡ is_some vol.dco
  pub lies : LiesIn see numbers running.form running.volume
  pub cut : AreCutWhereDead (volume_seen see running.volume)
