-- What the log of a volume that is started is made of.
use Rattle.std.specs.Prelude.{◌≡◌, ℕ, ◌⊎◌, Bool, true, false, List}
use Rattle.std.specs.List.{All, list_any}
use Rattle.vx_base.specs.Blocks.{Contents}
use Rattle.vx_base.specs.Counts.{Rose}
use Rattle.vx_piece.specs.Seen.{Seen}
use Rattle.vx_runs.specs.Run.{RunTells, run_contents}
use Rattle.vx_carve.specs.Together.{Holds, cut_on, faults_on}
use Rattle.vx_fronts.specs.Rests.{is_of}
use Rattle.vx_maps.specs.Going.{CutCopiesGo}
use Rattle.vx_pages.specs.Sector.{KeepsPiece}
use Rattle.vx_pages.specs.declared.local_piece.LocalPiece.{Ghosts}
use Rattle.vx_config_parts.specs.declared.vol.Vol.{Vol}
use Rattle.vx_volume.specs.declared.log.VolumeLog.{VolumeLog}
use Rattle.vx_volume.specs.declared.volume.VolumeShape.{VolumeShape}
use Rattle.vx_volume.specs.Log.{log_seen}
use Rattle.vx_lending.specs.declared.form.VolumeForm.{VolumeForm}
use Rattle.vx_lending.specs.FormLaws.{IsLogFor}
use Rattle.vx_lending.specs.Logs.{IsFreshLog, IsLoadedLog, log_copies}
use Rattle.vx_lending.specs.Taken.{AreTakenCopies, log_sectors}
use Rattle.vx_group_start.specs.Fresh.{is_fresh, maps_to_copy}

-- the log is new where the volume was never started, and else loaded from these copies
abbrev pub IsLogOf : {P : Type 0} {ghosts : Ghosts P} → (P → Seen) → Bool → VolumeShape → List (List Seen) → VolumeLog P ghosts → Type 0
IsLogOf seen true shape copies log = IsFreshLog seen shape.geometry (maps_to_copy shape) copies log
IsLogOf seen false shape copies log = IsLoadedLog seen shape.geometry copies log

-- the copies of the log as they were taken: they hold what the pieces did
pub record AreStartCopies (numbers : List ℕ) (form : VolumeForm) (before : List Seen) (copies : List (List Seen)) : Type 0 where
  pub taken : AreTakenCopies numbers form.logs.items (log_sectors form.shape.geometry) copies
  pub hold : (contents : ℕ → Contents) → All (Holds contents) before → All (λ copy. All (Holds contents) copy) copies

-- The log was made of copies that were taken, and is one for the volume. Each copy was cut, perhaps, and then each of its pieces has gone on.
pub record IsStartLog {P : Type 0} {ghosts : Ghosts P} (seen : P → Seen) (v : Vol) (numbers : List ℕ) (form : VolumeForm) (before : List Seen) (log : VolumeLog P ghosts) : Type 0 where
  pub copies : List (List Seen)
  pub are : AreStartCopies numbers form before copies
  pub log_is : IsLogOf seen (is_fresh v.state) form.shape copies log
  pub cut : CutCopiesGo KeepsPiece copies (log_copies seen log)
  pub fits : IsLogFor v (log_seen seen log)

-- ---- why there is none

-- some of the pieces are of the device
abbrev pub AreOn : ℕ → List Seen → Type 0
AreOn device ps = list_any (is_of device) ps ≡ true

-- the power of one of the pieces is gone
abbrev pub SomeCut : List Seen → Type 0
SomeCut ps = (device : ℕ) × (cut_on device ps ≡ 1)

-- The copy was passed over: a device that it lies on has failed, or the copy tells what it holds, and does not begin with the header.
abbrev pub IsPassedOver : List ℕ → List Seen → List Seen → List Seen → Type 0
IsPassedOver header before after copy = ((device : ℕ) × AreOn device copy × Rose (faults_on device before) (faults_on device after)) ⊎ (RunTells copy → run_contents copy 0 ≡ header → ⊥)
