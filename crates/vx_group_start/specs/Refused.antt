-- Why a volume is not started.
use Rattle.std.specs.Prelude.{◌≡◌, ℕ, ◌<◌, ◌⊎◌, true, false, is_some, List, [], length}
use Rattle.vx_base.specs.Counts.{Rose}
use Rattle.vx_piece.specs.Seen.{Seen}
use Rattle.vx_carve.specs.Together.{cut_on, faults_on}
use Rattle.vx_maps.specs.Loading.{copy_at}
use Rattle.vx_pages.specs.declared.local_piece.LocalPiece.{Ghosts}
use Rattle.vx_config_parts.specs.declared.vol.Vol.{Vol}
use Rattle.vx_objects.specs.declared.config.Config.{Config}
use Rattle.vx_volume.specs.declared.log.VolumeLog.{VolumeLog}
use Rattle.vx_volume.specs.declared.volume.VolumeShape.{VolumeShape}
use Rattle.vx_volume.specs.Log.{log_seen}
use Rattle.vx_volume.specs.Opening.{IsFirstUnread}
use Rattle.vx_lending.specs.declared.form.VolumeForm.{VolumeForm}
use Rattle.vx_lending.specs.Form.{IsFormOf}
use Rattle.vx_lending.specs.Logs.{log_header}
use Rattle.vx_lending.specs.Pieces.{copy_pieces}
use Rattle.vx_lending.specs.declared.public.Public.{Public}
use Rattle.vx_lending.specs.Public.{still_pieces}
use Rattle.vx_group_start.specs.declared.fault.StartFault.{StartFault}
use Rattle.vx_group_start.specs.declared.fault.StartFault.TheVariants.{OutOfMemory, NoLog, NoCurrent, Failed, PowerLost}
use Rattle.vx_group_start.specs.Fresh.{is_fresh, is_lowest_on}
use Rattle.vx_group_start.specs.Logs.{AreOn, AreStartCopies, IsPassedOver, IsStartLog}

-- The volume has a DCO, and each copy of its log that is on good disks was passed over; of one that was never started there is none.
pub record IsUnlogged (v : Vol) (numbers : List ℕ) (form : VolumeForm) (before after : List Seen) : Type 0 where
  pub dco : is_some v.dco ≡ true
  pub copies : List (List Seen)
  pub are : AreStartCopies numbers form before copies
  pub filled : is_fresh v.state ≡ true → copies ≡ []
  pub passed : (n : ℕ) → n < length copies → IsPassedOver (log_header form.shape.geometry) before after (copy_at copies n)

-- a device that a copy of the log lies on has failed
pub record IsLogFailed (numbers : List ℕ) (form : VolumeForm) (before after : List Seen) (device : ℕ) : Type 0 where
  pub copies : List (List Seen)
  pub are : AreStartCopies numbers form before copies
  pub own : AreOn device (copy_pieces copies)
  pub rose : Rose (faults_on device before) (faults_on device after)

-- the power of a device that a copy of the log lies on is gone
pub record IsLogCut (numbers : List ℕ) (form : VolumeForm) (before after : List Seen) : Type 0 where
  pub copies : List (List Seen)
  pub are : AreStartCopies numbers form before copies
  pub device : ℕ
  pub own : AreOn device (copy_pieces copies)
  pub cut : cut_on device after ≡ 1

-- by its log the region is the first without a plex that is on and unmarked
pub record IsUnread {P : Type 0} {ghosts : Ghosts P} (seen : P → Seen) (v : Vol) (numbers : List ℕ) (form : VolumeForm) (old : Public P ghosts) (r : ℕ) : Type 0 where
  pub log : VolumeLog P ghosts
  pub is : IsStartLog seen v numbers form (still_pieces seen old) log
  pub first : IsFirstUnread form.shape (log_seen seen log) r

-- the volume was never started, and its lowest data plex is not on: no plex is current, so not in region 0
pub record IsLowestAway (v : Vol) (shape : VolumeShape) (r : ℕ) : Type 0 where
  pub fresh : is_fresh v.state ≡ true
  pub away : is_lowest_on shape ≡ false
  pub first : r ≡ 0

-- why a volume of this form is not started
abbrev pub IsNotStarted : {P : Type 0} {ghosts : Ghosts P} → (P → Seen) → Vol → List ℕ → VolumeForm → Public P ghosts → Public P ghosts → StartFault → Type 0
IsNotStarted seen v numbers form old new OutOfMemory = Unit {0}
IsNotStarted seen v numbers form old new NoLog = IsUnlogged v numbers form (still_pieces seen old) (still_pieces seen new)
IsNotStarted seen v numbers form old new (NoCurrent r) = IsUnread seen v numbers form old r ⊎ IsLowestAway v form.shape r
IsNotStarted seen v numbers form old new (Failed device) = IsLogFailed numbers form (still_pieces seen old) (still_pieces seen new) device
IsNotStarted seen v numbers form old new PowerLost = IsLogCut numbers form (still_pieces seen old) (still_pieces seen new)

-- why a volume of the configuration is not started: there was no memory, or a cause by its form
abbrev pub IsRefused : {P : Type 0} {ghosts : Ghosts P} → (P → Seen) → Config → ℕ → Vol → List ℕ → Public P ghosts → Public P ghosts → StartFault → Type 0
IsRefused seen c good v numbers old new fault = (fault ≡ OutOfMemory) ⊎ ((form : VolumeForm) × IsFormOf c good v (is_fresh v.state) form × IsNotStarted seen v numbers form old new fault)
