-- The steps of a start, over pieces that were taken.
use Rattle.std.specs.Prelude.{◌≡◌, ◌⊎◌, ℕ, ◌<◌, ◌++◌, Bool, true, false, is_some, None, List, [], length}
use Rattle.vx_base.specs.Counts.{Rose}
use Rattle.vx_piece.specs.Seen.{Seen}
use Rattle.vx_carve.specs.Together.{cut_on, faults_on}
use Rattle.vx_cell.specs.Plexes.{PlexSeen}
use Rattle.vx_pages.specs.Sector.{KeepsPiece}
use Rattle.vx_pages.specs.declared.local_piece.LocalPiece.{Ghosts}
use Rattle.vx_maps.specs.Going.{CutCopiesGo}
use Rattle.vx_maps.specs.Loading.{copy_at}
use Rattle.vx_maps.specs.declared.fault.StoreFault.{StoreFault}
use Rattle.vx_maps.specs.declared.fault.StoreFault.TheVariants as store
use Rattle.vx_marks.specs.Log.{LogSeen}
use Rattle.vx_config_parts.specs.declared.vol.Vol.{Vol}
use Rattle.vx_volume.specs.declared.fault.OpenFault.{OpenFault}
use Rattle.vx_volume.specs.declared.fault.OpenFault.TheVariants as opening
use Rattle.vx_volume.specs.declared.log.VolumeLog.{VolumeLog}
use Rattle.vx_volume.specs.declared.volume.VolumeShape.{VolumeShape}
use Rattle.vx_volume.specs.Log.{log_seen}
use Rattle.vx_volume.specs.Opening.{IsFirstUnread, IsOpened}
use Rattle.vx_volume.specs.Volume.{IsVolume, log_of, shape_of, volume_seen}
use Rattle.vx_lending.specs.declared.form.VolumeForm.{VolumeForm}
use Rattle.vx_lending.specs.FormLaws.{IsLogFor}
use Rattle.vx_lending.specs.Going.{GoTogether}
use Rattle.vx_lending.specs.Logs.{log_copies, log_header, log_pieces}
use Rattle.vx_lending.specs.declared.left.LogLeft.{LogLeft}
use Rattle.vx_lending.specs.declared.left.LogLeft.TheVariants.{Copies, Store}
use Rattle.vx_lending.specs.Pieces.{copy_pieces}
use Rattle.vx_lending.specs.declared.public.Public.{Public}
use Rattle.vx_lending.specs.declared.public.Running.{Running}
use Rattle.vx_lending.specs.Public.{still_pieces}
use Rattle.vx_group_start.specs.declared.fault.StartFault.{StartFault}
use Rattle.vx_group_start.specs.declared.fault.StartFault.TheVariants.{OutOfMemory, NoLog, NoCurrent, Failed, PowerLost}
use Rattle.vx_group_start.specs.Fresh.{is_fresh, is_lowest_on}
use Rattle.vx_group_start.specs.Logs.{AreOn, IsLogOf, IsPassedOver}

-- ---- before anything is touched

-- a volume with a DCO has no log on good disks; one without has no plex that is available; one that was never started has not its
-- lowest
abbrev pub IsEarly : Vol → VolumeForm → StartFault → Type 0
IsEarly v form OutOfMemory = ⊥
IsEarly v form NoLog = (is_some v.dco ≡ true) × (form.logs.items ≡ [])
IsEarly v form (NoCurrent r) = (r ≡ 0) × (((v.dco ≡ None) × (form.shape.on ≡ 0)) ⊎ ((is_fresh v.state ≡ true) × (is_lowest_on form.shape ≡ false)))
IsEarly v form (Failed device) = ⊥
IsEarly v form PowerLost = ⊥

-- ---- the log

-- the fault of a store as one of a start
abbrev pub start_fault : StoreFault → StartFault
start_fault store.OutOfMemory = OutOfMemory
start_fault store.NoCopy = NoLog
start_fault (store.Failed copy device) = Failed device
start_fault store.PowerLost = PowerLost

-- that of a new log; where there was no memory to take it apart, that
abbrev pub left_fault : {P : Type 0} {ghosts : Ghosts P} → StoreFault → LogLeft P ghosts → StartFault
left_fault fault (Copies copies) = start_fault fault
left_fault fault (Store store) = OutOfMemory

-- each of the copies was passed over
abbrev pub ArePassedOver : List ℕ → List Seen → List Seen → List (List Seen) → Type 0
ArePassedOver header before after copies = (n : ℕ) → n < length copies → IsPassedOver header before after (copy_at copies n)

-- why there is no log, of a volume that was never started or not, by the copies before and after
abbrev pub IsNoLog : Bool → List ℕ → List (List Seen) → List (List Seen) → StartFault → Type 0
IsNoLog fresh header old new OutOfMemory = Unit {0}
IsNoLog fresh header old new NoLog = (fresh ≡ false) × (0 < length old) × ArePassedOver header (copy_pieces old) (copy_pieces new) old
IsNoLog fresh header old new (NoCurrent r) = ⊥
IsNoLog fresh header old new (Failed device) = AreOn device (copy_pieces old) × Rose (faults_on device (copy_pieces old)) (faults_on device (copy_pieces new))
IsNoLog fresh header old new PowerLost = (device : ℕ) × AreOn device (copy_pieces old) × (cut_on device (copy_pieces new) ≡ 1)

-- ---- the volume

-- the volume was opened over these regions and this log
pub record RunsOver {P : Type 0} {ghosts : Ghosts P} (seen : P → Seen) (form : VolumeForm) (regions : List (List PlexSeen)) (log : VolumeLog P ghosts) (running : Running P ghosts) : Type 0 where
  pub form_is : running.form ≡ form
  pub log_is : log_of running.volume ≡ log
  pub shape : shape_of running.volume ≡ form.shape
  pub opened : IsOpened form.shape (log_seen seen log) regions (volume_seen seen running.volume)
  pub whole : IsVolume (volume_seen seen running.volume)

-- the fault of an opening as one of a start
abbrev pub open_fault : OpenFault → StartFault
open_fault (opening.NoCurrent r) = NoCurrent r
open_fault opening.OutOfMemory = OutOfMemory

-- it is not opened for want of memory, or since a region has no plex that is on and unmarked
abbrev pub IsUnopened : VolumeShape → LogSeen → StartFault → Type 0
IsUnopened shape log OutOfMemory = Unit {0}
IsUnopened shape log NoLog = ⊥
IsUnopened shape log (NoCurrent r) = IsFirstUnread shape log r
IsUnopened shape log (Failed device) = ⊥
IsUnopened shape log PowerLost = ⊥

-- the log was made of these copies, and is one for the volume
pub record IsLogOver {P : Type 0} {ghosts : Ghosts P} (seen : P → Seen) (v : Vol) (shape : VolumeShape) (copies : List (List Seen)) (log : VolumeLog P ghosts) : Type 0 where
  pub log_is : IsLogOf seen (is_fresh v.state) shape copies log
  pub fits : IsLogFor v (log_seen seen log)
  pub cut : CutCopiesGo KeepsPiece copies (log_copies seen log)
  pub goes : GoTogether (copy_pieces copies) (log_pieces seen log)

-- the volume was opened over these regions and a log of these copies
pub record StartsOver {P : Type 0} {ghosts : Ghosts P} (seen : P → Seen) (v : Vol) (form : VolumeForm) (regions : List (List PlexSeen)) (copies : List (List Seen)) (running : Running P ghosts) : Type 0 where
  pub log : VolumeLog P ghosts
  pub over : IsLogOver seen v form.shape copies log
  pub runs : RunsOver seen form regions log running

-- by its log the region is the first without a plex that is on and unmarked
pub record IsUnreadOver {P : Type 0} (ghosts : Ghosts P) (seen : P → Seen) (v : Vol) (shape : VolumeShape) (copies : List (List Seen)) (r : ℕ) : Type 0 where
  pub log : VolumeLog P ghosts
  pub over : IsLogOver seen v shape copies log
  pub first : IsFirstUnread shape (log_seen seen log) r

-- why a volume is not started over pieces that were taken beside those that lie still
abbrev pub IsRefusedOver : {P : Type 0} {ghosts : Ghosts P} → (P → Seen) → Vol → VolumeForm → List (List Seen) → List Seen → Public P ghosts → Public P ghosts → StartFault → Type 0
IsRefusedOver seen v form copies taken old new OutOfMemory = Unit {0}
IsRefusedOver seen v form copies taken old new NoLog = (is_fresh v.state ≡ false) × (0 < length copies) × ArePassedOver (log_header form.shape.geometry) (taken ++ still_pieces seen old) (still_pieces seen new) copies
IsRefusedOver {ghosts = ghosts} seen v form copies taken old new (NoCurrent r) = IsUnreadOver ghosts seen v form.shape copies r
IsRefusedOver seen v form copies taken old new (Failed device) = AreOn device (copy_pieces copies) × Rose (faults_on device (taken ++ still_pieces seen old)) (faults_on device (still_pieces seen new))
IsRefusedOver seen v form copies taken old new PowerLost = (device : ℕ) × AreOn device (copy_pieces copies) × (cut_on device (still_pieces seen new) ≡ 1)
