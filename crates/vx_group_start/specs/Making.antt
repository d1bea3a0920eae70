-- A new log that lies among what is left over.
use Rattle.std.specs.Prelude.{◌≡◌, ℕ, List, [], ◌∷◌, ◌++◌, map}
use Rattle.vx_base.specs.Counts.{Rose}
use Rattle.vx_piece.specs.Seen.{Seen}
use Rattle.vx_carve.specs.Together.{SameSectors, cut_on, faults_on}
use Rattle.vx_maps.specs.Going.{CutCopiesGo}
use Rattle.vx_maps.specs.Wholes.{store_copies}
use Rattle.vx_maps.specs.declared.store.MapStore.{MapStore}
use Rattle.vx_pages.specs.Sector.{KeepsPiece}
use Rattle.vx_pages.specs.declared.local_piece.LocalPiece.{Ghosts}
use Rattle.vx_volume.specs.declared.volume.VolumeShape.{VolumeShape}
use Rattle.vx_lending.specs.declared.form.VolumeForm.{VolumeForm}
use Rattle.vx_lending.specs.declared.left.LogLeft.TheVariants.{Store}
use Rattle.vx_lending.specs.declared.public.Public.{Public}
use Rattle.vx_lending.specs.declared.public.Remains.{Remains}
use Rattle.vx_lending.specs.Logs.{IsFreshStore}
use Rattle.vx_lending.specs.Pieces.{copy_pieces}
use Rattle.vx_lending.specs.Public.{still_pieces}
use Rattle.vx_lending.specs.Taken.{AreTakenCopies, OthersStay, log_sectors}
use Rattle.vx_group_start.specs.declared.fault.StartFault.{StartFault}
use Rattle.vx_group_start.specs.declared.fault.StartFault.TheVariants.{OutOfMemory, NoLog, NoCurrent, Failed, PowerLost}
use Rattle.vx_group_start.specs.Fresh.{maps_to_copy}
use Rattle.vx_group_start.specs.Logs.{AreOn}
use Rattle.vx_group_start.specs.Refused.{IsLogCut, IsLogFailed}
use Rattle.vx_group_start.specs.Together.{GoByCopies}

-- ---- a log that is left over

-- behind what was left over is this log, without regions
pub record HasLeftLog {P : Type 0} {ghosts : Ghosts P} (log : MapStore P ghosts) (old new : List (Remains P ghosts)) : Type 0 where
  pub last : Remains P ghosts
  pub left : new ≡ old ++ last ∷ []
  pub log_is : last.log ≡ Store log
  pub regions : last.regions.items ≡ []

-- the last of what is left over is a log, without regions
pub record EndsInLog {P : Type 0} {ghosts : Ghosts P} (left : List (Remains P ghosts)) : Type 0 where
  pub before : List (Remains P ghosts)
  pub last : Remains P ghosts
  pub left_is : left ≡ before ++ last ∷ []
  pub store : MapStore P ghosts
  pub log_is : last.log ≡ Store store
  pub regions : last.regions.items ≡ []

-- this log was the last of what was left over, and what was before it is left
abbrev pub IsLogTaken : {P : Type 0} {ghosts : Ghosts P} → MapStore P ghosts → (old new : List (Remains P ghosts)) → Type 0
IsLogTaken {P = P} {ghosts = ghosts} log old new = (before : List (Remains P ghosts)) (last : Remains P ghosts) (store : MapStore P ghosts) → old ≡ before ++ last ∷ [] → last.log ≡ Store store → (log ≡ store) × (new ≡ before)

-- ---- a new log

-- A new log was made on copies that were taken out of the pieces, and lies behind what was left over. Nothing is marked. The plexes of other
-- layouts are in the pool as before.
pub record IsLogMade {P : Type 0} {ghosts : Ghosts P} (see : P → Seen) (numbers : List ℕ) (form : VolumeForm) (old new : Public P ghosts) : Type 0 where
  pub last : Remains P ghosts
  pub left : new.left.items ≡ old.left.items ++ last ∷ []
  pub regions : last.regions.items ≡ []
  pub store : MapStore P ghosts
  pub log_is : last.log ≡ Store store
  pub copies : List (List Seen)
  pub are : AreTakenCopies numbers form.logs.items (log_sectors form.shape.geometry) copies
  pub go : GoByCopies copies (still_pieces see old) (still_pieces see new)
  pub later : go.later ≡ store_copies see store
  pub fresh : IsFreshStore see form.shape.geometry 0 copies store
  pub others : OthersStay numbers form.logs.items (map see old.pool.items.items) (map see new.pool.items.items)

-- Why there is none: for want of memory, or since a device that a copy lies on has failed or has lost its power.
abbrev pub IsLogUnmade : {P : Type 0} {ghosts : Ghosts P} → (P → Seen) → List ℕ → VolumeForm → Public P ghosts → Public P ghosts → StartFault → Type 0
IsLogUnmade see numbers form old new OutOfMemory = Unit {0}
IsLogUnmade see numbers form old new NoLog = ⊥
IsLogUnmade see numbers form old new (NoCurrent r) = ⊥
IsLogUnmade see numbers form old new (Failed device) = IsLogFailed numbers form (still_pieces see old) (still_pieces see new) device
IsLogUnmade see numbers form old new PowerLost = IsLogCut numbers form (still_pieces see old) (still_pieces see new)

-- ---- over copies that were taken

-- a new log was made on these copies, beside pieces that lie still, and is left over
pub record IsMadeOver {P : Type 0} {ghosts : Ghosts P} (see : P → Seen) (shape : VolumeShape) (copies : List (List Seen)) (old new : Public P ghosts) : Type 0 where
  pub store : MapStore P ghosts
  pub left : HasLeftLog store old.left.items new.left.items
  pub fresh : IsFreshStore see shape.geometry (maps_to_copy shape) copies store
  pub cut : CutCopiesGo KeepsPiece copies (store_copies see store)
  pub still : SameSectors (copy_pieces (store_copies see store) ++ still_pieces see old) (still_pieces see new)
  pub pool : new.pool ≡ old.pool

-- why there is none, by all pieces before and after
abbrev pub IsUnmadeOver : List (List Seen) → List Seen → List Seen → StartFault → Type 0
IsUnmadeOver copies old new OutOfMemory = Unit {0}
IsUnmadeOver copies old new NoLog = ⊥
IsUnmadeOver copies old new (NoCurrent r) = ⊥
IsUnmadeOver copies old new (Failed device) = AreOn device (copy_pieces copies) × Rose (faults_on device old) (faults_on device new)
IsUnmadeOver copies old new PowerLost = (device : ℕ) × AreOn device (copy_pieces copies) × (cut_on device new ≡ 1)
