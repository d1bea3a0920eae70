-- The log of a volume on two copies gives up one of them.
use Rattle.std.specs.Prelude.{◌≡◌, ℕ, ◌-◌, List, [], ◌∷◌}
use Rattle.vx_piece.specs.Seen.{Seen}
use Rattle.vx_pages.specs.declared.local_piece.LocalPiece.{Ghosts}
use Rattle.vx_maps.specs.Loading.{copy_at}
use Rattle.vx_maps.specs.Parting.{GivesUp}
use Rattle.vx_maps.specs.Stores.{shape_of}
use Rattle.vx_maps.specs.Wholes.{store_copies}
use Rattle.vx_volume.specs.declared.log.VolumeLog.{VolumeLog}
use Rattle.vx_volume.specs.declared.log.VolumeLog.TheVariants.{Absent, Maps}
use Rattle.vx_volume.specs.Volume.{VolumeSeen}

-- the pieces of each copy of a log, in order
abbrev pub log_copies : {P : Type 0} {ghosts : Ghosts P} → (P → Seen) → VolumeLog P ghosts → List (List Seen)
log_copies seen Absent = []
log_copies seen (Maps store) = store_copies seen store

-- both are none, or maps of one shape
abbrev pub SameShape : {P : Type 0} {ghosts : Ghosts P} → VolumeLog P ghosts → VolumeLog P ghosts → Type 0
SameShape Absent Absent = Unit {0}
SameShape (Maps old) (Maps new) = shape_of new ≡ shape_of old
SameShape _ _ = ⊥

-- A log has parted with the pieces of one of its two copies. It has those of the other, as they were.
pub record PartsLog {P : Type 0} {ghosts : Ghosts P} (seen : P → Seen) (copy : ℕ) (gone : List Seen) (old new : VolumeLog P ghosts) : Type 0 where
  pub shape : SameShape old new
  pub out : gone ≡ copy_at (log_copies seen old) copy
  pub left : log_copies seen new ≡ copy_at (log_copies seen old) (1 - copy) ∷ []

-- the log of a volume has given up a copy, and nothing else has changed
pub record YieldsCopy (copy : ℕ) (old new : VolumeSeen) : Type 0 where
  pub gives : GivesUp copy old.log new.log
  pub same : new ≡ record old { log = new.log }
