-- A power switch is set on the pieces of a volume.
use Rattle.std.specs.Prelude.{◌≡◌, ℕ, Option}
use Rattle.vx_piece.specs.Seen.{Seen}
use Rattle.vx_marks.specs.Log.{OnMarks}
use Rattle.vx_runs.specs.Run.{IsArmed}
use Rattle.vx_pages.specs.declared.local_piece.LocalPiece.{Ghosts}
use Rattle.vx_pages.specs.Items.{EachItem}
use Rattle.vx_maps.specs.Arming.{SameMarks}
use Rattle.vx_maps.specs.Going.{StoreGoes}
use Rattle.vx_maps.specs.Stores.{store_seen}
use Rattle.vx_cell.specs.Changes.{CellArmed}
use Rattle.vx_volume.specs.declared.log.VolumeLog.{VolumeLog}
use Rattle.vx_volume.specs.declared.log.VolumeLog.TheVariants.{Absent, Maps}
use Rattle.vx_volume.specs.declared.volume.Volume.{Volume}
use Rattle.vx_volume.specs.Volume.{cells_seen, no_cell}

-- the pieces of the log are armed, and it claims and shows what it did
abbrev pub LogArmed : {P : Type 0} {ghosts : Ghosts P} → (P → Seen) → Option ℕ → VolumeLog P ghosts → VolumeLog P ghosts → Type 0
LogArmed seen stop Absent Absent = Unit {0}
LogArmed seen stop (Maps old) (Maps new) =
    StoreGoes seen (IsArmed stop) old new
    × ((region map : ℕ) → (store_seen seen new).claims region map ≡ (store_seen seen old).claims region map)
    × OnMarks SameMarks (store_seen seen old).told (store_seen seen new).told
LogArmed seen stop _ _ = ⊥

pub record VolumeArmed {P : Type 0} {ghosts : Ghosts P} (seen : P → Seen) (stop : Option ℕ) (old new : Volume P ghosts) : Type 0 where
  pub cells : EachItem no_cell (λ i. CellArmed stop) (cells_seen seen old.cells.items) (cells_seen seen new.cells.items)
  pub log : LogArmed seen stop old.log new.log
  pub same : new ≡ record old { cells = new.cells; log = new.log }
