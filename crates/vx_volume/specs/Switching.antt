-- What is done to a volume between calls: what failed writes to its log left open is written again, and a plex goes on or off.
use Rattle.std.specs.Prelude.{◌≡◌, ℕ, ◌<◌, Bool, true, false, List, length, Result}
use Rattle.vx_mask.specs.Mask.{only, union, without}
use Rattle.vx_core.specs.declared.stage.Phase.TheVariants.{Settled}
use Rattle.vx_marks.specs.Log.{KeepsLog, MarkHasCause, OnMarks}
use Rattle.vx_marks.specs.declared.marker.MarkFault.{MarkFault}
use Rattle.vx_pages.specs.Firm.{FirmsStore}
use Rattle.vx_pages.specs.Items.{EachItem, item_at}
use Rattle.vx_cell.specs.Changes.{CellSeen, has_other, stage_with}
use Rattle.vx_cell.specs.Plexes.{holds}
use Rattle.vx_cell.specs.Region.{marks_or}
use Rattle.vx_volume.specs.declared.volume.VolumeShape.{VolumeShape}
use Rattle.vx_volume.specs.Volume.{VolumeSeen, cell_at, no_cell}

-- ---- loose marks

-- What is claimed of each region stays, and nothing is loose where that was answered Ok; else a part of the loose marks may be gone.
pub record Firms (result : Result (Unit {0}) MarkFault) (old new : VolumeSeen) : Type 0 where
  pub told : OnMarks (FirmsStore result) old.log.told new.log.told
  pub kept : KeepsLog old.log new.log
  pub claims : (r k : ℕ) → new.log.claims r k ≡ old.log.claims r k
  pub cause : MarkHasCause old.log new.log result
  pub same : new ≡ record old { log = new.log }

-- no mark is loose: no copy of the log, where it tells what it holds, may show one that the region has not
abbrev pub IsTight : VolumeSeen → Type 0
IsTight v = (r k : ℕ) → r < length v.cells → (marks_or v.log.told r).loose k ≡ false

-- ---- a plex

-- each region has the plex
abbrev pub HasPlex : ℕ → VolumeSeen → Type 0
HasPlex map v = (r : ℕ) → r < length v.cells → holds (cell_at v r).plexes map ≡ true

-- another plex is current in each of these regions, ..
abbrev pub AreSpared : ℕ → List CellSeen → Type 0
AreSpared map cells = (r : ℕ) → r < length cells → has_other (item_at no_cell cells r).stage map ≡ true

-- .. so that a volume can spare this one ..
abbrev pub CanSpare : ℕ → VolumeSeen → Type 0
CanSpare map v = AreSpared map v.cells

-- .. or none is in some region
abbrev pub Needs : ℕ → VolumeSeen → Type 0
Needs map v = (r : ℕ) × (r < length v.cells) × (has_other (cell_at v r).stage map ≡ false)

-- the plexes of each region that may be read are equal
abbrev pub IsSettled : VolumeSeen → Type 0
IsSettled v = (r : ℕ) → r < length v.cells → (cell_at v r).stage.phase ≡ Settled

-- the plex of a cell is on now, or off
abbrev pub IsSwitched : ℕ → Bool → CellSeen → CellSeen → Type 0
IsSwitched map on old new = new ≡ record old { stage = stage_with old.stage map on }

-- so it is in each region, and nothing else has changed
pub record Switches (map : ℕ) (on : Bool) (old new : VolumeSeen) : Type 0 where
  pub cells : EachItem no_cell (λ r. IsSwitched map on) old.cells new.cells
  pub same : new ≡ record old { cells = new.cells }

-- the masks of the volume with the plex on or off
abbrev pub shape_with : VolumeShape → ℕ → Bool → VolumeShape
shape_with shape map true = record shape { on = union shape.on (only map); off = without shape.off (only map) }
shape_with shape map false = record shape { on = without shape.on (only map); off = union shape.off (only map) }
