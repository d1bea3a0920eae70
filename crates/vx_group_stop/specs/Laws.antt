-- What it is for a volume to be at rest.
use Rattle.std.specs.Prelude.{◌≡◌, ◌≢◌, ℕ, ◌<◌, false, length, Result, Ok, Err}
use Rattle.vx_mask.specs.Mask.{has}
use Rattle.vx_core.specs.declared.stage.Phase.TheVariants.{Settled, Dead}
use Rattle.vx_cell.specs.Region.{IsCut}
use Rattle.vx_volume.specs.declared.fault.IoFault.{IoFault}
use Rattle.vx_volume.specs.declared.fault.IoFault.TheVariants.{Range, Fault, PowerLost}
use Rattle.vx_volume.specs.Passes.{Clears, PassEnds, Settles}
use Rattle.vx_volume.specs.Volume.{VolumeSeen, cell_at, region_at}
use Rattle.vx_group_stop.specs.Stops.{IsAtRest, is_marked}

-- all regions of the volume are settled
abbrev pub AreSettled : VolumeSeen → Type 0
AreSettled v = (r : ℕ) → r < length v.cells → (cell_at v r).stage.phase ≡ Settled

-- none of them is marked dirty
abbrev pub AreClean : VolumeSeen → Type 0
AreClean v = (r : ℕ) → r < length v.cells → has (cell_at v r).stage.bits 30 ≡ false

-- Once a pass that settles is done all regions are settled.
abbrev pub EachSettlingSettles : Type 0
EachSettlingSettles = (old new : VolumeSeen) → PassEnds Settles old new (Ok tt) → AreSettled new

-- the power went in a region, and all others are settled
pub record IsSettledElsewhere (v : VolumeSeen) : Type 0 where
  pub region : ℕ
  pub inside : region < length v.cells
  pub dead : (cell_at v region).stage.phase ≡ Dead
  pub cut : IsCut (region_at v region)
  pub others : (r : ℕ) → r < length v.cells → r ≢ region → (cell_at v r).stage.phase ≡ Settled

-- how a clear of settled regions leaves them, by its answer
abbrev pub LeavesRest : VolumeSeen → Result (Unit {0}) IoFault → Type 0
LeavesRest v (Ok u) = AreSettled v × AreClean v
LeavesRest v (Err (Fault place)) = AreSettled v
LeavesRest v (Err PowerLost) = IsSettledElsewhere v
LeavesRest v (Err Range) = ⊥

-- each region has the marks that it had, but for the dirty one
abbrev pub SamePlexMarks : VolumeSeen → VolumeSeen → Type 0
SamePlexMarks old new = (r k : ℕ) → k ≢ 30 → has (cell_at new r).stage.bits k ≡ has (cell_at old r).stage.bits k

-- A clear of settled regions leaves them settled but where the power went, and takes no mark away but dirty ones.
abbrev pub EachClearLeavesRest : Type 0
EachClearLeavesRest =
    (old new : VolumeSeen) (result : Result (Unit {0}) IoFault) → PassEnds Clears old new result → AreSettled old →
    (length new.cells ≡ length old.cells) × LeavesRest new result × SamePlexMarks old new

-- A volume that has come to rest was settled, and is so still; and the mask has the marks that plexes had then.
abbrev pub EachRestIsSettled : Type 0
EachRestIsSettled =
    (old new : VolumeSeen) (mask : ℕ) (rest : IsAtRest old new mask) →
    AreSettled rest.mid × AreSettled new × ((k : ℕ) → k ≢ 30 → has mask k ≡ is_marked rest.mid k)
