-- Passes over all regions of a volume.
use Rattle.std.specs.Prelude.{◌≡◌, ℕ, ◌+◌, Bool, if◌then◌else◌, List, [], length, Option, None, Result, Ok, Err}
use Rattle.vx_core.specs.declared.stage.Job.{Job}
use Rattle.vx_core.specs.declared.stage.Job.TheVariants.{Copy as CopyJob, Settle, Clear}
use Rattle.vx_cell.specs.declared.fault.CellFault.{CellFault}
use Rattle.vx_cell.specs.Calls.{CallEnds, ClearLeaves, CopyLeaves}
use Rattle.vx_cell.specs.Region.{RegionSeen}
use Rattle.vx_volume.specs.declared.fault.IoFault.{IoFault}
use Rattle.vx_volume.specs.Calls.{ChangesRegion, IsNoRange, io_stop}
use Rattle.vx_volume.specs.Loop.{AreMade, stop_of}
use Rattle.vx_volume.specs.Volume.{VolumeSeen}

-- a job without bytes ends on a region with this answer
pub record JobEnds {T : Type 0} (job : Job) (result : Result T CellFault) (old new : RegionSeen) : Type 0 where
  pub scratch : List ℕ
  pub scratch' : List ℕ
  pub ended : CallEnds job (record { at = 0; into = []; from = []; scratch = scratch }) old new (record { at = 0; into = []; from = []; scratch = scratch' }) result

-- the region is settled
pub record IsSettledAt (stop : Option CellFault) (old new : RegionSeen) : Type 0 where
  pub result : Result (Unit {0}) CellFault
  pub stopped : stop ≡ stop_of result
  pub ends : JobEnds Settle result old new

-- its dirty mark is taken away
pub record IsClearedAt (stop : Option CellFault) (old new : RegionSeen) : Type 0 where
  pub result : Result (Unit {0}) CellFault
  pub stopped : stop ≡ stop_of result
  pub ends : JobEnds Clear result old new
  pub marks : ClearLeaves old.stage new.stage result

-- a pass goes over the regions in order
abbrev pub Settles : ℕ → Option CellFault → VolumeSeen → VolumeSeen → Type 0
Settles r stop old new = ChangesRegion r (IsSettledAt stop) old new

abbrev pub Clears : ℕ → Option CellFault → VolumeSeen → VolumeSeen → Type 0
Clears r stop old new = ChangesRegion r (IsClearedAt stop) old new

-- a volume, and how many of its regions were copied
pub record Copying : Type 0 where
  pub volume : VolumeSeen
  pub copied : ℕ

-- the count with that of a region
abbrev pub counted : Result Bool CellFault → ℕ → ℕ
counted (Ok copied) n = if copied then n + 1 else n
counted (Err fault) n = n

-- the region is copied to the plex where it is on and marked there
pub record IsCopiedAt (map : ℕ) (result : Result Bool CellFault) (old new : RegionSeen) : Type 0 where
  pub ends : JobEnds (CopyJob map) result old new
  pub marks : CopyLeaves map old.stage new.stage result

pub record CopiesTo (map r : ℕ) (stop : Option CellFault) (old new : Copying) : Type 0 where
  pub result : Result Bool CellFault
  pub stopped : stop ≡ stop_of result
  pub ends : ChangesRegion r (IsCopiedAt map result) old.volume new.volume
  pub copied : new.copied ≡ counted result old.copied

-- The regions are copied to the plex, in order. The count is the answer, where there is one.
abbrev pub CopyEnds : (map : ℕ) → VolumeSeen → VolumeSeen → Result ℕ IoFault → Type 0
CopyEnds map old new (Ok n) = AreMade (CopiesTo map) (length old.cells) None (record { volume = old; copied = 0 }) (record { volume = new; copied = n })
CopyEnds map old new (Err fault) = (n : ℕ) × AreMade (CopiesTo map) (length old.cells) (io_stop {T = ℕ} (Err fault)) (record { volume = old; copied = 0 }) (record { volume = new; copied = n }) × IsNoRange {T = ℕ} (Err fault)

-- a pass of this kind ends
abbrev pub PassEnds : (ℕ → Option CellFault → VolumeSeen → VolumeSeen → Type 0) → VolumeSeen → VolumeSeen → Result (Unit {0}) IoFault → Type 0
PassEnds pass old new result = AreMade pass (length old.cells) (io_stop result) old new × IsNoRange result
