-- The plexes of a volume are copied to, one after the other.
use Rattle.std.specs.Prelude.{◌≡◌, ℕ, ◌==◌, not, Bool, true, false, count_by, Option, None, Result}
use Rattle.vx_mask.specs.Mask.{has, without}
use Rattle.vx_core.specs.declared.stage.Stage.{Stage}
use Rattle.vx_cell.specs.Changes.{CellSeen}
use Rattle.vx_cell.specs.declared.fault.CellFault.{CellFault}
use Rattle.vx_volume.specs.declared.fault.IoFault.{IoFault}
use Rattle.vx_volume.specs.Calls.{IsNoRange, io_stop}
use Rattle.vx_volume.specs.Loop.{AreMade}
use Rattle.vx_volume.specs.Passes.{CopyEnds}
use Rattle.vx_volume.specs.Volume.{VolumeSeen}

-- the maps that are in both masks
abbrev pub common : ℕ → ℕ → ℕ
common a b = without a (without a b)

-- the plexes of the mask that are on and marked in the region
abbrev pub missed : ℕ → Stage → ℕ
missed mask stage = common (common mask stage.on) stage.bits

-- there is one
abbrev pub misses : ℕ → Stage → Bool
misses mask stage = not (missed mask stage == 0)

-- how many regions of the volume have one
abbrev pub missed_regions : ℕ → VolumeSeen → ℕ
missed_regions mask v = count_by (λ (cell : CellSeen). misses mask cell.stage) v.cells

-- all regions are copied to the plex of the map that it misses, or up to one of which that fails
pub record IsPass (map : ℕ) (stop : Option CellFault) (old new : VolumeSeen) : Type 0 where
  pub result : Result ℕ IoFault
  pub stopped : stop ≡ io_stop result
  pub ends : CopyEnds map old new result

-- there is such a pass where the mask has the map, and else nothing happens
pub record CopiesMap (mask map : ℕ) (stop : Option CellFault) (old new : VolumeSeen) : Type 0 where
  pub pass : has mask map ≡ true → IsPass map stop old new
  pub none : has mask map ≡ false → (stop ≡ None) × (new ≡ old)

-- There is one pass for each map of the mask, the lowest first, up to one that fails.
pub record AreCopied {T : Type 0} (mask : ℕ) (old new : VolumeSeen) (result : Result T IoFault) : Type 0 where
  pub maps : ℕ
  pub all : maps ≡ 64
  pub made : AreMade (CopiesMap mask) maps (io_stop result) old new
  pub plain : IsNoRange result
