-- A volume comes to rest before it is recorded clean.
use Rattle.std.specs.Prelude.{◌≡◌, ◌⊎◌, ℕ, Bool, true, false, Result, Ok, Err}
use Rattle.std.specs.List.{list_any}
use Rattle.vx_mask.specs.Mask.{has}
use Rattle.vx_cell.specs.Changes.{CellSeen}
use Rattle.vx_volume.specs.declared.fault.IoFault.{IoFault}
use Rattle.vx_volume.specs.declared.fault.IoFault.TheVariants.{PowerLost}
use Rattle.vx_volume.specs.Passes.{Clears, PassEnds, Settles}
use Rattle.vx_volume.specs.Volume.{VolumeSeen}

-- the map is marked in some region of the volume
abbrev pub is_marked : VolumeSeen → ℕ → Bool
is_marked v k = list_any (λ (cell : CellSeen). has cell.stage.bits k) v.cells

-- the mask has the maps that are marked in some region, and no other
abbrev pub AreMarked : VolumeSeen → ℕ → Type 0
AreMarked v mask = (k : ℕ) → has mask k ≡ is_marked v k

-- the power went
abbrev pub is_lost : Result (Unit {0}) IoFault → Bool
is_lost (Err PowerLost) = true
is_lost other = false

-- All regions were settled, and then the dirty marks were taken away, or those up to one of which that failed, but not for want of
-- power. The mask has the marks that are left.
pub record IsAtRest (old new : VolumeSeen) (mask : ℕ) : Type 0 where
  pub mid : VolumeSeen
  pub settled : PassEnds Settles old mid (Ok tt)
  pub cleared : Result (Unit {0}) IoFault
  pub clears : PassEnds Clears mid new cleared
  pub power : is_lost cleared ≡ false
  pub marks : AreMarked new mask

-- all regions were settled, and the power went as the dirty marks were taken away
pub record LosesPower (old new : VolumeSeen) : Type 0 where
  pub mid : VolumeSeen
  pub settled : PassEnds Settles old mid (Ok tt)
  pub clears : PassEnds Clears mid new (Err PowerLost)

-- a volume comes to rest; or a region could not be settled, and nothing was done behind it; or the power went then
abbrev pub ComesToRest : VolumeSeen → VolumeSeen → Result ℕ IoFault → Type 0
ComesToRest old new (Ok mask) = IsAtRest old new mask
ComesToRest old new (Err fault) = PassEnds Settles old new (Err fault) ⊎ ((fault ≡ PowerLost) × LosesPower old new)
