-- What a recovery makes of an open volume, as far as its own devices go.
use Rattle.std.specs.Prelude.{◌≡◌, ◌⊎◌, ℕ, count_by, Result, Ok, Err}
use Rattle.vx_mask.specs.Mask.{has}
use Rattle.vx_cell.specs.Changes.{CellSeen}
use Rattle.vx_group_recover.specs.declared.healing.Healed.{Healed}
use Rattle.vx_group_start.specs.Copying.{AreCopied, missed_regions}
use Rattle.vx_group_stop.specs.Stops.{AreMarked}
use Rattle.vx_volume.specs.declared.fault.IoFault.{IoFault}
use Rattle.vx_volume.specs.Passes.{Clears, PassEnds, Settles}
use Rattle.vx_volume.specs.Volume.{VolumeSeen}

-- how many regions of the volume are dirty
abbrev pub regions_dirty : VolumeSeen → ℕ
regions_dirty v = count_by (λ (cell : CellSeen). has cell.stage.bits 30) v.cells

-- All regions are settled, and the mask has the maps that are marked then.
pub record IsSettled (old new : VolumeSeen) (mask : ℕ) : Type 0 where
  pub settled : PassEnds Settles old new (Ok tt)
  pub marks : AreMarked new mask

-- The volume is recovered: its regions were settled, all that a plex missed that is on was copied to it, and the dirty marks were taken away.
-- The numbers are those of the regions that were dirty, and of those that a plex missed once all were settled.
pub record IsHealed (old new : VolumeSeen) (healed : Healed) : Type 0 where
  pub mid : VolumeSeen
  pub mask : ℕ
  pub settled : IsSettled old mid mask
  pub whole : VolumeSeen
  pub copied : AreCopied mask mid whole (Ok healed.copied)
  pub cleared : PassEnds Clears whole new (Ok tt)
  pub dirty_is : healed.dirty ≡ regions_dirty old
  pub copied_is : healed.copied ≡ missed_regions mask mid
  pub marks_are : AreMarked new healed.marks

-- all regions were settled, and a copy has failed
pub record FailsInCopy (old new : VolumeSeen) (fault : IoFault) : Type 0 where
  pub mid : VolumeSeen
  pub mask : ℕ
  pub settled : IsSettled old mid mask
  pub copied : AreCopied {T = ℕ} mask mid new (Err fault)

-- all regions were settled and copied, and a clear has failed
pub record FailsInClear (old new : VolumeSeen) (fault : IoFault) : Type 0 where
  pub mid : VolumeSeen
  pub mask : ℕ
  pub settled : IsSettled old mid mask
  pub whole : VolumeSeen
  pub number : ℕ
  pub copied : AreCopied mask mid whole (Ok number)
  pub cleared : PassEnds Clears whole new (Err fault)

-- how a recovery ends
abbrev pub Heals : VolumeSeen → VolumeSeen → Result Healed IoFault → Type 0
Heals old new (Ok healed) = IsHealed old new healed
Heals old new (Err fault) = PassEnds Settles old new (Err fault) ⊎ (FailsInCopy old new fault ⊎ FailsInClear old new fault)
