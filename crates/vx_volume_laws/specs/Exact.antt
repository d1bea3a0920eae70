-- When the log of a started volume says exactly what its regions do.
use Rattle.std.specs.Prelude.{◌≡◌, ℕ, ◌<◌, false, length}
use Rattle.vx_mask.specs.Mask.{has}
use Rattle.vx_mask.specs.Marks.{Marks}
use Rattle.vx_core.specs.declared.stage.Phase.TheVariants.{Dead}
use Rattle.vx_cell.specs.Region.{LogRose, marks_or}
use Rattle.vx_volume.specs.Volume.{VolumeSeen, cell_at}

-- the copy shows exactly the marks of the mask, and none is loose
pub record ShowsExactly (mask n : ℕ) (marks : Marks) : Type 0 where
  pub shows : (k : ℕ) → marks.shows n k ≡ has mask k
  pub tight : (k : ℕ) → marks.loose k ≡ false

-- Of each region in which the power is not gone, each copy of the log shows exactly the marks that the region has.
abbrev pub IsExactVolume : VolumeSeen → Type 0
IsExactVolume v =
    (r n : ℕ) → r < length v.cells → ((cell_at v r).stage.phase ≡ Dead → ⊥) → n < v.log.copies →
    ShowsExactly (cell_at v r).stage.bits n (marks_or v.log.told r)

-- no count of the log has risen
abbrev pub LogIsWell : VolumeSeen → VolumeSeen → Type 0
LogIsWell old new = LogRose old.log new.log → ⊥

-- none of the regions is marked dirty
abbrev pub AreUndirtied : VolumeSeen → Type 0
AreUndirtied v = (r : ℕ) → r < length v.cells → has (cell_at v r).stage.bits 30 ≡ false
