-- What a recovery that is done leaves of an open volume.
use Rattle.std.specs.Prelude.{◌≡◌, ℕ, ◌<◌, true, false, length}
use Rattle.vx_mask.specs.Mask.{has}
use Rattle.vx_group_recover.specs.Healing.{IsHealed}
use Rattle.vx_group_recover.specs.declared.healing.Healed.{Healed}
use Rattle.vx_group_stop.specs.Laws.{AreClean, AreSettled}
use Rattle.vx_volume.specs.Volume.{VolumeSeen, cell_at}

-- each region is settled and not dirty, and no plex that is on misses it
pub record IsWhole (v : VolumeSeen) : Type 0 where
  pub settled : AreSettled v
  pub clean : AreClean v
  pub unmarked : (r k : ℕ) → r < length v.cells → k < 64 → has (cell_at v r).stage.on k ≡ true → has (cell_at v r).stage.bits k ≡ false

-- A recovery that is done leaves the volume so.
abbrev pub EachHealingHeals : Type 0
EachHealingHeals = (old new : VolumeSeen) (healed : Healed) → IsHealed old new healed → (length new.cells ≡ length old.cells) × IsWhole new
