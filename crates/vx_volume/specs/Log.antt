-- What contracts see of the log of a volume, and how it goes on.
use Rattle.std.specs.Prelude.{◌≡◌, true, false, Some, refl}
use Rattle.std.proofs.Common.{◌∙◌}
use Rattle.vx_piece.specs.Seen.{Seen}
use Rattle.vx_marks.specs.Log.{LogSeen}
use Rattle.vx_pages.specs.declared.local_piece.LocalPiece.{Ghosts}
use Rattle.vx_pages.specs.Sector.{KeepsPiece}
use Rattle.vx_maps.specs.Going.{StoreGoes}
use Rattle.vx_maps.specs.Onward.{store_kept, store_kept_on}
use Rattle.vx_maps.specs.Store.{no_marks}
use Rattle.vx_maps.specs.Stores.{store_seen}
use Rattle.vx_volume.specs.declared.log.VolumeLog.{VolumeLog}
use Rattle.vx_volume.specs.declared.log.VolumeLog.TheVariants.{Absent, Maps}

-- no log: it is known that nothing is marked
abbrev pub absent_log : LogSeen
absent_log = record {
  there = false;
  has_region = λ region. true;
  maps = 64;
  copies = 0;
  lent = false;
  claims = λ region map. false;
  told = Some (λ region. no_marks);
  faults = λ copy device. 0;
  cut = false;
}

abbrev pub log_seen : {P : Type 0} {ghosts : Ghosts P} → (P → Seen) → VolumeLog P ghosts → LogSeen
log_seen seen Absent = absent_log
log_seen seen (Maps store) = store_seen seen store

-- The log is of the same volume, and each of its pieces goes on. But for its pages it is the same: its header is not written again.
abbrev pub LogGoes : {P : Type 0} {ghosts : Ghosts P} → (P → Seen) → VolumeLog P ghosts → VolumeLog P ghosts → Type 0
LogGoes seen Absent Absent = Unit {0}
LogGoes seen (Maps old) (Maps new) = StoreGoes seen KeepsPiece old new × (new.base ≡ old.base)
LogGoes seen _ _ = ⊥

pub log_kept : {P : Type 0} {ghosts : Ghosts P} (x : VolumeLog P ghosts) → LogGoes ghosts.seen x x
log_kept Absent = tt
log_kept (Maps store) = (store_kept store, refl)

pub log_kept_on : {P : Type 0} {ghosts : Ghosts P} (x y z : VolumeLog P ghosts) → LogGoes ghosts.seen x y → LogGoes ghosts.seen y z → LogGoes ghosts.seen x z
log_kept_on Absent Absent Absent first then = tt
log_kept_on (Maps x) (Maps y) (Maps z) first then = (store_kept_on x y z first.0 then.0, then.1 ∙ first.1)
log_kept_on Absent Absent (Maps z) first then = absurd then
log_kept_on Absent (Maps y) z first then = absurd first
log_kept_on (Maps x) Absent z first then = absurd first
log_kept_on (Maps x) (Maps y) Absent first then = absurd then
