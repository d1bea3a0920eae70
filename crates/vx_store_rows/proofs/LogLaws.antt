-- What each call on a cell keeps of its log.
use Rattle.std.proofs.Common.{◌≡◌, ℕ, refl, sym, subst, inl, inr, ◌⊎◌, arith, Result}
use Rattle.vx_core.specs.declared.stage.Job.{Job}
use Rattle.vx_core.specs.declared.stage.Job.TheVariants.{Read, Write, Copy, Settle, Clear}
use Rattle.vx_core.specs.declared.stage.Phase.{Phase}
use Rattle.vx_core.specs.declared.stage.Phase.TheVariants.{Settled, Unsettled, Dead, Busy}
use Rattle.vx_marks.specs.Log.{LogSeen, KeepsLog}
use Rattle.vx_cell.specs.Acts.{Bytes}
use Rattle.vx_cell.specs.Region.{RegionSeen}
use Rattle.vx_cell.specs.Calls.{CallEnds, WriteEnds, numbered}
use Rattle.vx_cell.specs.declared.fault.CellFault.{CellFault}

pub log_same : (log : LogSeen) → KeepsLog log log
log_same log = record { there = refl; has_region = refl; maps = refl; copies = refl; lent = refl; faults = λ copy device. omega arith; cut = λ c. c }

dead_or_not : (phase : Phase) → (phase ≡ Dead) ⊎ (phase ≡ Dead → ⊥)
dead_or_not Dead = inl refl
dead_or_not Settled = inr (λ e. cc)
dead_or_not Unsettled = inr (λ e. cc)
dead_or_not (Busy w) = inr (λ e. cc)

log_of_numbered : (job : Job) (r : RegionSeen) → (numbered job r).log ≡ r.log
log_of_numbered Read r = refl
log_of_numbered Write r = refl
log_of_numbered (Copy k) r = refl
log_of_numbered Settle r = refl
log_of_numbered Clear r = refl

pub call_keeps : {T : Type 0} (job : Job) (io : Bytes) (old new : RegionSeen) (io' : Bytes) (result : Result T CellFault) → CallEnds job io old new io' result → KeepsLog old.log new.log
call_keeps job io old new io' result h =
    elim (dead_or_not old.stage.phase) [
      | inl dead ↦ subst (λ (r : RegionSeen). KeepsLog old.log r.log) (sym (h.dead dead).same) (log_same old.log)
      | inr alive ↦ subst (λ (log : LogSeen). KeepsLog log new.log) (log_of_numbered job old) (h.ended alive).kept.log
    ]

pub write_keeps : (io : Bytes) (old new : RegionSeen) (io' : Bytes) (result : Result ℕ CellFault) → WriteEnds io old new io' result → KeepsLog old.log new.log
write_keeps io old new io' result h =
    elim (dead_or_not old.stage.phase) [
      | inl dead ↦ subst (λ (r : RegionSeen). KeepsLog old.log r.log) (sym (h.dead dead).same) (log_same old.log)
      | inr alive ↦ (h.ended alive).kept.log
    ]
