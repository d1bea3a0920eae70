-- What a call leaves of its region.
use Rattle.std.proofs.Common.{◌≡◌, ℕ, ◌+◌, ◌≤◌, Bool, true, false, List, Option, Result, Ok, Err, refl, sym, subst, ◌∙◌, inl, inr, arith}
use Rattle.std.proofs.lemmas.Bool.{false≢true}
use Rattle.vx_core.specs.declared.stage.Job.{Job}
use Rattle.vx_core.specs.declared.stage.Job.TheVariants.{Read as ReadJob, Write as WriteJob, Copy as CopyJob, Settle, Clear}
use Rattle.vx_core.specs.declared.stage.Phase.{Phase}
use Rattle.vx_core.specs.declared.stage.Phase.TheVariants.{Settled, Unsettled, Dead, Busy}
use Rattle.vx_core.specs.Schedule.{IsIdle}
use Rattle.vx_marks.specs.Log.{LogSeen, KeepsLog}
use Rattle.vx_cell.specs.declared.fault.CellFault.{CellFault}
use Rattle.vx_cell.specs.declared.fault.CellFault.TheVariants.{Fault, PowerLost, Held, Only}
use Rattle.vx_cell.specs.Acts.{Bytes}
use Rattle.vx_cell.specs.Calls.{CallEnds, CallHasCause, HasEnded, HasWritten, IsNotBegun, LeavesPhase, WriteEnds, WriteLeaves, numbered}
use Rattle.vx_cell.specs.Region.{RegionSeen, IsWhole}
use Rattle.vx_block.specs.declared.geometry.Span.{Span}
use Rattle.vx_volume.specs.Calls.{IsRead, IsReady, IsWritten}
use Rattle.vx_volume.specs.Passes.{IsClearedAt, IsCopiedAt, IsSettledAt}
use Rattle.vx_volume.specs.Loop.{IsPlainEnd}

-- between calls, what a call leaves of a region with this index, start and size, and of its log; its number is at most this one
pub record IsLeft (most index from blocks : ℕ) (before : LogSeen) (new : RegionSeen) : Type 0 where
  pub idle : IsIdle new.stage.phase
  pub whole : IsWhole new
  pub region : new.region ≡ index
  pub start : new.start ≡ from
  pub size : new.size ≡ blocks
  pub number : new.number ≤ most
  pub log : KeepsLog before new.log

pub log_same : (log : LogSeen) → KeepsLog log log
log_same log =
    record {
      there = refl;
      has_region = refl;
      maps = refl;
      copies = refl;
      lent = refl;
      faults = λ copy device. omega arith;
      cut = λ cut. cut;
    }

-- ---- the answers of a region whose log is not lent

own_lent : {A : Type 0} (b : Bool) → b ≡ false → b ≡ true → A
own_lent b own lent = absurd (false≢true (sym own ∙ lent))

pub plain_end : {T : Type 0} (job : Job) (old new : RegionSeen) (result : Result T CellFault) → old.log.lent ≡ false → CallHasCause job old new result → IsPlainEnd result
plain_end job old new (Ok value) own cause = tt
plain_end job old new (Err (Fault place)) own cause = tt
plain_end job old new (Err PowerLost) own cause = tt
plain_end job old new (Err Held) own cause = own_lent old.log.lent own cause
plain_end job old new (Err (Only map)) own cause = absurd cause

settled_idle : (phase : Phase) → phase ≡ Settled → IsIdle phase
settled_idle phase is = subst IsIdle (sym is) tt

unsettled_idle : (phase : Phase) → phase ≡ Unsettled → IsIdle phase
unsettled_idle phase is = subst IsIdle (sym is) tt

dead_idle : (phase : Phase) → phase ≡ Dead → IsIdle phase
dead_idle phase is = subst IsIdle (sym is) tt

leaves_idle : {T : Type 0} (result : Result T CellFault) (phase : Phase) → IsPlainEnd result → LeavesPhase result phase → IsIdle phase
leaves_idle (Ok value) phase plain leaves = settled_idle phase leaves
leaves_idle (Err (Fault place)) phase plain (inl is) = settled_idle phase is
leaves_idle (Err (Fault place)) phase plain (inr is) = unsettled_idle phase is
leaves_idle (Err PowerLost) phase plain leaves = dead_idle phase leaves
leaves_idle (Err Held) phase plain leaves = absurd plain
leaves_idle (Err (Only map)) phase plain leaves = absurd plain

write_idle : (result : Result ℕ CellFault) (phase : Phase) → IsPlainEnd result → WriteLeaves result phase → IsIdle phase
write_idle (Ok value) phase plain (inl is) = settled_idle phase is
write_idle (Ok value) phase plain (inr is) = unsettled_idle phase is
write_idle (Err fault) phase plain leaves = leaves_idle {T = ℕ} (Err fault) phase plain leaves

-- ---- a call that is begun

module _ {T : Type 0} (job : Job) (io io' : Bytes) (old new : RegionSeen) (result : Result T CellFault) (own : old.log.lent ≡ false) (ended : HasEnded job io old new io' result) where
  pub ended_plain : IsPlainEnd result
  ended_plain = plain_end job old new result own ended.cause

  pub ended_left : (most : ℕ) → old.number ≤ most → IsLeft most old.region old.start old.size old.log new
  ended_left most fits =
      record {
        idle = leaves_idle result new.stage.phase ended_plain ended.phase;
        whole = ended.whole;
        region = ended.kept.region;
        start = ended.kept.start;
        size = ended.kept.size;
        number = omega (arith, ended.number, fits);
        log = ended.kept.log;
      }

module _ (io io' : Bytes) (old new : RegionSeen) (result : Result ℕ CellFault) (own : old.log.lent ≡ false) (ended : HasWritten io old new io' result) where
  pub written_plain : IsPlainEnd result
  written_plain = plain_end WriteJob old new result own ended.cause

  pub written_left : (most : ℕ) → old.number ≤ most → IsLeft most old.region old.start old.size old.log new
  written_left most fits =
      record {
        idle = write_idle result new.stage.phase written_plain ended.phase;
        whole = ended.whole;
        region = ended.kept.region;
        start = ended.kept.start;
        size = ended.kept.size;
        number = omega (arith, ended.number, fits);
        log = ended.kept.log;
      }

-- ---- a call on a cell that may be dead

is_dead_or : {A : Type 0} (phase : Phase) → (phase ≡ Dead → A) → ((phase ≡ Dead → ⊥) → A) → A
is_dead_or Settled dead alive = alive (λ e. cc)
is_dead_or Unsettled dead alive = alive (λ e. cc)
is_dead_or Dead dead alive = dead refl
is_dead_or (Busy w) dead alive = alive (λ e. cc)

ready_left : (old : RegionSeen) → IsReady old → (most : ℕ) → old.number ≤ most → IsLeft most old.region old.start old.size old.log old
ready_left old ready most fits = record { idle = ready.idle; whole = ready.whole; region = refl; start = refl; size = refl; number = fits; log = log_same old.log }

module _ {T : Type 0} (old new : RegionSeen) (result : Result T CellFault) where
  pub lost_plain : IsNotBegun old new result → IsPlainEnd result
  lost_plain dead = subst (λ r. IsPlainEnd r) (sym dead.answer) tt

  pub lost_left : IsReady old → (most : ℕ) → old.number ≤ most → IsNotBegun old new result → IsLeft most old.region old.start old.size old.log new
  lost_left ready most fits dead = subst (λ (r : RegionSeen). IsLeft most old.region old.start old.size old.log r) (sym dead.same) (ready_left old ready most fits)

-- what holds of the region with any number holds of it once its call has drawn one
by_number : (job : Job) (old : RegionSeen) (Holds : RegionSeen → Type 0) → ((n : ℕ) → Holds (record old { number = n })) → Holds (numbered job old)
by_number ReadJob old Holds each = each (old.number + 1)
by_number WriteJob old Holds each = each (old.number + 1)
by_number (CopyJob map) old Holds each = each old.number
by_number Settle old Holds each = each old.number
by_number Clear old Holds each = each old.number

module _ {T : Type 0} (job : Job) (io io' : Bytes) (old new : RegionSeen) (result : Result T CellFault) (ready : IsReady old) (ends : CallEnds job io old new io' result) where
  pub call_plain : IsPlainEnd result
  call_plain =
      is_dead_or old.stage.phase
      (λ dead. lost_plain old new result (ends.dead dead))
      (λ alive. by_number job old (λ mid. HasEnded job io mid new io' result → IsPlainEnd result) (λ n. ended_plain job io io' (record old { number = n }) new result ready.own) (ends.ended alive))

  pub call_left : (most : ℕ) → old.number ≤ most → (numbered job old).number ≤ most → IsLeft most old.region old.start old.size old.log new
  call_left most few fits =
      is_dead_or old.stage.phase
      (λ dead. lost_left old new result ready most few (ends.dead dead))
      (λ alive. by_number job old (λ mid. HasEnded job io mid new io' result → mid.number ≤ most → IsLeft most old.region old.start old.size old.log new) (λ n ended. ended_left job io io' (record old { number = n }) new result ready.own ended most) (ends.ended alive) fits)

module _ (io io' : Bytes) (old new : RegionSeen) (result : Result ℕ CellFault) (ready : IsReady old) (ends : WriteEnds io old new io' result) where
  pub write_plain : IsPlainEnd result
  write_plain =
      is_dead_or old.stage.phase
      (λ dead. lost_plain old new result (ends.dead dead))
      (λ alive. written_plain io io' (numbered WriteJob old) new result ready.own (ends.ended alive))

  pub write_left : (most : ℕ) → old.number + 1 ≤ most → IsLeft most old.region old.start old.size old.log new
  write_left most fits =
      is_dead_or old.stage.phase
      (λ dead. lost_left old new result ready most (omega arith) (ends.dead dead))
      (λ alive. written_left io io' (numbered WriteJob old) new result ready.own (ends.ended alive) most fits)

-- ---- the calls on a region of a volume

module _ (old new : RegionSeen) (ready : IsReady old) (most : ℕ) where
  pub settled_left : {stop : Option CellFault} → old.number ≤ most → IsSettledAt stop old new → IsLeft most old.region old.start old.size old.log new
  settled_left fits is = call_left Settle _ _ old new is.result ready is.ends.ended most fits fits

  pub cleared_left : {stop : Option CellFault} → old.number ≤ most → IsClearedAt stop old new → IsLeft most old.region old.start old.size old.log new
  cleared_left fits is = call_left Clear _ _ old new is.result ready is.ends.ended most fits fits

  pub copied_left : {map : ℕ} {result : Result Bool CellFault} → old.number ≤ most → IsCopiedAt map result old new → IsLeft most old.region old.start old.size old.log new
  copied_left {map = map} {result = result} fits is = call_left (CopyJob map) _ _ old new result ready is.ends.ended most fits fits

  pub read_left : {span : Span} {bytes : List ℕ} {stop : Option CellFault} → old.number + 1 ≤ most → IsRead span bytes stop old new → IsLeft most old.region old.start old.size old.log new
  read_left fits is = call_left ReadJob _ _ old new is.result ready is.ended most (omega arith) fits

  pub wrote_left : {span : Span} {bytes : List ℕ} {stop : Option CellFault} → old.number + 1 ≤ most → IsWritten span bytes stop old new → IsLeft most old.region old.start old.size old.log new
  wrote_left fits is = write_left _ _ old new is.result ready is.ended most fits
