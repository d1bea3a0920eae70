-- A volume that has come to rest has no region that is marked dirty, where no call on its log failed meanwhile.
use Rattle.std.proofs.Common.{◌≡◌, inl, inr, ℕ, zero, suc, ◌≤◌, Bool, true, false, cond, List, [], ◌∷◌, Some, None, Result, Ok, Err, refl, sym, subst, arith}
use Rattle.vx_mask.specs.Mask.{has, only, without}
use Rattle.vx_core.specs.declared.stage.Act.{Act}
use Rattle.vx_core.specs.declared.stage.Event.{Event}
use Rattle.vx_core.specs.declared.stage.Phase.{Phase}
use Rattle.vx_core.specs.declared.stage.Stage.{Stage}
use Rattle.vx_core.specs.declared.stage.Work.{Work}
use Rattle.vx_core.specs.declared.stage.Act.TheVariants.{Unmark, Done, Skipped, Fault as FaultAct, Lost}
use Rattle.vx_core.specs.declared.stage.Event.TheVariants.{Begin, Unmarked, UnmarkFailed, ReadFailed, Cut}
use Rattle.vx_core.specs.declared.stage.Job.TheVariants.{Clear}
use Rattle.vx_core.specs.declared.stage.Phase.TheVariants.{Settled, Dead, Busy}
use Rattle.vx_core.specs.declared.stage.Step.TheVariants.{Unmark as AtUnmark}
use Rattle.vx_core.specs.Region.{MayAnswer}
use Rattle.vx_core.specs.Table.{begun, busy, ended, next_of, work}
use Rattle.vx_cell.specs.declared.fault.CellFault.{CellFault}
use Rattle.vx_cell.specs.declared.fault.CellFault.TheVariants as cell
use Rattle.vx_cell.specs.declared.fault.Place.{Place}
use Rattle.vx_cell.specs.declared.fault.Place.TheVariants.{Data, Log}
use Rattle.vx_cell.specs.Acts.{FailsAt, PlaceRose}
use Rattle.vx_cell.specs.Calls.{HasEnded}
use Rattle.vx_cell.specs.Region.{LogRose, RegionSeen}
use Rattle.vx_cell.specs.Running.{AreAnswers, FailsFirstAt}
use Rattle.vx_cell.proofs.Work.{le_rose}
use Rattle.vx_volume.specs.declared.fault.IoFault.{IoFault}
use Rattle.vx_volume.specs.declared.fault.IoFault.TheVariants.{Fault, PowerLost, Range}
use Rattle.vx_volume.specs.Loop.{AreDone, stop_of}
use Rattle.vx_volume.specs.Passes.{Clears, IsClearedAt, PassEnds}
use Rattle.vx_volume.specs.Volume.{VolumeSeen, cell_at, region_at}
use Rattle.vx_volume_laws.specs.Exact.{LogIsWell}
use Rattle.vx_group_calls.proofs.Failures.{settling_gone}
use Rattle.vx_group_stop.specs.Laws.{AreClean, AreSettled}
use Rattle.vx_group_stop.specs.Stops.{is_lost}
use Rattle.vx_group_stop.proofs.Passes.{all_settled, clear_leaves_rest, one_left, settling_settles}
use Rattle.vx_group_volumes.specs.ExactLaws.{EachWellRestIsClean}

-- ---- where a clear fails

-- the act has no answer of a device
abbrev IsEnd : Act → Type 0
IsEnd Done = Unit {0}
IsEnd Skipped = Unit {0}
IsEnd FaultAct = Unit {0}
IsEnd Lost = Unit {0}
IsEnd act = ⊥

no_answer : (act : Act) (event : Event) → IsEnd act → MayAnswer act event → ⊥
no_answer Done event end may = by event may
  where
    by : (event : Event) → MayAnswer Done event → ⊥
    by (ReadFailed k) may = may
    by event may = may
no_answer Skipped event end may = by event may
  where
    by : (event : Event) → MayAnswer Skipped event → ⊥
    by (ReadFailed k) may = may
    by event may = may
no_answer FaultAct event end may = by event may
  where
    by : (event : Event) → MayAnswer FaultAct event → ⊥
    by (ReadFailed k) may = may
    by event may = may
no_answer Lost event end may = by event may
  where
    by : (event : Event) → MayAnswer Lost event → ⊥
    by (ReadFailed k) may = may
    by event may = may
no_answer act event end may = absurd end

IsLog : Place → Type 0
IsLog (Log copy device) = Unit {0}
IsLog (Data map piece device) = ⊥

log_place : (b : ℕ) (event : Event) (place : Place) → FailsAt (Unmark b) event place → IsLog place
unfolding IsLog
log_place b UnmarkFailed (Log copy device) fails = tt
log_place b event place fails = absurd fails

-- a job that has ended has no place
ended_first : (x : Stage × Act) (events : List Event) (place : Place) → IsEnd x.1 → AreAnswers x events → FailsFirstAt x events (Some place) → IsLog place
ended_first x [] place end answers first = absurd first
ended_first x (event ∷ events) place end answers first = absurd (no_answer x.1 event end answers.0)

after_unmark : (s : Stage) (w : Work) (b : ℕ) (event : Event) → s.phase ≡ Busy w → w.step ≡ AtUnmark → MayAnswer (Unmark b) event → IsEnd (next_of s event).1
after_unmark s w b Unmarked is at may = rw (is, at) tt
after_unmark s w b UnmarkFailed is at may = rw (is, at) tt
after_unmark s w b Cut is at may = tt
after_unmark s w b event is at may = absurd may

unmark_first : (s : Stage) (w : Work) (b : ℕ) (events : List Event) (place : Place) → s.phase ≡ Busy w → w.step ≡ AtUnmark → AreAnswers (s, Unmark b) events → FailsFirstAt (s, Unmark b) events (Some place) → IsLog place
unmark_first s w b [] place is at answers first = absurd first
unmark_first s w b (event ∷ events) place is at answers (inl here) = log_place b event place here
unmark_first s w b (event ∷ events) place is at answers (inr later) = ended_first (next_of s event) events place (after_unmark s w b event is at answers.0) answers.1 later.1

-- a clear of a settled region, which is dirty or not
abbrev begins : Stage → Bool → Stage × Act
begins s dirty = cond dirty (busy (record s { bits = without s.bits (only 30) }) (work Clear AtUnmark 0)) (ended s Settled Skipped)

clear_first : (s : Stage) (events : List Event) (place : Place) → s.phase ≡ Settled → AreAnswers (next_of s (Begin Clear)) events → FailsFirstAt (next_of s (Begin Clear)) events (Some place) → IsLog place
clear_first s events place settled answers first =
    by (has s.bits 30)
    (subst (λ (p : Phase). AreAnswers (begun s p Clear) events) settled answers)
    (subst (λ (p : Phase). FailsFirstAt (begun s p Clear) events (Some place)) settled first)
  where
    by : (dirty : Bool) → AreAnswers (begins s dirty) events → FailsFirstAt (begins s dirty) events (Some place) → IsLog place
    by true answers first =
        unmark_first (record s { bits = without s.bits (only 30); phase = Busy (work Clear AtUnmark 0) }) (work Clear AtUnmark 0) (only 30) events place refl refl answers first
    by false answers first = ended_first (ended s Settled Skipped) events place tt answers first

-- ---- a region

log_rises : (place : Place) (old new : RegionSeen) → IsLog place → PlaceRose place old.plexes old.log new.plexes new.log → LogRose old.log new.log
unfolding IsLog
log_rises (Log copy device) old new is rose = (copy, device, rose)
log_rises (Data map piece device) old new is rose = absurd is

-- a clear that failed in a settled region failed on the log
clear_fails : (place : Place) (old new : RegionSeen) → old.stage.phase ≡ Settled → IsClearedAt (Some (cell.Fault place)) old new → LogRose old.log new.log
clear_fails place old new settled clears = by clears.result clears.stopped (clears.ends.ended.ended (λ dead. apart (sym settled) dead))
  where
    apart : Settled ≡ old.stage.phase → old.stage.phase ≡ Dead → ⊥
    apart e dead = cc

    by : (result : Result (Unit {0}) CellFault) → (Some (cell.Fault place)) ≡ stop_of result →
        HasEnded Clear (record { at = 0; into = []; from = []; scratch = clears.ends.scratch }) old new (record { at = 0; into = []; from = []; scratch = clears.ends.scratch' }) result → LogRose old.log new.log
    by (Ok u) is end = cc
    by (Err cell.PowerLost) is end = cc
    by (Err cell.Held) is end = cc
    by (Err (cell.Only map)) is end = cc
    by (Err (cell.Fault other)) is end =
        let calls = end.calls.calls in
        log_rises other old new (clear_first old.stage calls.events other settled calls.answers (subst (FailsFirstAt (next_of old.stage (Begin Clear)) calls.events) end.calls.blames calls.first_is)) end.cause.0

-- ---- a volume

-- no count of the log has fallen
abbrev GrowsLog : VolumeSeen → VolumeSeen → Type 0
GrowsLog old new = (copy device : ℕ) → old.log.faults copy device ≤ new.log.faults copy device

more : (old mid new : VolumeSeen) → GrowsLog old mid → LogRose mid.log new.log → LogRose old.log new.log
more old mid new grows (copy, device, rose) = (copy, device, le_rose (old.log.faults copy device) (mid.log.faults copy device) (new.log.faults copy device) (grows copy device) rose)

at_most : (a b c : ℕ) → a ≤ b → b ≤ c → a ≤ c
at_most a b c first then = omega (arith, first, then)

-- the first regions are cleared
cleared : (n : ℕ) (old new : VolumeSeen) → AreSettled old → AreDone Clears n old new → AreSettled new × GrowsLog old new
cleared zero old new settled same = (subst AreSettled (sym same) settled, λ copy device. subst (λ (v : VolumeSeen). old.log.faults copy device ≤ v.log.faults copy device) (sym same) (omega arith))
cleared (suc n) old new settled (mid, done, step) =
    let before = cleared n old mid settled done in
    let here = before.0 n step.inside in
    let end = step.goes.ends.ended.ended (λ dead. alive (sym here) dead) in (
      all_settled n None mid new before.0 step (one_left n None mid new before.0 step).0,
      λ copy device. at_most (old.log.faults copy device) (mid.log.faults copy device) (new.log.faults copy device) (before.1 copy device) (end.kept.log.faults copy device),
    )
  where
    alive : Settled ≡ (cell_at mid n).stage.phase → (cell_at mid n).stage.phase ≡ Dead → ⊥
    alive e dead = cc

clean_by : (mid new : VolumeSeen) (result : Result (Unit {0}) IoFault) → AreSettled mid → PassEnds Clears mid new result → is_lost result ≡ false → LogIsWell mid new → AreClean new
clean_by mid new (Ok u) settled clears power well = (clear_leaves_rest mid new (Ok u) clears settled).1.1
clean_by mid new (Err (Fault place)) settled clears power well =
    let n = clears.0.0 in
    let last = clears.0.1 in
    let step = clears.0.4 in
    let before = cleared n mid last settled clears.0.3 in
    absurd (well (more mid last new before.1 (clear_fails place (region_at last n) (region_at new n) (before.0 n step.inside) step.goes)))
clean_by mid new (Err PowerLost) settled clears power well = cc
clean_by mid new (Err Range) settled clears power well = absurd clears.1

pub well_rest_clean : EachWellRestIsClean
well_rest_clean old new mask rest well =
    clean_by rest.mid new rest.cleared (settling_settles old rest.mid rest.settled) rest.clears rest.power
    (λ rose. well (more old rest.mid new (λ copy device. (settling_gone old rest.mid (Ok tt) rest.settled).kept.log.faults copy device) rose))
