-- Reads and writes of a region: what they keep of it, and why they are stopped.
use Rattle.std.proofs.Common.{Option, None, Bool, sym, ◌∙◌, ◌<◌, true, false, ap, ◌≡◌, ℕ, ◌+◌, Some, Result, Ok, Err, subst, inl, inr}
use Rattle.std.specs.Prelude.{◌⊎◌, if◌then◌else◌, length}
use Rattle.vx_mask.specs.Mask.{has}
use Rattle.vx_cell.specs.Changes.{CellSeen}
use Rattle.vx_core.specs.declared.stage.Job.{Job}
use Rattle.vx_core.specs.declared.stage.Job.TheVariants.{Clear, Copy as CopyJob, Read as ReadJob, Settle, Write as WriteJob}
use Rattle.vx_core.specs.declared.stage.Phase.{Phase}
use Rattle.vx_core.specs.declared.stage.Phase.TheVariants.{Busy, Dead, Settled, Unsettled}
use Rattle.vx_core.specs.Causes.{IsPlain}
use Rattle.vx_core.specs.Schedule.{IsIdle}
use Rattle.vx_cell.specs.declared.fault.CellFault.{CellFault}
use Rattle.vx_cell.specs.declared.fault.CellFault.TheVariants.{Fault, PowerLost, Held, Only}
use Rattle.vx_cell.specs.declared.fault.Place.{Place}
use Rattle.vx_cell.specs.Acts.{PlaceRose}
use Rattle.vx_cell.specs.Calls.{CallHasCause, IsNotBegun, LeavesPhase, Stands, WriteLeaves, numbered}
use Rattle.vx_cell.specs.Region.{AllFailed, IsCut, RegionSeen}
use Rattle.vx_cell.specs.Running.{Begins}
use Rattle.vx_volume.specs.Calls.{IsRead, IsWritten, io_stop}
use Rattle.vx_volume.specs.Loop.{stop_of}
use Rattle.vx_volume.proofs.Entries.{dead_or}
use Rattle.vx_volume.proofs.Volumes.{clear_job, copy_job, read_way, settle_job, write_way}
use Rattle.vx_volume.specs.Passes.{Clears, Copying, CopiesTo, CopyEnds, IsClearedAt, IsCopiedAt, IsSettledAt, JobEnds, PassEnds, Settles}
use Rattle.vx_volume.specs.declared.fault.IoFault.{IoFault}
use Rattle.vx_volume.specs.Volume.{VolumeSeen}
use Rattle.vx_group_calls.specs.Laws.{OpenedAreAlive, PassKeepsCuts}
use Rattle.vx_group_calls.proofs.Keeping.{HasGone, IsCalling, made_gone, one_gone}

ended_cut : {T : Type 0} (job : Job) (old new : RegionSeen) (result : Result T CellFault) → LeavesPhase result new.stage.phase → CallHasCause job old new result → new.stage.phase ≡ Dead → IsCut new
ended_cut job old new (Ok n) leaves cause dead = cc
ended_cut job old new (Err (Fault place)) (inl is) cause dead = cc
ended_cut job old new (Err (Fault place)) (inr is) cause dead = cc
ended_cut job old new (Err PowerLost) leaves cause dead = cause
ended_cut job old new (Err Held) leaves cause dead = absurd (subst Stands dead leaves)
ended_cut job old new (Err (Only map)) leaves cause dead = absurd leaves

written_cut : (old new : RegionSeen) (result : Result ℕ CellFault) → WriteLeaves result new.stage.phase → CallHasCause WriteJob old new result → new.stage.phase ≡ Dead → IsCut new
written_cut old new (Ok n) (inl is) cause dead = cc
written_cut old new (Ok n) (inr is) cause dead = cc
written_cut old new (Err fault) leaves cause dead = ended_cut {T = ℕ} WriteJob old new (Err fault) leaves cause dead

stopped_by : (result : Result ℕ CellFault) (fault : CellFault) → Some fault ≡ stop_of result → result ≡ Err fault
stopped_by (Ok n) fault is = cc
stopped_by (Err other) fault is = cc

no_fault : {A : Type 0} (result : Result ℕ CellFault) (place : Place) → result ≡ Err PowerLost → result ≡ Err (Fault place) → A
no_fault result place lost fault = cc

begins : (phase : Phase) → IsIdle phase → Begins phase
begins Settled idle = tt
begins Unsettled idle = tt
begins Dead idle = tt
begins (Busy w) idle = absurd idle

module _ (job : Job) (old : RegionSeen) (n : ℕ) (new : RegionSeen) (result : Result ℕ CellFault) (dead : old.stage.phase ≡ Dead → IsNotBegun old new result) (cause : (old.stage.phase ≡ Dead → ⊥) → CallHasCause job (record old { number = n }) new result) where
  left_cut : ((old.stage.phase ≡ Dead → ⊥) → new.stage.phase ≡ Dead → IsCut new) → new.stage.phase ≡ Dead → (old.stage.phase ≡ Dead) ⊎ IsCut new
  left_cut cut is = dead_or old.stage.phase (λ was. inl was) (λ alive. inr (cut alive is))

  place_rose : (place : Place) → Some (Fault place) ≡ stop_of result → PlaceRose place old.plexes old.log new.plexes new.log
  place_rose place stopped =
      let is : result ≡ Err (Fault place) = stopped_by result (Fault place) stopped in
      dead_or old.stage.phase (λ was. no_fault result place (dead was).answer is) (λ alive. (subst (λ (x : Result ℕ CellFault). CallHasCause job (record old { number = n }) new x) is (cause alive)).0)

  all_failed : IsPlain job → (place : Place) → Some (Fault place) ≡ stop_of result → IsIdle old.stage.phase → (old.stage.phase ≡ Dead → ⊥) × AllFailed old new
  all_failed plain place stopped idle =
      let is : result ≡ Err (Fault place) = stopped_by result (Fault place) stopped in
      dead_or old.stage.phase (λ was. no_fault result place (dead was).answer is)
      (λ alive. (alive, (subst (λ (x : Result ℕ CellFault). CallHasCause job (record old { number = n }) new x) is (cause alive)).1 plain (begins old.stage.phase idle)))

  power_cut : Some PowerLost ≡ stop_of result → ((old.stage.phase ≡ Dead) × (new ≡ old)) ⊎ IsCut new
  power_cut stopped =
      let is : result ≡ Err PowerLost = stopped_by result PowerLost stopped in
      dead_or old.stage.phase (λ was. inl (was, (dead was).same)) (λ alive. inr (subst (λ (x : Result ℕ CellFault). CallHasCause job (record old { number = n }) new x) is (cause alive)))

pub read_calling : IsCalling IsRead
read_calling =
    record {
      stays = λ span bytes stop old new is. (read_way.gone old new span bytes stop is).stays;
      dead = λ span bytes stop old new is. left_cut ReadJob old (old.number + 1) new is.result is.ended.dead (λ alive. (is.ended.ended alive).cause)
          (λ alive. ended_cut ReadJob (record old { number = old.number + 1 }) new is.result (is.ended.ended alive).phase (is.ended.ended alive).cause);
      fault = λ span bytes place old new is. place_rose ReadJob old (old.number + 1) new is.result is.ended.dead (λ alive. (is.ended.ended alive).cause) place is.stopped;
      failed = λ span bytes place old new is idle. all_failed ReadJob old (old.number + 1) new is.result is.ended.dead (λ alive. (is.ended.ended alive).cause) tt place is.stopped idle;
      lost = λ span bytes old new is. power_cut ReadJob old (old.number + 1) new is.result is.ended.dead (λ alive. (is.ended.ended alive).cause) is.stopped;
    }

pub write_calling : IsCalling IsWritten
write_calling =
    record {
      stays = λ span bytes stop old new is. (write_way.gone old new span bytes stop is).stays;
      dead = λ span bytes stop old new is. left_cut WriteJob old (old.number + 1) new is.result is.ended.dead (λ alive. (is.ended.ended alive).cause)
          (λ alive. written_cut (record old { number = old.number + 1 }) new is.result (is.ended.ended alive).phase (is.ended.ended alive).cause);
      fault = λ span bytes place old new is. place_rose WriteJob old (old.number + 1) new is.result is.ended.dead (λ alive. (is.ended.ended alive).cause) place is.stopped;
      failed = λ span bytes place old new is idle. all_failed WriteJob old (old.number + 1) new is.result is.ended.dead (λ alive. (is.ended.ended alive).cause) tt place is.stopped idle;
      lost = λ span bytes old new is. power_cut WriteJob old (old.number + 1) new is.result is.ended.dead (λ alive. (is.ended.ended alive).cause) is.stopped;
    }

-- ---- passes

-- a job without a number leaves a region dead only where it was, or is cut
job_cut : {T : Type 0} (job : Job) (old new : RegionSeen) (result : Result T CellFault) → JobEnds job result old new → new.stage.phase ≡ Dead → (old.stage.phase ≡ Dead) ⊎ IsCut new
job_cut job old new result ends is =
    dead_or old.stage.phase (λ was. inl was)
    (λ alive. let e = ends.ended.ended alive in inr (ended_cut job (numbered job old) new result e.phase e.cause is))

settles_gone : (r : ℕ) (stop : Option CellFault) (old new : VolumeSeen) → Settles r stop old new → HasGone old new
settles_gone r stop old new changes = one_gone r (IsSettledAt stop) old new changes ((settle_job stop).gone _ _ changes.goes).stays (job_cut Settle _ _ changes.goes.result changes.goes.ends)

clears_gone : (r : ℕ) (stop : Option CellFault) (old new : VolumeSeen) → Clears r stop old new → HasGone old new
clears_gone r stop old new changes = one_gone r (IsClearedAt stop) old new changes ((clear_job stop).gone _ _ changes.goes).stays (job_cut Clear _ _ changes.goes.result changes.goes.ends)

copies_gone : (map r : ℕ) (stop : Option CellFault) (old new : Copying) → CopiesTo map r stop old new → HasGone old.volume new.volume
copies_gone map r stop old new copies = one_gone r (IsCopiedAt map copies.result) old.volume new.volume copies.ends ((copy_job map copies.result).gone _ _ copies.ends.goes).stays (job_cut (CopyJob map) _ _ copies.result copies.ends.goes.ends)

abbrev itself : VolumeSeen → VolumeSeen
itself v = v

abbrev copied_in : Copying → VolumeSeen
copied_in c = c.volume

pub settling_gone : (old new : VolumeSeen) (result : Result (Unit {0}) IoFault) → PassEnds Settles old new result → HasGone old new
settling_gone old new result ends = made_gone itself Settles settles_gone (length old.cells) _ old new ends.0

pub clearing_gone : (old new : VolumeSeen) (result : Result (Unit {0}) IoFault) → PassEnds Clears old new result → HasGone old new
clearing_gone old new result ends = made_gone itself Clears clears_gone (length old.cells) _ old new ends.0

pub copying_gone : (map : ℕ) (old new : VolumeSeen) (result : Result ℕ IoFault) → CopyEnds map old new result → HasGone old new
copying_gone map old new (Ok n) ends = made_gone copied_in (CopiesTo map) (copies_gone map) (length old.cells) None (record { volume = old; copied = 0 }) (record { volume = new; copied = n }) ends
copying_gone map old new (Err fault) ends = made_gone copied_in (CopiesTo map) (copies_gone map) (length old.cells) (io_stop {T = ℕ} (Err fault)) (record { volume = old; copied = 0 }) (record { volume = new; copied = ends.0 }) ends.1

pub settling_keeps : PassKeepsCuts (PassEnds Settles)
settling_keeps old new result ends = (settling_gone old new result ends).cut

pub clearing_keeps : PassKeepsCuts (PassEnds Clears)
clearing_keeps old new result ends = (clearing_gone old new result ends).cut

pub copying_keeps : (map : ℕ) → PassKeepsCuts (CopyEnds map)
copying_keeps map old new result ends = (copying_gone map old new result ends).cut

-- ---- a volume that was just opened

not_dead : (b : Bool) → (if b then Unsettled else Settled) ≡ Dead → ⊥
not_dead true is = cc
not_dead false is = cc

pub opened_alive : OpenedAreAlive
opened_alive shape log regions v opened r lt dead =
    let count = opened.cells.count in
    let here = opened.cells.each r (subst (λ (n : ℕ). r < n) count lt) in
    absurd (not_dead (has here.bits 30) (sym (ap (λ (c : CellSeen). c.stage.phase) here.is) ∙ dead))
