-- A recovery of volumes, once the command is over.
use Rattle.std.proofs.Common.{List, [], Option, Result, Ok, Err}
use Rattle.std.specs.Prelude.{IfSome}
use Rattle.vx_pages.specs.declared.local_piece.LocalPiece.{Ghosts}
use Rattle.vx_base.specs.Named.{Word}
use Rattle.vx_piece.specs.Seen.{Seen}
use Rattle.vx_answers.specs.declared.answer.Answer.TheVariants.{One}
use Rattle.vx_answers.specs.declared.answer.End.{End}
use Rattle.vx_answers.specs.declared.answer.End.TheVariants as ends
use Rattle.vx_answers.specs.declared.answer.View.{View as Shown}
use Rattle.vx_moments.specs.Moment.{Moment}
use Rattle.vx_plans.specs.Steps.{DoesRecover}
use Rattle.vx_recovery.specs.Going.{Recovers, RecoversShort, all_done}
use Rattle.vx_house.specs.Holders.{AreHeld, holders}
use Rattle.vx_house.specs.Leaves.{IsLeft}
use Rattle.vx_house.specs.View.{IsGroupWhole, IsMoment, View}
use Rattle.vx_house.specs.declared.stop.Stop.{Stop}
use Rattle.vx_house.specs.declared.stop.Stop.TheVariants as stops
use Rattle.vx_house.proofs.Ends.{keeps_but_group, whole_kept}
use Rattle.vx_plans.specs.declared.stages.Finish.TheVariants.{Nothing}
use Rattle.vx_stage_recovery.specs.Steps.{StepGoes}
use Rattle.vx_run.specs.Serving.{CommandGoes, IsRefused}
use Rattle.vx_run.proofs.CommandEnds.{HasDone, over_goes, rested_goes}

module _ {P : Type 0} {ghosts : Ghosts P} (see : P → Seen) (dg vol : Option Word) (views : List Shown) (old mid : View P ghosts) where
  abbrev pub Recovery : Result (Unit {0}) Stop → Type 0
  Recovery result = StepGoes see (λ none m n. Recovers dg vol m views all_done n) (λ m end n. Recovers dg vol m views end n) (RecoversShort vol) result old mid

  abbrev Has : End → Type 0
  Has end = (m : Moment) → IsMoment see old m → (n : Moment) × HasDone see (DoesRecover dg vol) views end mid m n

  ended : (end : End) → Recovery (Err (stops.Ended end)) → Has end
  ended (ends.Done copied parts blocks) is m at = (let n = is.goes m at in (n.0, record { is = n.1; later = n.2; does = (n.2, n.3) }))
  ended (ends.Refused r) is m at = (let n = is.goes m at in (n.0, record { is = n.1; later = n.2; does = (n.2, n.3) }))
  ended (ends.Fault told device parts) is m at = (let n = is.goes m at in (n.0, record { is = n.1; later = n.2; does = (n.2, n.3) }))
  ended ends.ShelfFailed is m at = (let n = is.goes m at in (n.0, record { is = n.1; later = n.2; does = (n.2, n.3) }))
  ended ends.GroupLost is m at = (let n = is.goes m at in (n.0, record { is = n.1; later = n.2; does = (n.2, n.3) }))
  ended (ends.Lost parts) is m at = (let n = is.goes m at in (n.0, record { is = n.1; later = n.2; does = (n.2, n.3) }))

  -- it has ended so
  pub recovery_ended : (end : End) (new : View P ghosts) → Recovery (Err (stops.Ended end)) → IsLeft see end mid new → CommandGoes see (DoesRecover dg vol) (One views end) old new
  recovery_ended end new is left = over_goes see (DoesRecover dg vol) views end old mid new is.keeps (ended end is) is.faults is.blamed left

  -- all was done
  pub recovery_done : (new : View P ghosts) → Recovery (Ok tt) → IsLeft see all_done mid new → CommandGoes see (DoesRecover dg vol) (One views all_done) old new
  recovery_done new is left =
      over_goes see (DoesRecover dg vol) views all_done old mid new is.keeps (λ m at. let n = is.goes m at in (n.0, record { is = n.1; later = n.2; does = (n.2, n.3) })) is.faults tt left

  -- memory was wanting
  pub recovery_short : (new : View P ghosts) → Recovery (Err stops.OutOfMemory) → IsLeft see all_done mid new → IsRefused see (RecoversShort vol) old new
  recovery_short new is left = rested_goes see [] [] Nothing (RecoversShort vol) old mid new (record { keeps = keeps_but_group see mid is.keeps; goes = is.goes; faults = is.faults }) left

  -- its devices are held, and the group is whole
  pub recovery_holds : (stop : Stop) → Recovery (Err stop) → AreHeld mid.shelf.held (holders see mid.house)
  recovery_holds stops.OutOfMemory is = is.keeps.devices
  recovery_holds (stops.Ended (ends.Done copied parts blocks)) is = is.keeps.devices
  recovery_holds (stops.Ended (ends.Refused r)) is = is.keeps.devices
  recovery_holds (stops.Ended (ends.Fault told device parts)) is = is.keeps.devices
  recovery_holds (stops.Ended ends.ShelfFailed) is = is.keeps.devices
  recovery_holds (stops.Ended ends.GroupLost) is = is.keeps.devices
  recovery_holds (stops.Ended (ends.Lost parts)) is = is.keeps.devices

  pub recovery_whole : (stop : Stop) → Recovery (Err stop) → IfSome mid.house.group (IsGroupWhole see)
  recovery_whole stops.OutOfMemory is = whole_kept see mid.house.group is.keeps.house.group
  recovery_whole (stops.Ended (ends.Done copied parts blocks)) is = whole_kept see mid.house.group is.keeps.house.group
  recovery_whole (stops.Ended (ends.Refused r)) is = whole_kept see mid.house.group is.keeps.house.group
  recovery_whole (stops.Ended (ends.Fault told device parts)) is = whole_kept see mid.house.group is.keeps.house.group
  recovery_whole (stops.Ended ends.ShelfFailed) is = whole_kept see mid.house.group is.keeps.house.group
  recovery_whole (stops.Ended ends.GroupLost) is = is.keeps.whole
  recovery_whole (stops.Ended (ends.Lost parts)) is = is.keeps.whole
