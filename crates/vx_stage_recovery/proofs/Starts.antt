-- A start among other volumes: where it is done the command goes on.
use Rattle.std.proofs.Common.{◌≡◌, ◌∙◌, Bool, true, false, List, [], Result, Ok, Err, refl, sym, ap, subst}
use Rattle.std.specs.Prelude.{is_some, None, if◌then◌else◌}
use Rattle.vx_pages.specs.declared.local_piece.LocalPiece.{Ghosts}
use Rattle.vx_base.specs.Named.{Word}
use Rattle.vx_piece.specs.Seen.{Seen}
use Rattle.vx_answers.specs.declared.answer.End.{End}
use Rattle.vx_answers.specs.declared.answer.End.TheVariants as ends
use Rattle.vx_script_words.specs.declared.value.DiskAt.{DiskAt}
use Rattle.vx_moments.specs.Moment.{Moment}
use Rattle.vx_moments.specs.World.{World}
use Rattle.vx_stages.specs.Tests.{fails, recorded, state_of}
use Rattle.vx_stages.specs.declared.stage.Stage.TheVariants as stage
use Rattle.vx_house.specs.Goes.{IsReady, StageGoes}
use Rattle.vx_house.specs.Plain.{plain}
use Rattle.vx_house.specs.Scene.{Shelved}
use Rattle.vx_house.specs.View.{IsMoment, at}
use Rattle.vx_house.specs.declared.house.House.{House}
use Rattle.vx_house.specs.declared.stop.Stop.{Stop}
use Rattle.vx_house.specs.declared.stop.Stop.TheVariants as stops
use Rattle.vx_recovery.specs.Going.{Begin, Pass, need_in, need_of}
use Rattle.vx_stage_recovery.specs.Seeing.{LeavesBy, SeesBy, SeesLeft, SeesStep, SeesStop, StopsBy, begun}
use Rattle.vx_stage_recovery.proofs.ByMoment.{need_there}
use Rattle.vx_stage_recovery.specs.Steps.{StepGoes}

-- what is to be begun is not started
not_started : (name : Word) (w : World) → need_of name w ≡ Begin → is_some (w.volumes name) ≡ false
not_started name w is = by (is_some (w.volumes name)) refl
  where
    by : (b : Bool) → is_some (w.volumes name) ≡ b → is_some (w.volumes name) ≡ false
    by false e = e
    by true e = absurd (let no : Pass ≡ Begin = sym (ap (λ b. if b then Pass else need_in name w.group) e) ∙ is in cc)

module _ {P : Type 0} {ghosts : Ghosts P} (see : P → Seen) (name : Word) (shelf : Shelved) (h h' : House P ghosts) (needs : need_of name (plain see h) ≡ Begin) where
  -- the start may be begun
  pub start_ready : (disks : List DiskAt) → IsReady see (stage.Start name) disks h
  unfolding fails
  start_ready disks = record {
    wants = (ap (λ b. if b then state_of (recorded name (plain see h).group) else None) (not_started name (plain see h) needs), tt);
    empty = λ e. cc;
  }

  here : (m : Moment) → IsMoment see (at shelf h) m → need_of name m.world ≡ Begin
  here m is = need_there see shelf h m is name ∙ needs

  abbrev GoesTo : Result (Unit {0}) Stop → Type 0
  GoesTo result = StepGoes see (λ none. SeesStep name []) (SeesStop name []) (SeesLeft name) result (at shelf h) (at shelf h')

  stops_here : (m : Moment) (is : IsMoment see (at shelf h) m) (end : End) (n : Moment) → StopsBy Begin name [] m end n → SeesStop name [] m end n
  stops_here m is end n stops = subst (λ k. StopsBy k name [] m end n) (sym (here m is)) stops

  pub begun_goes : (disks : List DiskAt) (result : Result (Unit {0}) Stop) → StageGoes see (stage.Start name) disks result (at shelf h) (at shelf h') → GoesTo (begun result)
  begun_goes disks (Ok u) is = record { keeps = is.keeps; goes = λ m at. (let n = is.goes m at in absurd n.3); faults = is.faults; blamed = tt }
  begun_goes disks (Err stops.OutOfMemory) is = record { keeps = is.keeps; goes = λ m at. (let n = is.goes m at in (n.0, n.1, n.2, subst (λ k. LeavesBy k name m n.0) (sym (here m at)) n.3)); faults = is.faults; blamed = tt }
  begun_goes disks (Err (stops.Ended (ends.Done copied parts blocks))) is =
      record { keeps = is.keeps; goes = λ m at. (let n = is.goes m at in (n.0, n.1, n.2, subst (λ k. SeesBy k name [] m n.0) (sym (here m at)) (refl, (ends.Done copied parts blocks, n.3, refl)))); faults = is.faults; blamed = tt }
  begun_goes disks (Err (stops.Ended ends.GroupLost)) is = record { keeps = is.keeps; goes = λ m at. (let n = is.goes m at in (n.0, n.1, n.2, stops_here m at ends.GroupLost n.0 (refl, n.3, refl))); faults = is.faults; blamed = tt }
  begun_goes disks (Err (stops.Ended (ends.Lost parts))) is = record { keeps = is.keeps; goes = λ m at. (let n = is.goes m at in (n.0, n.1, n.2, stops_here m at (ends.Lost parts) n.0 (refl, n.3, refl))); faults = is.faults; blamed = tt }
  begun_goes disks (Err (stops.Ended (ends.Refused r))) is = record { keeps = is.keeps; goes = λ m at. (let n = is.goes m at in (n.0, n.1, n.2, stops_here m at (ends.Refused r) n.0 (refl, n.3, refl))); faults = is.faults; blamed = is.blamed }
  begun_goes disks (Err (stops.Ended (ends.Fault told device parts))) is = record { keeps = is.keeps; goes = λ m at. (let n = is.goes m at in (n.0, n.1, n.2, stops_here m at (ends.Fault told device parts) n.0 (refl, n.3, refl))); faults = is.faults; blamed = is.blamed }
  begun_goes disks (Err (stops.Ended ends.ShelfFailed)) is = record { keeps = is.keeps; goes = λ m at. (let n = is.goes m at in (n.0, n.1, n.2, stops_here m at ends.ShelfFailed n.0 (refl, n.3, refl))); faults = is.faults; blamed = is.blamed }
