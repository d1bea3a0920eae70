-- What is left of a recovery that is recorded as begun, in each case of how it ends on its group.
use Rattle.std.proofs.Common.{◌≡◌, inl, inr, false, Some, Result, Ok, Err, refl, sym, subst}
use Rattle.std.specs.Prelude.{is_some}
use Rattle.vx_pages.specs.declared.local_piece.LocalPiece.{Ghosts}
use Rattle.vx_base.specs.Named.{Word}
use Rattle.vx_piece.specs.Seen.{Seen}
use Rattle.vx_group_recover.specs.declared.healing.Healed.{Healed}
use Rattle.vx_recovery.specs.Steps.{HasHealed, HealLeft, HealStops}
use Rattle.vx_house.specs.Plain.{plain}
use Rattle.vx_house.specs.Scene.{Shelved}
use Rattle.vx_house.specs.View.{Keeps, View, at}
use Rattle.vx_house.specs.declared.house.House.{House}
use Rattle.vx_house.specs.declared.house.Imported.{Imported}
use Rattle.vx_house.specs.declared.stop.Stop.{Stop}
use Rattle.vx_house.specs.declared.stop.Stop.TheVariants as stops
use Rattle.vx_house.proofs.Moments.{later_refl}
use Rattle.vx_stage_recovery.specs.Ending.{FinishEnds}
use Rattle.vx_stage_recovery.specs.Steps.{FinishLeft, FinishStops, HasFinished}
use Rattle.vx_stage_recovery.proofs.EndPrepared.{HaveEndLaws}
use Rattle.vx_stage_recovery.proofs.EndRunning.{running_goes}
use Rattle.vx_stage_recovery.proofs.EndRuns.{HaveRunLaws}
use Rattle.vx_stage_recovery.proofs.EndSteps.{FinishGoes}
use Rattle.vx_stage_recovery.proofs.EndUnrecorded.{unrecorded_goes}
use Rattle.vx_stage_recovery.proofs.HealLaws.{HaveHealLaws, HavePieceLaws}
use Rattle.vx_stage_recovery.proofs.HealStage.{heal_goes}
use Rattle.vx_stage_recovery.proofs.StepChains.{Doing, Does, stop_as}

abbrev heal : Word → Doing Healed
heal name = record { done = λ h. HasHealed name h.dirty h.copied h.marks; ends = HealStops name; left = HealLeft name }

abbrev finish : Word → Doing Healed
finish name = record { done = λ h. HasFinished name h.dirty h.copied; ends = FinishStops name; left = FinishLeft name }

module _ {P : Type 0} {ghosts : Ghosts P} (see : P → Seen) (name : Word) (old new : View P ghosts) where
  -- it was not healed
  unhealed : (stop : Stop) → Does see old new (heal name) (Err stop) old new → FinishGoes see name (Err stop) old new
  unhealed stop is = stop_as see old new (heal name) (finish name) (record { ends = λ m at end n later stops. inl stops; left = λ m at n left. inl left }) stop is

  -- it was healed, and memory was wanting then
  healed_alone : (done : Healed) → Does see old new (heal name) (Ok done) old new → FinishGoes see name (Err stops.OutOfMemory) old new
  healed_alone done is = record {
    keeps = is.keeps;
    goes = λ m at. (let n = is.goes m at in (n.0, n.1, n.2, inr (done.dirty, done.copied, done.marks, (n.0, n.2, n.3, later_refl n.0.counts, inl refl))));
    faults = is.faults;
    blamed = tt;
  }

module _ {P : Type 0} {ghosts : Ghosts P} (alike : (p q : P) → is_some (ghosts.seen p).told ≡ is_some (ghosts.seen q).told) (laws : HaveHealLaws ghosts) (pieces : HavePieceLaws ghosts) (runs : HaveRunLaws) (edits : HaveEndLaws) (name : Word)
    (shelf : Shelved) (h : House P ghosts) (keeps : Keeps ghosts.seen (at shelf h)) {g : Imported P ghosts} (has : h.group ≡ Some g) (unstarted : is_some ((plain ghosts.seen h).volumes name) ≡ false) where
  pub finish_goes : (result : Result Healed Stop) (g' : Imported P ghosts) → FinishEnds ghosts.seen name result g g' → FinishGoes ghosts.seen name result (at shelf h) (at shelf (record h { group = Some g' }))
  finish_goes (Ok done) g' e = running_goes alike laws pieces runs edits name shelf h keeps has unstarted e
  finish_goes (Err stop) g' (inl is) = unhealed ghosts.seen name (at shelf h) (at shelf (record h { group = Some g' })) stop (heal_goes alike laws pieces name shelf h keeps has (Err stop) g' is)
  finish_goes (Err stop) g' (inr (done, inl (wants, is))) =
      subst (λ s. FinishGoes ghosts.seen name (Err s) (at shelf h) (at shelf (record h { group = Some g' }))) (sym wants)
      (healed_alone ghosts.seen name (at shelf h) (at shelf (record h { group = Some g' })) done (heal_goes alike laws pieces name shelf h keeps has (Ok done) g' is))
  finish_goes (Err stop) g' (inr (done, inr e)) = unrecorded_goes alike laws pieces runs edits name shelf h keeps has e
