-- A volume that is passed over, and one that is recovered, by what it needs.
use Rattle.std.proofs.Common.{◌≡◌, ◌∙◌, List, [], ◌∷◌, Result, Ok, Err, refl, sym, subst, inl}
use Rattle.vx_pages.specs.declared.local_piece.LocalPiece.{Ghosts}
use Rattle.vx_base.specs.Named.{Word}
use Rattle.vx_piece.specs.Seen.{Seen}
use Rattle.vx_answers.specs.declared.answer.View.{View as Shown}
use Rattle.vx_answers.specs.declared.answer.View.TheVariants as view
use Rattle.vx_group_recover.specs.declared.healing.Healed.{Healed}
use Rattle.vx_moments.specs.Moment.{Moment}
use Rattle.vx_house.specs.Plain.{plain}
use Rattle.vx_house.specs.Scene.{Shelved}
use Rattle.vx_house.specs.View.{IsMoment, Keeps, View, at, scene}
use Rattle.vx_house.specs.declared.house.House.{House}
use Rattle.vx_house.specs.declared.stop.Stop.{Stop}
use Rattle.vx_house.specs.declared.stop.Stop.TheVariants as stops
use Rattle.vx_house.proofs.Moments.{faults_refl, later_refl}
use Rattle.vx_recovery.specs.Going.{Heal, Need, Pass, need_of}
use Rattle.vx_recovery.specs.Recovering.{IsRecovered, RecoveryStops, RecoveryWants}
use Rattle.vx_stage_recovery.specs.Seeing.{Heals, LeavesBy, SeesBy, SeesLeft, SeesStep, SeesStop, StopsBy}
use Rattle.vx_stage_recovery.specs.Steps.{StepGoes}
use Rattle.vx_stage_recovery.proofs.ByMoment.{need_there}
use Rattle.vx_stage_recovery.proofs.Sees.{one}
use Rattle.vx_stage_recovery.proofs.StepChains.{Doing, Does, done_as, stop_as}

-- a volume is recovered, and its line told
abbrev heals : Word → List Shown → Doing (Unit {0})
heals name told = record { done = λ none m n. Heals name told m n; ends = λ m end n. (told ≡ []) × RecoveryStops name m end n; left = RecoveryWants name }

abbrev recovers : Word → Doing Healed
recovers name = record { done = λ healed. IsRecovered name healed.dirty healed.copied; ends = RecoveryStops name; left = RecoveryWants name }

-- ---- by what the volume needs

module _ {P : Type 0} {ghosts : Ghosts P} (see : P → Seen) (name : Word) (shelf : Shelved) (h : House P ghosts) (need : Need) (needs : need_of name (plain see h) ≡ need) where
  here : (m : Moment) → IsMoment see (at shelf h) m → need_of name m.world ≡ need
  here m is = need_there see shelf h m is name ∙ needs

  -- it is passed over
  pub passed_over : need ≡ Pass → Keeps see (at shelf h) → StepGoes {T = Unit {0}} see (λ none. SeesStep name []) (SeesStop name []) (SeesLeft name) (Ok tt) (at shelf h) (at shelf h)
  passed_over pass keeps = record {
    keeps = keeps;
    goes = λ m is. (m, is, later_refl m.counts, subst (λ k. SeesBy k name [] m m) (sym (here m is ∙ pass)) (refl, refl));
    faults = faults_refl (scene see (at shelf h));
    blamed = tt;
  }

  -- it is recovered
  pub heals_goes : need ≡ Heal → (told : List Shown) (new : View P ghosts) (result : Result (Unit {0}) Stop) → Does see (at shelf h) new (heals name told) result (at shelf h) new
      → Does see (at shelf h) new (one name told) result (at shelf h) new
  heals_goes heal told new (Ok u) is =
      done_as see (at shelf h) new (heals name told) (one name told) u u (λ m at_m n later healed. subst (λ k. SeesBy k name told m n) (sym (here m at_m ∙ heal)) healed) is
  heals_goes heal told new (Err stop) is = stop_as see (at shelf h) new (heals name told) (one name told) (record {
    ends = λ m at_m end n later stops. subst (λ k. StopsBy k name told m end n) (sym (here m at_m ∙ heal)) stops;
    left = λ m at_m n left. subst (λ k. LeavesBy k name m n) (sym (here m at_m ∙ heal)) left;
  }) stop is

-- ---- its recovery

module _ {P : Type 0} {ghosts : Ghosts P} (see : P → Seen) (name : Word) (old new : View P ghosts) where
  pub healed_told : (healed : Healed) → Does see old new (recovers name) (Ok healed) old new → Does see old new (heals name (view.Recovered name healed.dirty healed.copied ∷ [])) (Ok tt) old new
  healed_told healed is =
      done_as see old new (recovers name) (heals name (view.Recovered name healed.dirty healed.copied ∷ [])) healed tt (λ m at_m n later recovered. (healed.dirty, healed.copied, refl, recovered)) is

  pub unhealed : (stop : Stop) → Does see old new (recovers name) (Err stop) old new → Does see old new (heals name []) (Err stop) old new
  unhealed stop is = stop_as see old new (recovers name) (heals name []) (record { ends = λ m at_m end n later stops. (refl, stops); left = λ m at_m n left. left }) stop is

-- nothing was done, for want of memory
pub not_begun : {P : Type 0} {ghosts : Ghosts P} (see : P → Seen) (name : Word) (v : View P ghosts) → Keeps see v → Does see v v (heals name []) (Err stops.OutOfMemory) v v
not_begun see name v keeps = record { keeps = keeps; goes = λ m is. (m, is, later_refl m.counts, inl refl); faults = faults_refl (scene see v); blamed = tt }
