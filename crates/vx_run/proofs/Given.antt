-- A call that was served, before the command is over.
use Rattle.std.proofs.Common.{◌≡◌, ◌∙◌, ℕ, [], refl, ap}
use Rattle.vx_pages.specs.declared.local_piece.LocalPiece.{Ghosts}
use Rattle.vx_piece.specs.Seen.{Seen}
use Rattle.vx_script_forms.specs.declared.call.Call.{Call}
use Rattle.vx_answers.specs.declared.answer.Answer.TheVariants.{One}
use Rattle.vx_answers.specs.declared.answer.End.{End}
use Rattle.vx_answers.specs.declared.answer.End.TheVariants as ends
use Rattle.vx_answers.specs.declared.refusal.Refusal.{Refusal}
use Rattle.vx_moments.specs.Moment.{Moment}
use Rattle.vx_plans.specs.Serving.{CallRuns}
use Rattle.vx_plans.specs.Steps.{DoesCall}
use Rattle.vx_house.specs.Leaves.{IsLeft}
use Rattle.vx_house.specs.Scene.{Shelved, FaultsGoOn, IsBlamed}
use Rattle.vx_house.specs.View.{View, at, scene, IsMoment, Keeps}
use Rattle.vx_house.specs.declared.house.House.{House}
use Rattle.vx_house.proofs.Ends.{keeps_but_group, keeps_ended}
use Rattle.vx_house.proofs.Moments.{later_refl}
use Rattle.vx_run.specs.Grouped.{IsSameHouse}
use Rattle.vx_run.specs.Serving.{CommandGoes, IsRefused}
use Rattle.vx_run.proofs.CommandEnds.{HasDone, over_goes}
use Rattle.vx_run.proofs.SameHouse.{same_faults, same_kept, same_moment}

-- what a served call gives, before it is over
pub record Given {P : Type 0} {ghosts : Ghosts P} (see : P → Seen) (shelf : Shelved) (call : Call) (place : ℕ) (end : End) (h mid : House P ghosts) : Type 0 where
  pub keeps : Keeps see (at shelf mid)
  pub goes : (m : Moment) → IsMoment see (at shelf h) m → (o : Moment) × HasDone see (DoesCall place call) [] end (at shelf mid) m o
  pub faults : FaultsGoOn (scene see (at shelf h)) (scene see (at shelf mid))
  pub blamed : IsBlamed end (scene see (at shelf h)) (scene see (at shelf mid))

module _ {P : Type 0} {ghosts : Ghosts P} (see : P → Seen) (shelf : Shelved) (call : Call) (h mid : House P ghosts) where
  -- refused, and nothing has changed
  pub refused_given : (place : ℕ) (r : Refusal) → IsSameHouse h mid → Keeps see (at shelf h) → ((m : Moment) → IsMoment see (at shelf h) m → CallRuns place call m (ends.Refused r) m) → Given see shelf call place (ends.Refused r) h mid
  refused_given place r same keeps runs = record {
    keeps = same_kept see shelf h mid same keeps;
    goes = λ m is. (
      m,
      record {
        is = same_moment see shelf h mid same m is;
        later = later_refl m.counts;
        does = (refl, later_refl m.counts, runs m is);
      },
    );
    faults = same_faults see shelf h mid same;
    blamed = tt;
  }

  -- the command is over
  pub given_over : (place : ℕ) (end : End) (new : View P ghosts) → Given see shelf call place end h mid → IsLeft see end (at shelf mid) new → CommandGoes see (DoesCall place call) (One [] end) (at shelf h) new
  given_over place end new g left = over_goes see (DoesCall place call) [] end (at shelf h) (at shelf mid) new (keeps_ended see end (at shelf mid) g.keeps) g.goes g.faults g.blamed left

  -- memory was wanting
  pub call_refused : IsSameHouse h mid → Keeps see (at shelf h) → h.hand.items ≡ [] → IsRefused see (λ m n. n.world ≡ m.world) (at shelf h) (at shelf mid)
  call_refused same keeps empty = record {
    keeps = keeps_but_group see (at shelf mid) (same_kept see shelf h mid same keeps);
    empty = ap (λ hand. hand.items) same.hand ∙ empty;
    goes = λ m is. (m, same_moment see shelf h mid same m is, later_refl m.counts, refl);
    faults = same_faults see shelf h mid same;
  }
