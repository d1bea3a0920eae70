-- One device call more.
use Rattle.std.proofs.Common.{◌≡◌, List, [], ◌∷◌, ◌++◌, Option, Some, None, refl, sym, ap, ◌∙◌, subst, inl, inr}
use Rattle.vx_core.specs.declared.stage.Job.{Job}
use Rattle.vx_core.specs.declared.stage.Event.{Event}
use Rattle.vx_core.specs.declared.stage.Act.{Act}
use Rattle.vx_core.specs.declared.stage.Stage.{Stage}
use Rattle.vx_core.specs.declared.stage.Event.TheVariants.{Begin}
use Rattle.vx_core.specs.Table.{next_of}
use Rattle.vx_core.specs.Region.{MayAnswer}
use Rattle.vx_cell.specs.declared.fault.Place.{Place}
use Rattle.vx_cell.specs.Acts.{FitsPlace, earlier}
use Rattle.vx_cell.specs.Running.{answered_by, AreAnswers, FailsFirstAt, HasCalled}

answered_more : (x : Stage × Act) (events : List Event) (event : Event) → answered_by x (events ++ event ∷ []) ≡ next_of (answered_by x events).0 event
answered_more x [] event = refl
answered_more x (e ∷ events) event = answered_more (next_of x.0 e) events event

answers_more : (x : Stage × Act) (events : List Event) (event : Event) → AreAnswers x events → MayAnswer (answered_by x events).1 event → AreAnswers x (events ++ event ∷ [])
answers_more x [] event answers may = (may, tt)
answers_more x (e ∷ events) event answers may = (answers.0, answers_more (next_of x.0 e) events event answers.1 may)

first_more : (x : Stage × Act) (events : List Event) (event : Event) (first then : Option Place) → FailsFirstAt x events first → FitsPlace (answered_by x events).1 event then → FailsFirstAt x (events ++ event ∷ []) (earlier first then)
first_more x [] event None None fails fits = (fits, tt)
first_more x [] event None (Some place) fails fits = inl fits
first_more x [] event (Some first) then fails fits = absurd fails
first_more x (e ∷ events) event None None fails fits = (fails.0, first_more (next_of x.0 e) events event None None fails.1 fits)
first_more x (e ∷ events) event None (Some place) fails fits = inr (fails.0, first_more (next_of x.0 e) events event None (Some place) fails.1 fits)
first_more x (e ∷ events) event (Some first) then (inl here) fits = inl here
first_more x (e ∷ events) event (Some first) then (inr later) fits = inr (later.0, first_more (next_of x.0 e) events event (Some first) then later.1 fits)

pub called_none : (old : Stage) (job : Job) (x : Stage × Act) → x ≡ next_of old (Begin job) → HasCalled old job x.0 x.1 None
called_none old job x e = record { events = []; answers = tt; comes = sym e; first_is = tt }

pub called_more : (old : Stage) (job : Job) (s : Stage) (act : Act) (first then : Option Place) (event : Event) (x : Stage × Act) → HasCalled old job s act first → MayAnswer act event → FitsPlace act event then → x ≡ next_of s event → HasCalled old job x.0 x.1 (earlier first then)
called_more old job s act first then event x was may fits table =
    let begun = next_of old (Begin job) in
    record {
      events = was.events ++ event ∷ [];
      answers = answers_more begun was.events event was.answers (subst (λ (y : Stage × Act). MayAnswer y.1 event) (sym was.comes) may);
      comes = answered_more begun was.events event ∙ ap (λ (y : Stage × Act). next_of y.0 event) was.comes ∙ sym table;
      first_is = first_more begun was.events event first then was.first_is (subst (λ (y : Stage × Act). FitsPlace y.1 event then) (sym was.comes) fits);
    }
