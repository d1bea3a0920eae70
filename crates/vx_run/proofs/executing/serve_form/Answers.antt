use Rattle.std.proofs.Common.{◌≡◌, ◌∙◌, sym, subst, Some}
use Rattle.vx_plans.specs.Plans.{disks_of, plan_of}
use Rattle.vx_plans.specs.Steps.{DoesPlan, WantsPlan}
use Rattle.vx_run.specs.Serving.{CommandEnds}
use Rattle.vx_run.specs.Sound.{IsSoundIfAny}
use Rattle.vx_house.specs.Scene.{shelved}
use Rattle.vx_house.specs.View.{at}
use Rattle.vx_run.proofs.Sound.{plan_sound}
use Rattle.vx_run.proofs.executing.serve_form.Goals as goal

pub serve_plan-requires-clause-sound : goal.serve_plan-requires-clause-sound
serve_plan-requires-clause-sound g c κs within = subst IsSoundIfAny (sym c.in-Ok.ensures ∙ c.in-Some.is) (plan_sound c.args.group c.args.form.now c.requires.sized)

pub returns-in-Ok-disks_of : goal.returns-in-Ok-disks_of
returns-in-Ok-disks_of g c =
    let plan : plan_of c.args.group c.args.form.now ≡ Some c.in-Some.plan = sym c.in-Ok.ensures ∙ c.in-Some.is in
    record {
      goes = subst (λ o. CommandEnds g.S.P.Piece.seen (DoesPlan (disks_of c.args.form.now) o) (WantsPlan (disks_of c.args.form.now) o) c.serve_plan.result (at (shelved g.S.Shelf.free g.S.Shelf.held g.S.Shelf.counted g.S.Shelf.faults c.args.shelf.now) c.args.house.now) (at (shelved g.S.Shelf.free g.S.Shelf.held g.S.Shelf.counted g.S.Shelf.faults c.serve_plan.new.shelf) c.serve_plan.new.house)) (sym plan)
          (subst (λ ds. CommandEnds g.S.P.Piece.seen (DoesPlan ds (Some c.in-Some.plan)) (WantsPlan ds (Some c.in-Some.plan)) c.serve_plan.result (at (shelved g.S.Shelf.free g.S.Shelf.held g.S.Shelf.counted g.S.Shelf.faults c.args.shelf.now) c.args.house.now) (at (shelved g.S.Shelf.free g.S.Shelf.held g.S.Shelf.counted g.S.Shelf.faults c.serve_plan.new.shelf) c.serve_plan.new.house)) (c.as_slice.ensures.value ∙ c.in-Ok-disks_of.ensures) c.serve_plan.ensures.goes);
    }
