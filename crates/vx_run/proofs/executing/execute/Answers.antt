use Rattle.std.proofs.Common.{sym, subst}
use Rattle.vx_plans.specs.Plans.{disks_of, plan_of}
use Rattle.vx_plans.specs.Steps.{DoesForm, DoesPlan, DoesRecover, WantsForm, WantsPlan}
use Rattle.vx_recovery.specs.Going.{RecoversShort}
use Rattle.std.proofs.lemmas.Bool.{and_parts}
use Rattle.vx_run.specs.Serving.{CommandEnds}
use Rattle.vx_house.specs.Scene.{shelved}
use Rattle.vx_house.specs.View.{at}
use Rattle.vx_run.proofs.CommandRanges.{call_within, other_form}
use Rattle.vx_run.proofs.executing.execute.Goals as goal

pub serve_call-requires-clause-valid : goal.serve_call-requires-clause-valid
serve_call-requires-clause-valid g c κs within = call_within c.args.command.now.group c.args.command.now.form c.in-Calling.call c.in-Calling.is (and_parts _ _ (and_parts _ _ c.requires.kept).0).0

pub returns-in-Calling : goal.returns-in-Calling
returns-in-Calling g c = record {
  goes = λ place.
      subst (λ f. CommandEnds g.S.P.Piece.seen (DoesForm place c.args.command.now.group f) (WantsForm c.args.command.now.group f) c.serve_call.result (at (shelved g.S.Shelf.free g.S.Shelf.held g.S.Shelf.counted g.S.Shelf.faults c.args.shelf.now) c.args.house.now) (at (shelved g.S.Shelf.free g.S.Shelf.held g.S.Shelf.counted g.S.Shelf.faults c.serve_call.new.shelf) c.serve_call.new.house)) (sym c.in-Calling.is)
      (c.serve_call.ensures.goes place);
}

pub returns-in-Recover : goal.returns-in-Recover
returns-in-Recover g c = record {
  goes = λ place.
      subst (λ f. CommandEnds g.S.P.Piece.seen (DoesForm place c.args.command.now.group f) (WantsForm c.args.command.now.group f) c.serve_recovery.result (at (shelved g.S.Shelf.free g.S.Shelf.held g.S.Shelf.counted g.S.Shelf.faults c.args.shelf.now) c.args.house.now) (at (shelved g.S.Shelf.free g.S.Shelf.held g.S.Shelf.counted g.S.Shelf.faults c.serve_recovery.new.shelf) c.serve_recovery.new.house)) (sym c.in-Recover.is)
      (subst (λ o. CommandEnds g.S.P.Piece.seen (DoesRecover o c.in-Recover.vol) (RecoversShort c.in-Recover.vol) c.serve_recovery.result (at (shelved g.S.Shelf.free g.S.Shelf.held g.S.Shelf.counted g.S.Shelf.faults c.args.shelf.now) c.args.house.now) (at (shelved g.S.Shelf.free g.S.Shelf.held g.S.Shelf.counted g.S.Shelf.faults c.serve_recovery.new.shelf) c.serve_recovery.new.house)) c.name_in.ensures c.serve_recovery.ensures.goes);
}

pub returns-in_default : goal.returns-in_default
returns-in_default g c = record {
  goes = λ place.
      other_form (λ Do Left. CommandEnds g.S.P.Piece.seen Do Left c.serve_form.result (at (shelved g.S.Shelf.free g.S.Shelf.held g.S.Shelf.counted g.S.Shelf.faults c.args.shelf.now) c.args.house.now) (at (shelved g.S.Shelf.free g.S.Shelf.held g.S.Shelf.counted g.S.Shelf.faults c.serve_form.new.shelf) c.serve_form.new.house)) place c.args.command.now.group c.args.command.now.form c.in_default.not-Calling c.in_default.not-Recover
      (subst (λ o. CommandEnds g.S.P.Piece.seen (DoesPlan (disks_of c.args.command.now.form) (plan_of o c.args.command.now.form)) (WantsPlan (disks_of c.args.command.now.form) (plan_of o c.args.command.now.form)) c.serve_form.result (at (shelved g.S.Shelf.free g.S.Shelf.held g.S.Shelf.counted g.S.Shelf.faults c.args.shelf.now) c.args.house.now) (at (shelved g.S.Shelf.free g.S.Shelf.held g.S.Shelf.counted g.S.Shelf.faults c.serve_form.new.shelf) c.serve_form.new.house)) c.name_in-in_default.ensures c.serve_form.ensures.goes);
}
