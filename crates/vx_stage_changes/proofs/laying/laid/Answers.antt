use Rattle.std.proofs.Common.{◌≡◌, ◌∙◌, None, Ok, sym, ap, subst}
use Rattle.std.proofs.lemmas.Result.{IfErr-weaker}
use Rattle.vx_objects.specs.Config.{objects_of}
use Rattle.vx_new_volumes.specs.Tests.{new_fault}
use Rattle.vx_new_volumes.specs.Planned.{IsPlanned}
use Rattle.vx_added_records.specs.Started.{is_either}
use Rattle.vx_stages.specs.Sources.{IsUnlaid, test_fault}
use Rattle.vx_stage_changes.specs.Judging.{IsUnnamed, StopsAs, group_now}
use Rattle.vx_stage_changes.proofs.Verdicts.{unnamed_is_unlaid}
use Rattle.vx_stage_changes.proofs.laying.laid.Goals as goal

pub returns-clause-unlaid : goal.returns-clause-unlaid
returns-clause-unlaid g c =
    let names = is_either c.args.volumes.now c.args.group.now.public.running in
    let now = group_now g.P.Piece.seen c.args.group.now in
    let n = c.args.new.now in
    let plan = c.in_ok-plan.plan in
    let tested : test_fault names now n ≡ None =
    ap (λ b. new_fault b (objects_of now.config) n) (sym c.is_started-started.ensures) ∙ ap (λ os. new_fault c.is_started-started.result os n) (sym (c.deref.ensures.value ∙ c.in-Ok.ensures)) ∙ c.in_ok-tested.ensures.fine in
    let planned : IsPlanned now.config now.good n.request (Ok plan) = subst (λ m. IsPlanned now.config m n.request (Ok plan)) c.good.ensures.just c.in_ok-plan.ensures.planned in
    IfErr-weaker c.named.result (StopsAs (IsUnnamed c.deref-2.result.now n plan)) (StopsAs (IsUnlaid names now n))
    (unnamed_is_unlaid names now n plan c.deref-2.result.now (c.deref-2.ensures.value ∙ c.in-Ok.ensures) tested planned) c.named.ensures.unnamed
