use Rattle.std.proofs.Common.{◌≡◌, ◌∙◌, subst, sym, ap, ◌++◌}
use Rattle.std.specs.Prelude.{IfOk}
use Rattle.vx_objects.specs.Config.{objects_of}
use Rattle.vx_rules.specs.Adding.{firsts}
use Rattle.vx_added_records.specs.Started.{is_either}
use Rattle.vx_added_records.proofs.Verdicts.{own_names, same_refusal}
use Rattle.vx_added_records.proofs.refusal.refusal_of.Goals as goal

pub refusal_among-requires-clause-group : goal.refusal_among-requires-clause-group
refusal_among-requires-clause-group g c = own_names (objects_of c.args.config.now) _ (c.deref-3.ensures.value ∙ c.in_ok-group.ensures) c.args.config.now.valid

pub returns : goal.returns
returns g c =
    subst (λ x. IfOk c.refusal_among.result (λ refusal. refusal ≡ x))
    (same_refusal (is_either c.args.volumes.now c.args.running.now) (objects_of c.args.config.now) c.args.added.now c.deref-4.result.now c.deref-5.result.now c.deref-3.result.now (c.deref-3.ensures.value ∙ c.in_ok-group.ensures) (c.deref-4.ensures.value ∙ c.in_ok-known.ensures.firsts ∙ ap firsts (c.deref-2.ensures.value ∙ sym c.deref-5.ensures.value)) (c.deref-5.ensures.value ∙ c.in_ok-all.ensures ∙ ap (λ l. l ++ c.args.added.now) (c.deref.ensures.value ∙ sym c.deref-3.ensures.value)))
    c.refusal_among.ensures
