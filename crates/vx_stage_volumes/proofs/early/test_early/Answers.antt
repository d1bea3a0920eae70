use Rattle.std.proofs.Common.{◌∙◌, sym, subst}
use Rattle.vx_lending.specs.Form.{IsFormOf}
use Rattle.vx_stage_volumes.proofs.AtOnce.{refused_as, refused_by_form}
use Rattle.vx_stage_volumes.proofs.early.test_early.Goals as goal

pub returns-in-None-clause-passes : goal.returns-in-None-clause-passes
returns-in-None-clause-passes c =
    let is = subst (λ fresh. IsFormOf c.args.config.now c.args.good c.args.vol.now fresh c.in-Ok.form) c.is_fresh.ensures c.in-Ok.ensures.form in
    refused_by_form c.args.config.now c.args.good c.args.vol.now c.in-Ok.form c.requires.of is ∙ sym c.refusal_of_form.ensures ∙ c.in-None.is

pub returns-clause-refused : goal.returns-clause-refused
returns-clause-refused c =
    let is = subst (λ fresh. IsFormOf c.args.config.now c.args.good c.args.vol.now fresh c.in-Ok.form) c.is_fresh.ensures c.in-Ok.ensures.form in
    refused_as c.args.config.now c.args.good c.args.vol.now c.in-Ok.form c.requires.of is c.in-Some.refusal
    (sym c.refusal_of_form.ensures ∙ c.in-Some.is)
