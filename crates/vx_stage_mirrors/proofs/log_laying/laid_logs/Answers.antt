use Rattle.std.proofs.Common.{◌≡◌, Ok, rules, subst}
use Rattle.std.proofs.lemmas.Result.{err_from_is_err_and}
use Rattle.vx_objects.specs.Config.{objects_of}
use Rattle.vx_new_volumes.specs.Planned.{IsPlanned}
use Rattle.vx_stage_mirrors.proofs.Edits.{unnamed}
use Rattle.vx_stage_mirrors.proofs.log_laying.laid_logs.Goals as goal

pub returns-in_err-dco-clause-unlaid : goal.returns-in_err-dco-clause-unlaid
returns-in_err-dco-clause-unlaid c =
    let config = c.args.config.now in
    let plan = c.in_ok-plan.plan in
    let all : c.deref-2.result.now ≡ objects_of config = search rules in
    let p = err_from_is_err_and c.from_residual-in_err-dco.result c.from_residual-in_err-dco.ensures.1 in
    rw (p.1, p.2)
    (unnamed config c.args.good c.args.vol.now c.args.new.now c.deref-2.result.now all plan
    (subst (λ r. IsPlanned config c.args.good r (Ok plan)) c.logs_request-request.ensures c.in_ok-plan.ensures.planned)
    c.in_err-dco.field-0.0 c.in_err-dco.ensures.unnamed)
