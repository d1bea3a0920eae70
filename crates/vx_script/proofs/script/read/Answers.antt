use Rattle.std.proofs.Common.{◌≡◌, ◌∙◌, sym, subst, ◌+◌, Err, arith}
use Rattle.std.proofs.lemmas.Grind.{common_steps}
use Rattle.std.proofs.lemmas.Result.{err_from_is_err_and}
use Rattle.vx_script.proofs.Carry.{goes_on, at_end}
use Rattle.vx_script.proofs.Continuations.{read_kept}
use Rattle.vx_script.proofs.Refusals.{fault_is}
use Rattle.vx_script.specs.Script.{Faults, script_of}
use Rattle.vx_script.specs.declared.fault.ScriptFault.TheVariants.{Script}
use Rattle.vx_script.proofs.script.read.Goals as goal

pub loop-rest-preserved : goal.loop-rest-preserved
loop-rest-preserved c = record {
  same = goes_on c.loop-rest.reader c.in-Ok.more c.loop-rest.number _ _ _ _ c.split_line.ensures.lines c.in-Ok.ensures c.loop-rest.invariant.same;
  bound = omega arith;
}

pub returns-in-Err-Left : goal.returns-in-Err-Left
returns-in-Err-Left c =
    let column = c.saturating_sub.result + 1 in
    let value : script_of c.args.text.now ≡ Err (record { line = c.loop-rest.number; column = column }) = grind (arith, common_steps) in
    record { value = value; place = fault_is c.args.text.now (Script c.loop-rest.number column) value }

pub returns-in_err-commands : goal.returns-in_err-commands
returns-in_err-commands c =
    let p = err_from_is_err_and c.from_residual.result c.from_residual.ensures.1 in
    let ends = at_end c.loop-rest.reader c.loop-rest.number c.loop-rest.rest.now _ (omega arith) c.loop-rest.invariant.same in
    let value = subst (Faults c.in_err-commands.field-0.0) ends c.in_err-commands.ensures in
    rw (p.1, p.2) (record { value = value; place = fault_is c.args.text.now c.in_err-commands.field-0.0 value })

pub invariant_of-result : goal.invariant_of-result
invariant_of-result c =
    let ends = at_end c.loop-rest.reader c.loop-rest.number c.loop-rest.rest.now _ (omega arith) c.loop-rest.invariant.same in
    record { kept = read_kept c.args.text.now c.in_ok-commands.commands (sym ends ∙ c.in_ok-commands.ensures) }

pub returns-clause-value : goal.returns-clause-value
returns-clause-value c =
    let ends = at_end c.loop-rest.reader c.loop-rest.number c.loop-rest.rest.now _ (omega arith) c.loop-rest.invariant.same in
    sym ends ∙ c.in_ok-commands.ensures
