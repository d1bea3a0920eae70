use Rattle.std.proofs.Common.{◌≡◌, rules, true}
use Rattle.vx_script.proofs.Carry.{carried, at_true}
use Rattle.vx_script.specs.Lines.{is_passed_over}
use Rattle.vx_script.proofs.steps.inside_step.Goals as goal

pub returns-then-is_passed_over : goal.returns-then-is_passed_over
returns-then-is_passed_over c =
    let passed : is_passed_over c.args.line.now ≡ true = search rules in
    carried c.or_bad.result _ _ (at_true (is_passed_over c.args.line.now) _ _ passed) c.or_bad.ensures
