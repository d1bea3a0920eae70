use Rattle.std.proofs.Common.{◌≡◌, ◌+◌, ◌*◌, ◌-◌, ap, ◌∙◌, take, get_or, arith}
use Rattle.std.proofs.lemmas.List.{take_more}
use Rattle.vx_names.specs.Number.{digits_value, digits_on}
use Rattle.vx_names.proofs.Numbers.{digits_on-push}
use Rattle.vx_names.proofs.number.capped_value.Goals as goal

pub loop-digit-preserved : goal.loop-digit-preserved
loop-digit-preserved c =
    let more : digits_value (take (c.loop-digit.digit-index + 1) c.args.digits.now) ≡ 10 * digits_value (take c.loop-digit.digit-index c.args.digits.now) + (get_or c.args.digits.now c.loop-digit.digit-index 0 - 48) =
    ap (digits_on 0) (take_more c.args.digits.now c.loop-digit.digit-index 0 (omega arith)) ∙ digits_on-push 0 (take c.loop-digit.digit-index c.args.digits.now) (get_or c.args.digits.now c.loop-digit.digit-index 0) in
    omega (arith, more, c.loop-digit.invariant, c.next_value-value.ensures)
