use Rattle.std.specs.Prelude.{decimal}
use Rattle.std.proofs.Common.{◌≡◌, sym, ap, ◌∙◌, arith}
use Rattle.vx_names.specs.Number.{digits_value}
use Rattle.vx_names.proofs.Numbers.{numeral_spelled}
use Rattle.vx_names.proofs.number.read_number.Goals as goal

pub returns-then-value-lt-CAP-clause-spelled : goal.returns-then-value-lt-CAP-clause-spelled
returns-then-value-lt-CAP-clause-spelled c =
    let same : digits_value c.args.word.now ≡ c.capped_value-value.result = omega arith in
    numeral_spelled c.args.word.now (sym c.is_numeral.ensures ∙ c.if-not-is_numeral.false) (omega arith) ∙ ap decimal same
