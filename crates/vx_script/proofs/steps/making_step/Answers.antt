use Rattle.std.proofs.Common.{◌≡◌, ◌∙◌, ap, rules, false, codes, List, ℕ, Result}
use Rattle.std.specs.Str.{bytes_eq}
use Rattle.vx_script.proofs.Carry.{carried, at_false}
use Rattle.vx_script.specs.Lines.{bad_word}
use Rattle.vx_script.specs.Steps.{or_bad}
use Rattle.vx_script.specs.declared.reader.Open.TheVariants.{Making}
use Rattle.vx_script.specs.declared.reader.Reader.{Reader}
use Rattle.vx_script.proofs.steps.making_step.Goals as goal

pub returns : goal.returns
returns c =
    let other : bytes_eq c.args.line.now (codes "end") ≡ false = search rules in
    let f : List ℕ → Result Reader ℕ = λ text. or_bad (bad_word c.args.line.now) (record { done = c.args.done; begun = Making c.args.group c.args.cut text }) in
    carried c.or_bad.result _ _ (ap f c.in_ok-text.ensures ∙ at_false (bytes_eq c.args.line.now (codes "end")) _ _ other) c.or_bad.ensures
