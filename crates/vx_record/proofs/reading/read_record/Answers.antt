use Rattle.std.proofs.Common.{◌≡◌, ◌∷◌, ℕ, List, sym, ap, ◌∙◌, take, drop}
use Rattle.std.proofs.lemmas.Result.{err_from_is_err_and}
use Rattle.vx_record.specs.Grammar.{lines, head_line}
use Rattle.vx_record.proofs.ReadSteps.{record_fault}
use Rattle.vx_record.proofs.reading.read_record.Goals as goal

pub returns-in_err-found-clause-fault : goal.returns-in_err-found-clause-fault
returns-in_err-found-clause-fault c =
    let p = err_from_is_err_and c.from_residual.result c.from_residual.ensures.1 in
    let front : take c.line_len-head_len.result c.args.text.now ≡ head_line c.in-Some.head.kind c.in-Some.head.name = sym c.split_at.ensures.front ∙ c.in-Some.ensures.spelled in
    let split : lines c.args.text.now ≡ head_line c.in-Some.head.kind c.in-Some.head.name ∷ lines (drop c.line_len-head_len.result c.args.text.now) =
    c.line_len-head_len.ensures.first c.requires.some ∙ ap (λ (l : List ℕ). l ∷ lines (drop c.line_len-head_len.result c.args.text.now)) front in
    rw (p.1, p.2) (record_fault c.args.line c.in-Some.head.kind c.in-Some.head.name (lines c.args.text.now) (lines (drop c.line_len-head_len.result c.args.text.now)) c.in_err-found.field-0.0 c.in-Some.ensures.named split (rw (c.columns.ensures, c.split_at.ensures.back) at c.in_err-found.ensures.fault))
