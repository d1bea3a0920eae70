use Rattle.std.proofs.Common.{◌≡◌, ◌&&◌, true, false, nat_lt, sym, ◌∙◌, ap}
use Rattle.std.specs.Str.{bytes_eq}
use Rattle.std.proofs.lemmas.Bool.{and_left}
use Rattle.vx_rules.proofs.Placement.{last_answers, clear_of_all}
use Rattle.vx_rules.proofs.laid.Laid.meets.Goals as goal

pub returns-then-same : goal.returns-then-same
returns-then-same c = λ done laid.
    let entry = (c.range.ensures.in_range tt).3 _ _ c.in-Some.ensures.steps in
    let greatest = (c.range.ensures.in_range tt).4 _ _ c.in-Some.ensures.steps in
    let answer = last_answers _ done c.args.extent.now c.in-Some.place.now c.in-Some.last.now laid entry.1 entry.0.1 (λ q inside. greatest q (tt, inside)) in
    let on : true ≡ bytes_eq c.in-Some.place.now.0 c.args.extent.now.disk = sym c.if-same.true ∙ c.same.ensures in
    ap (λ b. b && nat_lt c.args.extent.now.off c.in-Some.last.now) on ∙ answer

pub returns-else-same : goal.returns-else-same
returns-else-same c = λ done laid.
    let entry = (c.range.ensures.in_range tt).3 _ _ c.in-Some.ensures.steps in
    let greatest = (c.range.ensures.in_range tt).4 _ _ c.in-Some.ensures.steps in
    let answer = last_answers _ done c.args.extent.now c.in-Some.place.now c.in-Some.last.now laid entry.1 entry.0.1 (λ q inside. greatest q (tt, inside)) in
    let off : bytes_eq c.in-Some.place.now.0 c.args.extent.now.disk ≡ false = sym c.same.ensures ∙ c.if-same.false in
    c.if-same.false ∙ (sym (and_left _ (nat_lt c.args.extent.now.off c.in-Some.last.now) off) ∙ answer)

pub returns-in-None : goal.returns-in-None
returns-in-None c = λ done laid. clear_of_all _ done c.args.extent.now laid (λ q before. (c.range.ensures.in_range tt).5 c.in-None.ensures.steps.0 q (tt, before))
