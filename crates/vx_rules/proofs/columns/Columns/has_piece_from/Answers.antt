use Rattle.std.proofs.Common.{◌∙◌}
use Rattle.vx_rules.proofs.FromColumn.{first_answers, none_answers}
use Rattle.vx_rules.proofs.columns.Columns.has_piece_from.Goals as goal

pub returns-in-Some : goal.returns-in-Some
returns-in-Some c = λ all indexed.
    let range = c.range.ensures.in_range tt in
    let first = rw c.in-Some.ensures.steps at range.1 in
    let least = rw c.in-Some.ensures.steps at range.2 in
    c.same.ensures ∙ first_answers all _ c.args.plex.now c.args.col c.in-Some.place.now c.in-Some.field-0-1.now indexed first.1 first.0.0 (λ q from there. least q (from, tt) there)

pub returns-in-None : goal.returns-in-None
returns-in-None c = λ all indexed. none_answers all _ c.args.plex.now c.args.col indexed (λ q from. (c.range.ensures.in_range tt).5 c.in-None.ensures.steps.0 q (from, tt))
