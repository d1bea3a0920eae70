use Rattle.std.proofs.Common.{rules, ◌-◌, ◌+◌, length, sym, ◌∙◌, ap, ◌++◌}
use Rattle.vx_image.specs.Lies.{strips_from}
use Rattle.vx_image.proofs.Walks.{strips_stop, strips_more}
use Rattle.vx_image.proofs.strips.strips_of.Goals as goal

pub returns-in-None : goal.returns-in-None
returns-in-None c = λ name col finds.
    strips_stop c.loop.strips.items (length c.args.config.now.subdisks) c.loop.counter c.args.config.now name col c.loop.at _ (search rules) (sym (finds c.loop.at) ∙ search rules) (c.loop.invariant name col finds)

pub loop-preserved : goal.loop-preserved
loop-preserved c = λ name col finds.
    let more = strips_more c.loop.strips.items (length c.args.config.now.subdisks) c.loop.counter c.args.config.now name col c.loop.at c.in-Some.piece.now _ (search rules) (sym (finds c.loop.at) ∙ search rules) (c.loop.invariant name col finds) in
    ap (λ items. items ++ strips_from (length c.args.config.now.subdisks - (c.loop.counter + 1)) c.args.config.now name col (c.in-Some.piece.now.at + c.in-Some.piece.now.len)) (search rules) ∙ more
