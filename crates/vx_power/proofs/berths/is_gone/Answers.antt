use Rattle.std.proofs.Common.{is_some, sym, ap, ◌∙◌}
use Rattle.vx_power.proofs.BerthLemmas.{none_gone, gone_at}
use Rattle.vx_power.proofs.berths.is_gone.Goals as goal

pub returns-in-None : goal.returns-in-None
returns-in-None c = sym (ap is_some (none_gone c.args.name.now c.args.berths.now c.in-None.ensures))

pub returns-in-Some : goal.returns-in-Some
returns-in-Some c = c.is_some.ensures ∙ sym (ap is_some (gone_at c.args.name.now c.args.berths.now c.in-Some.i c.index-berths-i.result c.in-Some.ensures.1))
