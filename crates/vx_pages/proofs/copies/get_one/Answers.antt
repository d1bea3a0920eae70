use Rattle.std.proofs.Common.{◌∙◌}
use Rattle.vx_pages.proofs.Repairs.{got_well}
use Rattle.vx_pages.proofs.copies.get_one.Goals as goal

pub returns-in-Ok-clause-got : goal.returns-in-Ok-clause-got
returns-in-Ok-clause-got g c = got_well c.read.new.into (c.read.auto.into ∙ c.requires.whole) c.args.copy _ _ c.read.ensures.kept c.read.ensures.same c.in-Ok.ensures.ok c.in-Ok.ensures.cause
