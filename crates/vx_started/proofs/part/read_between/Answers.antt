use Rattle.vx_started.proofs.CallCounts.{one_read}
use Rattle.std.proofs.Common.{rules}
use Rattle.vx_started.proofs.Splices.{spliced}
use Rattle.vx_started.proofs.part.read_between.Goals as goal

pub returns-clause-between : goal.returns-clause-between
returns-clause-between g c = (
  c.read.new.into,
  search rules,
  spliced c.deref_mut.result.now c.read.new.into c.args.blocks.now.items c.args.from c.args.to _ c.deref_mut.ensures.value c.requires.order (search rules) (search rules) (search rules),
  c.read.ensures.ok,
)

pub returns-clause-calls : goal.returns-clause-calls
returns-clause-calls g c = one_read _ _ _ _ c.read.ensures.same c.read.ensures.counted (search rules)
