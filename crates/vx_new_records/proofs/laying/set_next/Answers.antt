use Rattle.std.proofs.Common.{rules}
use Rattle.vx_new_records.proofs.Nexts.{set_there}
use Rattle.vx_new_records.proofs.laying.set_next.Goals as goal

pub returns-then-same : goal.returns-then-same
returns-then-same c =
    set_there c.args.disk c.args.number c.loop-index.nexts.items c.loop-index.index c.index.result.now _ (search rules) c.index.ensures (search rules) (search rules)
