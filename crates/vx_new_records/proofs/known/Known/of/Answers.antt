use Rattle.std.proofs.Common.{arith}
use Rattle.vx_new_records.proofs.Lookups.{finds_more}
use Rattle.vx_new_records.proofs.known.Known.of.Goals as goal

pub loop-name-preserved : goal.loop-name-preserved
loop-name-preserved c = λ name.
    finds_more c.deref-name-items.result.now c.loop-name.name-index c.name-item.result name _ _ _ (omega arith) c.name-item.is (c.in-Ok.ensures.updates.0 name) (c.loop-name.invariant name)
