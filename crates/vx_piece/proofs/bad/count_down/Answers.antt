use Rattle.vx_piece.proofs.Steps.{map_step_at}
use Rattle.vx_piece.specs.Bads.{bad_after}
use Rattle.vx_piece.proofs.bad.count_down.Goals as goal

pub loop-bad-preserved : goal.loop-bad-preserved
loop-bad-preserved c = map_step_at (bad_after c.args.start c.args.count c.args.is_write) c.args.bads.now c.loop-bad.bads c.loop-bad.bad-index c.bad_after.result _ c.loop-bad-test.true c.loop-bad.invariant c.bad_after.ensures
