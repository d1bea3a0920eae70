use Rattle.vx_lending.proofs.Goings.{go_then}
use Rattle.vx_volume_rows.proofs.calls.calls.Goals as goal

pub returns-in_err-read-clause-goes : goal.returns-in_err-read-clause-goes
returns-in_err-read-clause-goes c = go_then _ _ _ c.fill.ensures.goes c.read.ensures.goes

pub returns-in_err-fill-2-clause-goes : goal.returns-in_err-fill-2-clause-goes
returns-in_err-fill-2-clause-goes c = go_then _ _ _ (go_then _ _ _ c.fill.ensures.goes c.read.ensures.goes) c.fill-2.ensures.goes

pub returns-clause-goes : goal.returns-clause-goes
returns-clause-goes c = go_then _ _ _ (go_then _ _ _ (go_then _ _ _ c.fill.ensures.goes c.read.ensures.goes) c.fill-2.ensures.goes) c.read-2.ensures.goes
