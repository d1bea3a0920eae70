use Rattle.vx_lending.proofs.Goings.{go_then}
use Rattle.vx_volume_rows.proofs.running.used.Goals as goal

pub returns-in_err-calls-clause-goes : goal.returns-in_err-calls-clause-goes
returns-in_err-calls-clause-goes c = go_then _ _ _ c.copy.ensures.goes c.calls.ensures.goes

pub returns-clause-goes : goal.returns-clause-goes
returns-clause-goes c = go_then _ _ _ (go_then _ _ _ c.copy.ensures.goes c.calls.ensures.goes) c.rest.ensures.goes
