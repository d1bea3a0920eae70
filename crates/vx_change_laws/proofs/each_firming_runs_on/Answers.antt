-- A volume runs on when its log is made firm.
use Rattle.vx_change_laws.proofs.Switchings.{firming_runs}
use Rattle.vx_change_laws.proofs.each_firming_runs_on.Goals as goal

pub returns : goal.returns
returns c = firming_runs c.each_firming_goes_on.ensures.follows c.each_history_goes_on.ensures.stands
