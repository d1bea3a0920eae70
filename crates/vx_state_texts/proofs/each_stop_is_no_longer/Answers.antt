use Rattle.vx_state_texts.proofs.Stops.{stop_is_no_longer}
use Rattle.vx_state_texts.proofs.each_stop_is_no_longer.Goals as goal

pub returns : goal.returns
returns c = stop_is_no_longer c.each_change_restates.ensures.stop
