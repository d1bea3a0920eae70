-- A running volume goes on with a plex on or off, once that is recorded.
use Rattle.vx_stage_mirrors.proofs.SwitchMoments.{switch_goes}
use Rattle.vx_stage_mirrors.proofs.switch_laws.each_switch_goes.Goals as goal

pub returns : goal.returns
returns g c = switch_goes c.each_switch_runs_on.ensures.off c.each_switch_runs_on.ensures.on c.args.house.now c.args.old.now c.args.new.now
