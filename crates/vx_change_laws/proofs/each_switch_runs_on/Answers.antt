-- A volume runs on when a plex of it goes on or off.
use Rattle.vx_change_laws.proofs.Switchings.{plex_off_runs, plex_on_runs}
use Rattle.vx_change_laws.proofs.each_switch_runs_on.Goals as goal

pub returns-clause-off : goal.returns-clause-off
returns-clause-off c = plex_off_runs c.each_plex_may_switch.ensures.off c.each_plex_may_switch.ensures.told

pub returns-clause-on : goal.returns-clause-on
returns-clause-on c = plex_on_runs c.each_plex_may_switch.ensures.on c.each_plex_may_switch.ensures.told
