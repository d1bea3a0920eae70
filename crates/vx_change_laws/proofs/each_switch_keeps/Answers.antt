-- What stays of a volume of which a plex goes on or off.
use Rattle.vx_change_laws.proofs.Switchings.{switch_cut, switch_exact, switch_fits}
use Rattle.vx_change_laws.proofs.each_switch_keeps.Goals as goal

pub returns-clause-fits : goal.returns-clause-fits
returns-clause-fits c = switch_fits

pub returns-clause-exact : goal.returns-clause-exact
returns-clause-exact c = switch_exact

pub returns-clause-cut : goal.returns-clause-cut
returns-clause-cut c = switch_cut
