-- What stays of a volume whose log is made firm.
use Rattle.vx_change_laws.proofs.Switchings.{firming_cut, firming_exact, firming_fits, firming_places}
use Rattle.vx_change_laws.proofs.each_firming_keeps.Goals as goal

pub returns-clause-fits : goal.returns-clause-fits
returns-clause-fits c = firming_fits

pub returns-clause-exact : goal.returns-clause-exact
returns-clause-exact c = firming_exact

pub returns-clause-places : goal.returns-clause-places
returns-clause-places c = firming_places

pub returns-clause-cut : goal.returns-clause-cut
returns-clause-cut c = firming_cut
