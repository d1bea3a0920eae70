-- What stays of a volume whose log gives up a copy.
use Rattle.vx_change_laws.proofs.Yieldings.{yielding_cut, yielding_exact, yielding_fits, yielding_places}
use Rattle.vx_change_laws.proofs.each_copy_given_up_keeps.Goals as goal

pub returns-clause-fits : goal.returns-clause-fits
returns-clause-fits c = yielding_fits

pub returns-clause-exact : goal.returns-clause-exact
returns-clause-exact c = yielding_exact

pub returns-clause-places : goal.returns-clause-places
returns-clause-places c = yielding_places

pub returns-clause-cut : goal.returns-clause-cut
returns-clause-cut c = yielding_cut
