-- What stays of a volume that a plex has left.
use Rattle.vx_change_laws.proofs.Partings.{parting_cut, parting_exact, parting_fits}
use Rattle.vx_change_laws.proofs.each_parting_keeps.Goals as goal

pub returns-clause-fits : goal.returns-clause-fits
returns-clause-fits c = parting_fits

pub returns-clause-exact : goal.returns-clause-exact
returns-clause-exact c = parting_exact

pub returns-clause-cut : goal.returns-clause-cut
returns-clause-cut c = parting_cut
