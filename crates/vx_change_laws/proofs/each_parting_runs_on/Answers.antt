-- A volume runs on when a plex has left it.
use Rattle.vx_change_laws.proofs.Partings.{parting_runs}
use Rattle.vx_change_laws.proofs.each_parting_runs_on.Goals as goal

pub returns : goal.returns
returns c = parting_runs c.each_plex_may_leave.ensures.stands c.each_plex_may_leave.ensures.told
