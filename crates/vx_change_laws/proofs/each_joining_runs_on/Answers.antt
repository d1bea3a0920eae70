-- A volume runs on when a plex joins.
use Rattle.vx_change_laws.proofs.Joinings.{joining_runs}
use Rattle.vx_change_laws.proofs.each_joining_runs_on.Goals as goal

pub returns : goal.returns
returns c = joining_runs c.each_putting_stands.ensures.stands c.each_putting_stands.ensures.told
