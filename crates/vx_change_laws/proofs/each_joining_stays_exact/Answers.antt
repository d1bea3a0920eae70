-- A log stays exact when a plex joins.
use Rattle.vx_change_laws.proofs.Exactness.{joining_exact}
use Rattle.vx_change_laws.proofs.each_joining_stays_exact.Goals as goal

pub returns : goal.returns
returns c = joining_exact
