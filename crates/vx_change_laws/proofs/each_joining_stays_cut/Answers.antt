-- Regions are cut where they are dead when a plex joins.
use Rattle.vx_change_laws.proofs.Places.{joining_cut}
use Rattle.vx_change_laws.proofs.each_joining_stays_cut.Goals as goal

pub returns : goal.returns
returns c = joining_cut
