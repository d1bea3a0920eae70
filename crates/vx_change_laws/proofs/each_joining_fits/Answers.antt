-- Owners fit when a plex joins.
use Rattle.vx_change_laws.proofs.Joinings.{joining_fits}
use Rattle.vx_change_laws.proofs.each_joining_fits.Goals as goal

pub returns : goal.returns
returns c = joining_fits
