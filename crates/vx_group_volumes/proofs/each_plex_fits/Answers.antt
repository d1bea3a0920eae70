use Rattle.vx_group_volumes.proofs.HeldDevices.{plexes_fit}
use Rattle.vx_group_volumes.proofs.each_plex_fits.Goals as goal

pub returns : goal.returns
returns g c = plexes_fit c.args.running.now
