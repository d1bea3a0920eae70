use Rattle.vx_volume_laws.proofs.LeftLogs.{log_over}
use Rattle.vx_volume_laws.proofs.left.each_log_shows_its_copies.Goals as goal

pub returns : goal.returns
returns g c geometry fits some = log_over geometry c.args.log.now fits some
