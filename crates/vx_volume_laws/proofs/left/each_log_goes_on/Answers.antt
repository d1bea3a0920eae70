use Rattle.vx_volume_laws.proofs.LeftLogs.{log_goes}
use Rattle.vx_volume_laws.proofs.left.each_log_goes_on.Goals as goal

pub returns-clause-copies : goal.returns-clause-copies
returns-clause-copies g c goes = (log_goes c.args.old.now c.args.new.now goes).0

pub returns-clause-shape : goal.returns-clause-shape
returns-clause-shape g c goes geometry fits = (log_goes c.args.old.now c.args.new.now goes).1 geometry fits
