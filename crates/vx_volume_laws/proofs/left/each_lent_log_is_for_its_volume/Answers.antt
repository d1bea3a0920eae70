use Rattle.vx_volume_laws.proofs.LeftLogs.{fresh_for, loaded_for}
use Rattle.vx_volume_laws.proofs.left.each_lent_log_is_for_its_volume.Goals as goal

pub returns-clause-loaded : goal.returns-clause-loaded
returns-clause-loaded g c geometry old is = loaded_for geometry old c.args.log.now is

pub returns-clause-fresh : goal.returns-clause-fresh
returns-clause-fresh g c geometry mask old is = fresh_for geometry mask old c.args.log.now is
