use Rattle.vx_volume_laws.proofs.LeftLogs.{log_new}
use Rattle.vx_volume_laws.proofs.left.each_new_store_is_a_new_log.Goals as goal

pub returns : goal.returns
returns g c geometry mask old tell fresh = log_new geometry mask old c.args.store.now tell fresh
