use Rattle.vx_volume.specs.Log.{log_kept_on}
use Rattle.vx_group_stop.proofs.quiescing.quiesce.Goals as goal

pub returns-then-is_lost-clause-follows : goal.returns-then-is_lost-clause-follows
returns-then-is_lost-clause-follows g c = log_kept_on _ _ _ c.settle_all.ensures.follows c.clear_all.ensures.follows

pub returns-clause-follows : goal.returns-clause-follows
returns-clause-follows g c = log_kept_on _ _ _ c.settle_all.ensures.follows c.clear_all.ensures.follows
