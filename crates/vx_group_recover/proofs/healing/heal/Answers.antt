use Rattle.vx_volume.specs.Log.{log_kept_on}
use Rattle.vx_group_recover.proofs.healing.heal.Goals as goal

pub returns-in_err-copied-clause-follows : goal.returns-in_err-copied-clause-follows
returns-in_err-copied-clause-follows g c = log_kept_on _ _ _ c.settle_all.ensures.follows c.copy_all.ensures.follows

pub returns-in_err-clear_all-clause-follows : goal.returns-in_err-clear_all-clause-follows
returns-in_err-clear_all-clause-follows g c = log_kept_on _ _ _ c.settle_all.ensures.follows (log_kept_on _ _ _ c.copy_all.ensures.follows c.clear_all.ensures.follows)

pub returns-clause-follows : goal.returns-clause-follows
returns-clause-follows g c = log_kept_on _ _ _ c.settle_all.ensures.follows (log_kept_on _ _ _ c.copy_all.ensures.follows c.clear_all.ensures.follows)
