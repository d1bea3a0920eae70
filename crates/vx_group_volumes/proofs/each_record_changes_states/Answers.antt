use Rattle.vx_group_volumes.proofs.Recorded.{start_changes, stop_changes}
use Rattle.vx_group_volumes.proofs.each_record_changes_states.Goals as goal

pub returns-clause-started : goal.returns-clause-started
returns-clause-started c = start_changes c.each_change_restates.ensures.start c.each_change_restates.ensures.recorded

pub returns-clause-stopped : goal.returns-clause-stopped
returns-clause-stopped c = stop_changes c.each_change_restates.ensures.stop c.each_change_restates.ensures.recorded
