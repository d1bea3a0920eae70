use Rattle.vx_group_edits.proofs.Restated.{start_keeps, stop_keeps}
use Rattle.vx_group_edits.proofs.edits.each_record_keeps.Goals as goal

pub returns-clause-started : goal.returns-clause-started
returns-clause-started c = start_keeps c.each_change_restates.ensures.start

pub returns-clause-stopped : goal.returns-clause-stopped
returns-clause-stopped c = stop_keeps c.each_change_restates.ensures.stop
