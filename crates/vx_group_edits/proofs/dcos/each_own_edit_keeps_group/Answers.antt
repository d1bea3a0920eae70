-- The group stays.
use Rattle.vx_group_edits.proofs.DcoEdits.{own_group}
use Rattle.vx_group_edits.proofs.dcos.each_own_edit_keeps_group.Goals as goal

pub returns : goal.returns
returns c = own_group
