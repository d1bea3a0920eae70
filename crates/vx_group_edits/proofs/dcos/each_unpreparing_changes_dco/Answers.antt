-- What a volume is that loses its logs.
use Rattle.vx_group_edits.proofs.DcosTaken.{unpreparing_changes}
use Rattle.vx_group_edits.proofs.dcos.each_unpreparing_changes_dco.Goals as goal

pub returns : goal.returns
returns c = unpreparing_changes
