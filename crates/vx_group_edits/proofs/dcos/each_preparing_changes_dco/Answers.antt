-- What a volume is that gets logs.
use Rattle.vx_group_edits.proofs.DcosGiven.{preparing_changes}
use Rattle.vx_group_edits.proofs.dcos.each_preparing_changes_dco.Goals as goal

pub returns : goal.returns
returns c = preparing_changes
