-- A plex like the lowest one can be asked for.
use Rattle.vx_group_edits.proofs.Each.{can_be_asked}
use Rattle.vx_group_edits.proofs.mirrors.each_mirror_can_be_asked_for.Goals as goal

pub returns : goal.returns
returns c = can_be_asked
