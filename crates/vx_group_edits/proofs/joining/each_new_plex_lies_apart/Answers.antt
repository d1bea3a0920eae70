use Rattle.vx_group_edits.proofs.Joined.{new_apart}
use Rattle.vx_group_edits.proofs.joining.each_new_plex_lies_apart.Goals as goal

pub returns : goal.returns
returns c = new_apart c.plexes_lie_apart.ensures
