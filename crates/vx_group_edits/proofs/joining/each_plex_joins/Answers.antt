use Rattle.vx_group_edits.proofs.Joined.{plex_joins}
use Rattle.vx_group_edits.proofs.joining.each_plex_joins.Goals as goal

pub returns : goal.returns
returns c = plex_joins
