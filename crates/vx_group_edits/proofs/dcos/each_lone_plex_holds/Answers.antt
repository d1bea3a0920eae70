-- The one plex holds what it held.
use Rattle.vx_group_edits.proofs.LoneImages.{lone_plex_holds}
use Rattle.vx_group_edits.proofs.dcos.each_lone_plex_holds.Goals as goal

pub returns : goal.returns
returns c = lone_plex_holds
