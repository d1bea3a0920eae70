use Rattle.vx_group_edits.proofs.OfVolume.{plex_keeps_others}
use Rattle.vx_group_edits.proofs.edits.each_plex_keeps_others.Goals as goal

pub returns : goal.returns
returns c = plex_keeps_others
