use Rattle.vx_group_edits.proofs.Marked.{marked_sound}
use Rattle.vx_group_edits.proofs.joining.each_marked_plex_stays_sound.Goals as goal

pub returns : goal.returns
returns c = marked_sound
