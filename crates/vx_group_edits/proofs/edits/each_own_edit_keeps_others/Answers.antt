use Rattle.vx_group_edits.proofs.OfVolume.{own_edit_keeps_others}
use Rattle.vx_group_edits.proofs.edits.each_own_edit_keeps_others.Goals as goal

pub returns : goal.returns
returns c = own_edit_keeps_others
