use Rattle.vx_volume_laws.proofs.Forms.{each_form_is_kept}
use Rattle.vx_volume_laws.proofs.left.each_form_is_kept.Goals as goal

pub returns : goal.returns
returns c = each_form_is_kept
