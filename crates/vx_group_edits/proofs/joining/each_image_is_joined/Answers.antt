use Rattle.vx_group_edits.proofs.Joined.{image_joined}
use Rattle.vx_group_edits.proofs.joining.each_image_is_joined.Goals as goal

pub returns : goal.returns
returns c = image_joined
