use Rattle.vx_state_texts.proofs.Stops.{within_all}
use Rattle.vx_state_texts.proofs.each_mask_is_within_all.Goals as goal

pub returns : goal.returns
returns c = within_all
