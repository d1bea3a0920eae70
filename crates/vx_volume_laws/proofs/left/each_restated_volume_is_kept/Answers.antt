use Rattle.vx_volume_laws.proofs.Restated.{restated_kept}
use Rattle.vx_volume_laws.proofs.left.each_restated_volume_is_kept.Goals as goal

pub returns : goal.returns
returns c = restated_kept
