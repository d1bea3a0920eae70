use Rattle.vx_volume_laws.proofs.Recoveries.{each_loss_is_recovered}
use Rattle.vx_volume_laws.proofs.each_loss_is_recovered.Goals as goal

pub returns : goal.returns
returns c = each_loss_is_recovered
