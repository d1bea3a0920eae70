use Rattle.vx_volume_laws.proofs.Losses.{each_loss_stands}
use Rattle.vx_volume_laws.proofs.each_loss_stands.Goals as goal

pub returns : goal.returns
returns c = each_loss_stands
