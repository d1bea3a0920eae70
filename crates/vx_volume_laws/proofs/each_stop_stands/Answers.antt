use Rattle.vx_volume_laws.proofs.Losses.{each_stop_stands}
use Rattle.vx_volume_laws.proofs.each_stop_stands.Goals as goal

pub returns : goal.returns
returns c = each_stop_stands
