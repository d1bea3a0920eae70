use Rattle.vx_volume_laws.proofs.Losses.{each_pair_stands}
use Rattle.vx_volume_laws.proofs.each_pair_stands.Goals as goal

pub returns : goal.returns
returns c = each_pair_stands
