use Rattle.vx_volume_laws.proofs.Starts.{each_settled_volume_begins}
use Rattle.vx_volume_laws.proofs.each_settled_volume_begins.Goals as goal

pub returns : goal.returns
returns c = each_settled_volume_begins
