use Rattle.vx_volume_laws.proofs.Starts.{each_empty_begins}
use Rattle.vx_volume_laws.proofs.each_empty_begins.Goals as goal

pub returns : goal.returns
returns c = each_empty_begins
