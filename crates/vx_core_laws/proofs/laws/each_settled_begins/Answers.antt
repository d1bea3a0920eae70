use Rattle.vx_core_laws.proofs.Beginnings.{settled_begins}
use Rattle.vx_core_laws.proofs.laws.each_settled_begins.Goals as goal

pub returns : goal.returns
returns c = settled_begins
