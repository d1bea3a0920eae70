use Rattle.vx_cell.proofs.Stands.{other_stands}
use Rattle.vx_cell.proofs.laws.each_other_stands.Goals as goal

pub returns : goal.returns
returns c = other_stands
