use Rattle.vx_cell.proofs.Stands.{kill_stands}
use Rattle.vx_cell.proofs.laws.each_kill_stands.Goals as goal

pub returns : goal.returns
returns c = kill_stands
