use Rattle.vx_space.proofs.Sectors.{takes_the_first}
use Rattle.vx_space.proofs.laws.each_takes_the_first.Goals as goal

pub returns : goal.returns
returns c = takes_the_first
