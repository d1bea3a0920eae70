-- The other regions go on.
use Rattle.vx_volume.proofs.Histories.{other_goes}
use Rattle.vx_volume.proofs.laws.each_other_region_goes_on.Goals as goal

pub returns : goal.returns
returns c = other_goes
