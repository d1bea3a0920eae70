use Rattle.vx_volume_laws.proofs.Openings.{each_opening_is_fresh}
use Rattle.vx_volume_laws.proofs.each_opening_is_fresh.Goals as goal

pub returns : goal.returns
returns c = each_opening_is_fresh
