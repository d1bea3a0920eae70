use Rattle.vx_volume_laws.proofs.Startings.{each_opening_runs}
use Rattle.vx_volume_laws.proofs.lives.each_opening_runs.Goals as goal

pub returns : goal.returns
returns c = each_opening_runs c.each_opening_is_fresh.ensures
