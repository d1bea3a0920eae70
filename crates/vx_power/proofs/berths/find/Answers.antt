use Rattle.vx_power.proofs.BerthLemmas.{found_by_position}
use Rattle.vx_power.proofs.berths.find.Goals as goal

pub returns : goal.returns
returns c = found_by_position c.args.name.now c.args.berths.now c.position.result c.position.ensures
