use Rattle.vx_group_volumes.proofs.Passes.{rest_goes_on}
use Rattle.vx_volume_rows.proofs.passes.rested.Goals as goal

pub returns-clause-goes : goal.returns-clause-goes
returns-clause-goes c = (rest_goes_on c.args.volume.now c.quiesce.new.volume c.quiesce.result c.quiesce.ensures.rests c.quiesce.ensures.follows).together.goes
