use Rattle.vx_group_volumes.proofs.Passes.{copies_go_on}
use Rattle.vx_volume_rows.proofs.passes.copied.Goals as goal

pub returns-clause-goes : goal.returns-clause-goes
returns-clause-goes c = (copies_go_on c.args.volume.now c.copy_all.new.volume c.args.mask c.copy_all.result c.copy_all.ensures.copied c.copy_all.ensures.follows).together.goes
