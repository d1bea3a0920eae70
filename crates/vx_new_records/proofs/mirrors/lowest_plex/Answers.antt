use Rattle.std.proofs.Common.{rules}
use Rattle.vx_new_records.proofs.Lowest.{one_more}
use Rattle.vx_new_records.proofs.mirrors.lowest_plex.Goals as goal

pub loop-object-preserved : goal.loop-object-preserved
loop-object-preserved c =
    one_more c.args.vol.now c.args.group.now c.loop-object.object-index c.object-item.result c.loop-object.found _ _ (search rules) c.object-item.is (search rules) c.loop-object.invariant
