use Rattle.vx_volume_rows.proofs.Matches.{some_if, vol_is_of}
use Rattle.vx_volume_rows.proofs.matching.first_volume.Goals as goal

pub returns : goal.returns
returns c = vol_is_of c.args.config.now 0 c.index-volumes-0.result c.index-volumes-0.result (some_if _ (rw c.as_slice-volumes.ensures at c.if-is_empty.ensures)) (rw c.as_slice-volumes.ensures at c.index-volumes-0.is)
