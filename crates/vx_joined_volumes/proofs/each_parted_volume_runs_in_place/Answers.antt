use Rattle.vx_joined_volumes.proofs.PartRuns.{each_volume_parted}
use Rattle.vx_joined_volumes.proofs.each_parted_volume_runs_in_place.Goals as goal

pub returns : goal.returns
returns g c = each_volume_parted g.P.Piece.seen c.args.running.now c.args.later.now
