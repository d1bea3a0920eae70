use Rattle.vx_run.proofs.FollowStage.{may_read}
use Rattle.vx_run.proofs.policies.follow_in.Goals as goal

pub returns-in-Some : goal.returns-in-Some
returns-in-Some g c = may_read g.P.Piece.seen c.args.vol.now c.args.group.now c.read_by.new.running c.read_by.ensures
