use Rattle.vx_run.proofs.FollowStage.{stage_follows}
use Rattle.vx_run.proofs.policies.change_and_follow.Goals as goal

pub returns-in-Ok : goal.returns-in-Ok
returns-in-Ok g c = record {
  goes = λ disks shelf ready held. stage_follows g.P.Piece.seen c.args.edit.now disks shelf c.args.house.now c.change.new.house c.follow.new.house c.follow.ensures (c.in-Ok.ensures.goes disks shelf ready held);
}
