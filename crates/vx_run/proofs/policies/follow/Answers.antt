use Rattle.std.proofs.Common.{◌≡◌, Some, rules}
use Rattle.vx_run.proofs.FollowStage.{reads_by}
use Rattle.vx_run.proofs.policies.follow.Goals as goal

pub returns-in-Some : goal.returns-in-Some
returns-in-Some g c =
    let has : c.args.house.now.group ≡ Some c.in-Some.group = search rules in
    reads_by g.P.Piece.seen c.in-Policy.vol c.args.house.now c.in-Some.group c.follow_in.new.group has c.follow_in.ensures
