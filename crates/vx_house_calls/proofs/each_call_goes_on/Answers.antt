use Rattle.vx_house_calls.proofs.Moments.{each_call_on}
use Rattle.vx_house_calls.proofs.each_call_goes_on.Goals as goal

pub returns : goal.returns
returns g c = each_call_on g.P.Piece.seen c.args.house.now c.args.old.now c.args.new.now
