-- A change that nobody sees.
use Rattle.vx_house_calls.proofs.Unseen.{unseen_stays}
use Rattle.vx_house_calls.proofs.each_unseen_change_stays.Goals as goal

pub returns : goal.returns
returns g c = unseen_stays g.P.Piece.seen c.args.house.now c.args.old.now c.args.new.now
