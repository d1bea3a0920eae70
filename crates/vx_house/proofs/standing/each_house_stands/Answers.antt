use Rattle.vx_house.specs.View.{at}
use Rattle.vx_house.proofs.Stands.{stands_at}
use Rattle.vx_house.proofs.standing.each_house_stands.Goals as goal

pub returns : goal.returns
returns g c shelf = stands_at g.P.Piece.seen c.each_left_volume_stands.ensures.leaving c.each_piece_ends.ensures.ends c.each_piece_ends.ensures.counts (at shelf c.args.house.now)
