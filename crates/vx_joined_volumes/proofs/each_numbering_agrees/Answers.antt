use Rattle.vx_joined_volumes.proofs.Numbers.{numbering_agrees}
use Rattle.vx_joined_volumes.proofs.each_numbering_agrees.Goals as goal

pub returns : goal.returns
returns g c = numbering_agrees g.P.Piece.seen c.args.running.now
