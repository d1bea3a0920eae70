use Rattle.vx_joined_volumes.proofs.Forms.{each_form_joined}
use Rattle.vx_joined_volumes.proofs.each_joined_form_is_its_own.Goals as goal

pub returns : goal.returns
returns g c = each_form_joined g.P.Piece.seen c.args.running.now
