use Rattle.vx_yielded_volumes.proofs.Forms.{each_form_unlogged, each_form_yielded}
use Rattle.vx_yielded_volumes.proofs.each_yielded_form_is_its_own.Goals as goal

pub returns : goal.returns
returns g c = record { yielded = each_form_yielded g.P.Piece.seen c.args.running.now; unlogged = each_form_unlogged g.P.Piece.seen c.args.running.now }
