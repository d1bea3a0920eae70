use Rattle.vx_joined_volumes.proofs.RelogForms.{each_form_relogged}
use Rattle.vx_joined_volumes.proofs.each_relogged_form_is_its_own.Goals as goal

pub returns : goal.returns
returns g c = each_form_relogged g.P.Piece.seen c.args.running.now
