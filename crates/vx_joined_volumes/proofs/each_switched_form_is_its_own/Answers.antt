use Rattle.vx_joined_volumes.proofs.SwitchForms.{each_form_switched}
use Rattle.vx_joined_volumes.proofs.each_switched_form_is_its_own.Goals as goal

pub returns : goal.returns
returns g c = each_form_switched g.P.Piece.seen c.args.running.now
