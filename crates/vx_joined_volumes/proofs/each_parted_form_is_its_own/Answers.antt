use Rattle.vx_joined_volumes.proofs.PartForms.{each_form_parted}
use Rattle.vx_joined_volumes.proofs.each_parted_form_is_its_own.Goals as goal

pub returns : goal.returns
returns g c = each_form_parted g.P.Piece.seen c.args.running.now
