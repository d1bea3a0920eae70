use Rattle.vx_joined_volumes.proofs.PartNamed.{each_owner_kept, each_parting_named}
use Rattle.vx_joined_volumes.proofs.each_parted_volume_is_named.Goals as goal

pub returns : goal.returns
returns g c = record { names = each_parting_named g.P.Piece.seen c.args.running.now; owners = each_owner_kept g.P.Piece.seen c.args.running.now }
