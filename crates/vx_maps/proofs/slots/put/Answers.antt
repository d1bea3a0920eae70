use Rattle.std.proofs.Common.{Some, refl}
use Rattle.vx_maps.proofs.Moves.{moved_in}
use Rattle.vx_maps.proofs.slots.put.Goals as goal

pub returns : goal.returns
returns g c = moved_in g.P.LocalPiece.seen c.args.slots.now.items c.args.at c.index_mut.result.now (Some c.args.piece) c.args.piece c.requires.inside c.index_mut.ensures.value c.requires.hole refl
