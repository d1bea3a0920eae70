use Rattle.std.proofs.Common.{refl}
use Rattle.vx_lending.specs.Left.{held_pieces}
use Rattle.vx_stage_volumes.proofs.Laid.{volume_kept, volume_put}
use Rattle.vx_stage_volumes.proofs.laying.put_back.Goals as goal

pub returns-in-Err-clause-together : goal.returns-in-Err-clause-together
returns-in-Err-clause-together g c =
    volume_kept g.P.Piece.seen c.args.public.now c.close_volume.new.public c.close_volume.ensures.running c.close_volume.ensures.stuck (record c.close_volume.new.public { stuck = c.push_reserved.new.self })
    c.args.running c.in-Err.running c.in-Err.ensures.back refl refl c.push_reserved.ensures.items c.in-Err.ensures.kept

pub returns-in_default-clause-together : goal.returns-in_default-clause-together
returns-in_default-clause-together g c =
    volume_put g.P.Piece.seen c.args.public.now c.close_volume.new.public c.close_volume.ensures.running c.close_volume.ensures.stuck (held_pieces g.P.Piece.seen c.args.running.volume) c.in_default.ensures.put
