-- The volume is put back, or kept as it was.
use Rattle.std.proofs.Common.{◌∙◌, ◌∷◌, [], ◌++◌, ap, sym, subst}
use Rattle.vx_confdb.proofs.Additions.{all_last}
use Rattle.vx_volume.specs.Volume.{IsVolume, volume_seen}
use Rattle.vx_lending.specs.Left.{held_pieces}
use Rattle.vx_group_start.specs.Laying.{AreStuckVolumes}
use Rattle.vx_group_start.proofs.Laid.{still_volume, volume_kept, volume_put}
use Rattle.vx_group_start.proofs.laying.close_or_keep.Goals as goal

pub returns-in-Err-clause-together : goal.returns-in-Err-clause-together
returns-in-Err-clause-together g c =
    volume_kept c.args.public.now c.close_volume.new.public c.close_volume.ensures.running c.close_volume.ensures.stuck c.push_reserved.new.self.items c.args.running c.in-Err.running c.in-Err.ensures.back c.push_reserved.ensures.items c.in-Err.ensures.kept

pub returns-in-Err-clause-stuck : goal.returns-in-Err-clause-stuck
returns-in-Err-clause-stuck g c =
    subst (AreStuckVolumes g.P.Piece.seen) (sym (c.push_reserved.ensures.items ∙ ap (λ s. s.items ++ c.in-Err.running ∷ []) c.close_volume.ensures.stuck))
    (all_last (λ r. IsVolume (volume_seen g.P.Piece.seen r.volume)) c.args.public.now.stuck.items c.in-Err.running c.requires.stuck (still_volume c.args.running c.in-Err.running c.in-Err.ensures.back c.requires.whole))

pub returns-clause-together : goal.returns-clause-together
returns-clause-together g c = volume_put c.args.public.now c.close_volume.new.public c.close_volume.ensures.running c.close_volume.ensures.stuck (held_pieces g.P.Piece.seen c.args.running.volume) c.in_default.ensures.put
