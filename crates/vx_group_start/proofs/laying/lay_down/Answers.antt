-- The volumes that could not be put back come first, then those that run, then what is left.
use Rattle.std.proofs.Common.{subst, sym}
use Rattle.vx_carve.proofs.Same.{same_trans}
use Rattle.vx_group_start.specs.Laying.{AreRunningVolumes}
use Rattle.vx_group_start.proofs.Laid.{still_moved}
use Rattle.vx_group_start.proofs.laying.lay_down.Goals as goal

pub close_running-requires-clause-volumes : goal.close_running-requires-clause-volumes
close_running-requires-clause-volumes g c κs within = subst (λ m. AreRunningVolumes g.P.Piece.seen m.entries) (sym c.close_stuck.ensures.running) c.requires.volumes

pub returns-in_err-close_stuck-clause-volumes : goal.returns-in_err-close_stuck-clause-volumes
returns-in_err-close_stuck-clause-volumes g c = subst (λ m. AreRunningVolumes g.P.Piece.seen m.entries) (sym c.close_stuck.ensures.running) c.requires.volumes

pub returns-in_err-close_running-clause-together : goal.returns-in_err-close_running-clause-together
returns-in_err-close_running-clause-together g c = same_trans _ _ _ c.close_stuck.ensures.together c.close_running.ensures.together

pub returns-clause-together : goal.returns-clause-together
returns-clause-together g c =
    same_trans _ _ _ c.close_stuck.ensures.together
    (same_trans _ _ _ c.close_running.ensures.together (still_moved c.close_running.new.public c.gather.new.public c.gather.ensures.running c.gather.ensures.stuck c.gather.ensures.still))
