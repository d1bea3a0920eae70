-- The volumes that are not put back yet are volumes, and all pieces are together what there was.
use Rattle.std.proofs.Common.{◌≡◌, vec_len}
use Rattle.vx_carve.specs.Together.{SameSectors}
use Rattle.vx_group_start.specs.Laying.{AreStuckVolumes, public_pieces}
use Rattle.vx_group_start.proofs.laying.close_stuck.Given as goal

abbrev pub invariant-stuck : goal.invariant-stuck
invariant-stuck g l = record {
  together : SameSectors (public_pieces g.P.Piece.seen l.fn.public) (public_pieces g.P.Piece.seen l.public);
  volumes : AreStuckVolumes g.P.Piece.seen l.public.stuck.items;
  running : l.public.running ≡ l.fn.public.running;
}

abbrev pub decreases-stuck : goal.decreases-stuck
decreases-stuck g l = vec_len l.public.stuck
