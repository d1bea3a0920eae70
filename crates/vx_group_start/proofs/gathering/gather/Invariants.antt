-- What is left and the pool are together what there was.
use Rattle.std.proofs.Common.{◌≡◌, vec_len}
use Rattle.vx_carve.specs.Together.{SameSectors}
use Rattle.vx_lending.specs.Public.{still_pieces}
use Rattle.vx_group_start.proofs.gathering.gather.Given as goal

abbrev pub invariant-left : goal.invariant-left
invariant-left g l = record {
  same : SameSectors (still_pieces g.P.Piece.seen l.fn.public) (still_pieces g.P.Piece.seen l.public);
  running : l.public.running ≡ l.fn.public.running;
  stuck : l.public.stuck ≡ l.fn.public.stuck;
}

abbrev pub decreases-left : goal.decreases-left
decreases-left g l = vec_len l.public.left
