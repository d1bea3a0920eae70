-- The volumes that run still are volumes, there is a place for one that comes back, and all pieces are together what there was.
use Rattle.std.proofs.Common.{◌≡◌, ◌<◌, length, vec_len}
use Rattle.std.specs.Prelude.{vec_capacity}
use Rattle.vx_carve.specs.Together.{SameSectors}
use Rattle.vx_group_start.specs.Laying.{AreRunningVolumes, AreStuckVolumes, public_pieces}
use Rattle.vx_group_start.proofs.laying.close_running.Given as goal

abbrev pub invariant-running : goal.invariant-running
invariant-running g l = record {
  together : SameSectors (public_pieces g.P.Piece.seen l.fn.public) (public_pieces g.P.Piece.seen l.public);
  volumes : AreRunningVolumes g.P.Piece.seen l.public.running.entries;
  stuck : AreStuckVolumes g.P.Piece.seen l.public.stuck.items;
  place : vec_len l.public.stuck < vec_capacity l.public.stuck;
  same : l.public.stuck.items ≡ l.fn.public.stuck.items;
}

abbrev pub decreases-running : goal.decreases-running
decreases-running g l = length l.public.running.entries
