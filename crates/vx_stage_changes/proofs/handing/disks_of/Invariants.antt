use Rattle.std.proofs.Common.{◌≡◌, ◌≤◌, ◌+◌, ◌++◌, length, drop, vec_capacity}
use Rattle.std.specs.Vec.Iter.{into_iter_items, into_iter_len}
use Rattle.vx_stage_changes.specs.Creating.{disks_from}
use Rattle.vx_stage_changes.proofs.handing.disks_of.Given as goal

-- the disks so far, and those that the devices left become
abbrev pub invariant-loop-taken : goal.invariant-loop-taken
invariant-loop-taken g l = record {
  items : l.disks.items ++ disks_from g.P.Piece.seen (length l.disks.items) (into_iter_items l.taken-iterator) (drop (length l.disks.items) l.pairs) ≡ disks_from g.P.Piece.seen 0 (into_iter_items l.initial.taken-iterator) l.pairs;
  len : into_iter_len l.taken-iterator ≡ length (into_iter_items l.taken-iterator);
  long : length l.disks.items + length (into_iter_items l.taken-iterator) ≡ length l.pairs;
  room : length l.pairs ≤ vec_capacity l.disks;
}
