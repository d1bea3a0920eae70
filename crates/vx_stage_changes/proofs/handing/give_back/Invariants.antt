use Rattle.std.proofs.Common.{◌≡◌, ◌≤◌, ◌+◌, ◌++◌, length, map, vec_capacity}
use Rattle.std.specs.Vec.Iter.{into_iter_items, into_iter_len}
use Rattle.vx_stage_changes.specs.Creating.{taken_of}
use Rattle.vx_stage_changes.proofs.handing.give_back.Given as goal

-- those in hand, and those that are left
abbrev pub invariant-loop-disk : goal.invariant-loop-disk
invariant-loop-disk g l = record {
  items : l.hand.items ++ map taken_of (into_iter_items l.disk-iterator) ≡ map taken_of (into_iter_items l.initial.disk-iterator);
  len : into_iter_len l.disk-iterator ≡ length (into_iter_items l.disk-iterator);
  room : length l.hand.items + length (into_iter_items l.disk-iterator) ≤ vec_capacity l.hand;
}
