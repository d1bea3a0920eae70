use Rattle.std.proofs.Common.{◌≡◌, ◌+◌, ◌≤◌, ◌++◌, map, reverse, vec_len, vec_capacity, Some}
use Rattle.vx_maps.specs.Slots.{slots_seen}
use Rattle.vx_maps.proofs.runs.put_in.Given as goal

abbrev pub invariant-putting : goal.invariant-putting
invariant-putting g l = record {
  same : slots_seen g.P.LocalPiece.seen l.slots.items ++ map Some (reverse (map g.P.LocalPiece.seen l.left.items)) ≡ map Some (map g.P.LocalPiece.seen l.fn.pieces.items);
  room : vec_len l.slots + vec_len l.left ≤ vec_capacity l.slots;
  count : vec_len l.slots + vec_len l.left ≤ vec_capacity l.left;
}

abbrev pub decreases-putting : goal.decreases-putting
decreases-putting g l = vec_len l.left
