use Rattle.std.proofs.Common.{◌≡◌, ◌+◌, ◌≤◌, ◌++◌, map, reverse, vec_len, vec_capacity}
use Rattle.vx_maps.specs.Slots.{AreFull, pieces_in, slots_seen}
use Rattle.vx_maps.proofs.runs.take_out.Given as goal

abbrev pub invariant-taking : goal.invariant-taking
invariant-taking g l = record {
  same : map g.P.LocalPiece.seen l.pieces.items ++ pieces_in (slots_seen g.P.LocalPiece.seen (reverse l.left.items)) ≡ pieces_in (slots_seen g.P.LocalPiece.seen l.fn.slots.items);
  full : AreFull (slots_seen g.P.LocalPiece.seen (reverse l.left.items));
  room : vec_len l.pieces + vec_len l.left ≤ vec_capacity l.pieces;
}

abbrev pub decreases-taking : goal.decreases-taking
decreases-taking g l = vec_len l.left
