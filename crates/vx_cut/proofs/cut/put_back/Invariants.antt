use Rattle.std.proofs.Common.{◌≡◌, ◌+◌, ◌≤◌, ◌++◌, map, reverse, vec_len, vec_capacity}
use Rattle.vx_cut.proofs.cut.put_back.Given as goal

abbrev pub invariant-back : goal.invariant-back
invariant-back g l = record {
  same : map g.P.Piece.seen l.singles.items ++ reverse (map g.P.Piece.seen l.left.items) ≡ map g.P.Piece.seen l.fn.singles.items ++ reverse (map g.P.Piece.seen l.fn.left.items);
  room : vec_len l.left + vec_len l.singles ≤ vec_capacity l.left;
}

abbrev pub decreases-back : goal.decreases-back
decreases-back g l = vec_len l.singles
