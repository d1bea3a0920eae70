use Rattle.std.proofs.Common.{◌+◌, ◌≤◌, ◌++◌, map, reverse, vec_len, vec_capacity}
use Rattle.std.specs.List.{All}
use Rattle.vx_cut.specs.Same.{HasSome, IsSingle, SameRun, work}
use Rattle.vx_cut.proofs.cut.cut_run.Given as goal

abbrev pub invariant-cutting : goal.invariant-cutting
invariant-cutting g l = record {
  same : SameRun (map g.P.Piece.seen l.fn.pieces.items) (map g.P.Piece.seen l.singles.items ++ reverse (map g.P.Piece.seen l.left.items));
  some : All HasSome (map g.P.Piece.seen l.left.items);
  singles : All IsSingle (map g.P.Piece.seen l.singles.items);
  few : vec_len l.singles ≤ l.sectors;
  room : l.sectors ≤ vec_capacity l.singles;
  back : vec_len l.left + vec_len l.singles ≤ vec_capacity l.left;
}

abbrev pub decreases-cutting : goal.decreases-cutting
decreases-cutting g l = work (map g.P.Piece.seen l.left.items)
