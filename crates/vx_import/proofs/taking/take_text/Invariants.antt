use Rattle.std.proofs.Common.{◌≡◌, ◌<◌, ◌^◌, length, map}
use Rattle.vx_copies.specs.Lists.{Each, AllOf}
use Rattle.vx_import.specs.Looks.{looked, IsPrivate, Reads}
use Rattle.vx_import.specs.Tries.{readable_count, IsSpent}
use Rattle.vx_import.proofs.taking.take_text.Given as goal

abbrev pub invariant-tries : goal.invariant-tries
invariant-tries g l = record {
  few : length l.found < 2 ^ 64;
  private : AllOf IsPrivate (map (looked g.P.Piece.seen) l.found);
  room : length l.buffer ≡ 522240;
  reads : Each Reads (map (looked g.P.Piece.seen) l.fn.found) (map (looked g.P.Piece.seen) l.found);
  spent : Each IsSpent (map (looked g.P.Piece.seen) l.fn.found) (map (looked g.P.Piece.seen) l.found);
}

abbrev pub decreases-tries : goal.decreases-tries
decreases-tries g l = readable_count (map (looked g.P.Piece.seen) l.found)
