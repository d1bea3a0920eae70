use Rattle.std.proofs.Common.{◌≡◌, ◌-◌, ◌≤◌, length, map, take, drop}
use Rattle.vx_copies.specs.Lists.{Each, AllOf}
use Rattle.vx_import.specs.Looks.{looked, HasReading}
use Rattle.vx_import.specs.Toggles.{Passes}
use Rattle.vx_import.proofs.toggles.read_toggles.Given as goal

abbrev pub invariant-devices : goal.invariant-devices
invariant-devices g l = record {
  most : l.i ≤ length l.found;
  size : length l.sector ≡ 512;
  passes : Each Passes (map (looked g.P.Piece.seen) l.fn.found) (map (looked g.P.Piece.seen) l.found);
  rest : drop l.i (map (looked g.P.Piece.seen) l.found) ≡ drop l.i (map (looked g.P.Piece.seen) l.fn.found);
  done : AllOf HasReading (map (looked g.P.Piece.seen) (take l.i l.found));
}

abbrev pub decreases-devices : goal.decreases-devices
decreases-devices g l = length l.found - l.i
