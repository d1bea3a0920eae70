use Rattle.std.proofs.Common.{◌≤◌, ◌-◌, map}
use Rattle.vx_import.specs.Looks.{looked}
use Rattle.vx_import.specs.Naming.{AllThere}
use Rattle.vx_import.proofs.naming.first_missing.Given as goal

abbrev pub invariant-slots : goal.invariant-slots
invariant-slots g l = record {
  most : l.slot ≤ 32;
  there : AllThere l.slot l.mask (map (looked g.P.Piece.seen) l.found);
}

abbrev pub decreases-slots : goal.decreases-slots
decreases-slots g l = 32 - l.slot
