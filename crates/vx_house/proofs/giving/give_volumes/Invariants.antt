use Rattle.std.proofs.Common.{◌≡◌, map, length}
use Rattle.vx_copies.specs.Lists.{AllOf}
use Rattle.vx_house.specs.Closing.{GivesBack}
use Rattle.vx_house.specs.Holders.{AreApart, IsTakenFrom, volume_holder}
use Rattle.vx_house.specs.Scene.{Shelved, shelved}
use Rattle.vx_house.proofs.giving.give_volumes.Given as goal

-- once those that are left are back, all are
abbrev pub invariant-loop-started : goal.invariant-loop-started
invariant-loop-started g l = record {
  each : AllOf (IsTakenFrom (g.S.Shelf.held l.shelf)) (map (volume_holder g.S.P.Piece.seen) l.house.volumes.entries);
  apart : AreApart (map (volume_holder g.S.P.Piece.seen) l.house.volumes.entries);
  back : (k : Shelved) → GivesBack (map (volume_holder g.S.P.Piece.seen) l.house.volumes.entries) (shelved g.S.Shelf.free g.S.Shelf.held g.S.Shelf.counted g.S.Shelf.faults l.shelf) k → GivesBack (map (volume_holder g.S.P.Piece.seen) l.initial.house.volumes.entries) (shelved g.S.Shelf.free g.S.Shelf.held g.S.Shelf.counted g.S.Shelf.faults l.initial.shelf) k;
  hand : l.house.hand ≡ l.initial.house.hand;
  group : l.house.group ≡ l.initial.house.group;
}

abbrev pub decreases-loop-started : goal.decreases-loop-started
decreases-loop-started g l = length l.house.volumes.entries
