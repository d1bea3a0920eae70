use Rattle.std.proofs.Common.{◌≡◌, map, length}
use Rattle.vx_copies.specs.Lists.{AllOf}
use Rattle.vx_house.specs.Closing.{GivesBack}
use Rattle.vx_house.specs.Holders.{AreApart, IsTakenFrom, hand_holder}
use Rattle.vx_house.specs.Scene.{Shelved, shelved}
use Rattle.vx_house.proofs.giving.give_hand.Given as goal

-- once those that are left are back, all are
abbrev pub invariant-loop-taken : goal.invariant-loop-taken
invariant-loop-taken g l = record {
  each : AllOf (IsTakenFrom (g.S.Shelf.held l.shelf)) (map (hand_holder g.S.P.Piece.seen) l.house.hand.items);
  apart : AreApart (map (hand_holder g.S.P.Piece.seen) l.house.hand.items);
  back : (k : Shelved) → GivesBack (map (hand_holder g.S.P.Piece.seen) l.house.hand.items) (shelved g.S.Shelf.free g.S.Shelf.held g.S.Shelf.counted g.S.Shelf.faults l.shelf) k → GivesBack (map (hand_holder g.S.P.Piece.seen) l.initial.house.hand.items) (shelved g.S.Shelf.free g.S.Shelf.held g.S.Shelf.counted g.S.Shelf.faults l.initial.shelf) k;
  volumes : l.house.volumes ≡ l.initial.house.volumes;
  group : l.house.group ≡ l.initial.house.group;
}

abbrev pub decreases-loop-taken : goal.decreases-loop-taken
decreases-loop-taken g l = length l.house.hand.items
