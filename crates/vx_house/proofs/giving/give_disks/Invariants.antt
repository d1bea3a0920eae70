use Rattle.std.proofs.Common.{map, length}
use Rattle.vx_copies.specs.Lists.{AllOf}
use Rattle.vx_house.specs.Closing.{GivesBack}
use Rattle.vx_house.specs.Holders.{AreApart, IsTakenFrom, disk_holder}
use Rattle.vx_house.specs.Scene.{Shelved, shelved}
use Rattle.vx_house.proofs.giving.give_disks.Given as goal

-- once those that are left are back, all are
abbrev pub invariant-loop-disk : goal.invariant-loop-disk
invariant-loop-disk g l = record {
  each : AllOf (IsTakenFrom (g.S.Shelf.held l.shelf)) (map (disk_holder g.S.P.Piece.seen) l.disks.items);
  apart : AreApart (map (disk_holder g.S.P.Piece.seen) l.disks.items);
  back : (k : Shelved) → GivesBack (map (disk_holder g.S.P.Piece.seen) l.disks.items) (shelved g.S.Shelf.free g.S.Shelf.held g.S.Shelf.counted g.S.Shelf.faults l.shelf) k → GivesBack (map (disk_holder g.S.P.Piece.seen) l.initial.disks.items) (shelved g.S.Shelf.free g.S.Shelf.held g.S.Shelf.counted g.S.Shelf.faults l.initial.shelf) k;
}

abbrev pub decreases-loop-disk : goal.decreases-loop-disk
decreases-loop-disk g l = length l.disks.items
