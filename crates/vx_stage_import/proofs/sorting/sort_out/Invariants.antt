use Rattle.std.proofs.Common.{◌≡◌, ◌++◌, ◌+◌, ◌≤◌, List, length, map, vec_capacity}
use Rattle.vx_import.specs.Looks.{looked}
use Rattle.vx_house.specs.Holders.{Holder, AreHeld}
use Rattle.vx_house.specs.Scene.{shelved}
use Rattle.vx_house.proofs.Scenes.{scene_of}
use Rattle.vx_stage_import.specs.Finds.{holders_of, beside}
use Rattle.vx_stage_import.specs.Giving.{IsBack, good_looks, disks_in, seen_disks, disk_holders}
use Rattle.vx_stage_import.proofs.sorting.sort_out.Given as goal

abbrev pub invariant-loop-one : goal.invariant-loop-one
invariant-loop-one g l = record {
  few : length l.finds.items + length l.disks.items ≤ 32;
  room : 32 ≤ vec_capacity l.disks;
  disks : disks_in (good_looks l.good (map (looked g.S.P.Piece.seen) l.initial.finds.items)) ≡ disks_in (good_looks l.good (map (looked g.S.P.Piece.seen) l.finds.items)) ++ seen_disks g.S.P.Piece.seen l.disks.items;
  goes : (others : List Holder) → AreHeld (g.S.Shelf.held l.initial.shelf) (others ++ holders_of (map (looked g.S.P.Piece.seen) l.initial.finds.items)) →
      IsBack (beside (shelved g.S.Shelf.free g.S.Shelf.held g.S.Shelf.counted g.S.Shelf.faults l.initial.shelf) others (map (looked g.S.P.Piece.seen) l.initial.finds.items))
      (scene_of (shelved g.S.Shelf.free g.S.Shelf.held g.S.Shelf.counted g.S.Shelf.faults l.shelf) (others ++ (holders_of (map (looked g.S.P.Piece.seen) l.finds.items) ++ disk_holders g.S.P.Piece.seen l.disks.items)));
}

abbrev pub decreases-loop-one : goal.decreases-loop-one
decreases-loop-one g l = length l.finds.items
