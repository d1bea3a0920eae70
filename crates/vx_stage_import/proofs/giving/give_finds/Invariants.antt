use Rattle.std.proofs.Common.{◌++◌, List, length, map}
use Rattle.vx_import.specs.Looks.{looked}
use Rattle.vx_house.specs.Holders.{Holder, AreHeld}
use Rattle.vx_house.specs.Scene.{shelved}
use Rattle.vx_stage_import.specs.Finds.{holders_of, beside}
use Rattle.vx_stage_import.specs.Giving.{IsBack}
use Rattle.vx_stage_import.proofs.giving.give_finds.Given as goal

abbrev pub invariant-loop-one : goal.invariant-loop-one
invariant-loop-one g l = (others : List Holder) → AreHeld (g.S.Shelf.held l.initial.shelf) (others ++ holders_of (map (looked g.S.P.Piece.seen) l.initial.finds.items)) →
    IsBack (beside (shelved g.S.Shelf.free g.S.Shelf.held g.S.Shelf.counted g.S.Shelf.faults l.initial.shelf) others (map (looked g.S.P.Piece.seen) l.initial.finds.items))
    (beside (shelved g.S.Shelf.free g.S.Shelf.held g.S.Shelf.counted g.S.Shelf.faults l.shelf) others (map (looked g.S.P.Piece.seen) l.finds.items))

abbrev pub decreases-loop-one : goal.decreases-loop-one
decreases-loop-one g l = length l.finds.items
