use Rattle.std.proofs.Common.{ℕ, List, ◌-◌, ◌<◌, ◌≤◌, length, map, take, get_or, vec_capacity}
use Rattle.vx_base.specs.Named.{Word}
use Rattle.vx_import.specs.Looks.{looked}
use Rattle.vx_house.specs.Holders.{Holder, AreHeld}
use Rattle.vx_house.specs.Scene.{shelved}
use Rattle.vx_stage_import.specs.Finds.{AreFinds, AllBefore, beside}
use Rattle.vx_stage_import.specs.Gathering.{GatherGoes}
use Rattle.vx_stage_import.specs.declared.gathering.Passed.TheVariants.{Done}
use Rattle.vx_stage_import.proofs.gathering.gather.Given as goal

abbrev pub invariant-names : goal.invariant-names
invariant-names g l = record {
  most : l.i ≤ length l.names;
  finds : AreFinds g.S.P.Piece.seen l.dg (vec_capacity l.finds) l.finds.items;
  before : (j : ℕ) (d : Word) → l.i ≤ j → j < length l.names → AllBefore (map (looked g.S.P.Piece.seen) l.finds.items) (get_or l.names j d);
  goes : (others : List Holder) → AreHeld (g.S.Shelf.held l.fn.shelf) others →
      GatherGoes Done l.dg (take l.i l.names)
      (record { shelf = shelved g.S.Shelf.free g.S.Shelf.held g.S.Shelf.counted g.S.Shelf.faults l.fn.shelf; taken = others })
      (beside (shelved g.S.Shelf.free g.S.Shelf.held g.S.Shelf.counted g.S.Shelf.faults l.shelf) others (map (looked g.S.P.Piece.seen) l.finds.items))
      (map (looked g.S.P.Piece.seen) l.finds.items);
}

abbrev pub decreases-names : goal.decreases-names
decreases-names g l = length l.names - l.i
