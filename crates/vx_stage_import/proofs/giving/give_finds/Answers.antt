use Rattle.vx_house.specs.Scene.{shelved}
use Rattle.vx_stage_import.proofs.Returns.{find_taken, find_back, back_then, back_refl}
use Rattle.vx_stage_import.proofs.giving.give_finds.Goals as goal

pub give_found-requires-clause-whole : goal.give_found-requires-clause-whole
give_found-requires-clause-whole g c κs within =
    (find_taken g.S.P.Piece.seen c.loop-one.finds.items c.pop.new.self.items c.in-Some.one (rw c.in-Some.is at c.pop.ensures.items) c.requires.held.0 (g.S.Shelf.held c.loop-one.shelf) (c.loop-one.invariant c.requires.held.0 c.requires.held.1).held).0

pub give_found-requires-clause-out : goal.give_found-requires-clause-out
give_found-requires-clause-out g c κs within =
    (find_taken g.S.P.Piece.seen c.loop-one.finds.items c.pop.new.self.items c.in-Some.one (rw c.in-Some.is at c.pop.ensures.items) c.requires.held.0 (g.S.Shelf.held c.loop-one.shelf) (c.loop-one.invariant c.requires.held.0 c.requires.held.1).held).1

pub loop-one-init : goal.loop-one-init
loop-one-init g c = λ others are. back_refl _ are

pub loop-one-preserved : goal.loop-one-preserved
loop-one-preserved g c = λ others are.
    back_then _ _ _ (c.loop-one.invariant others are)
    (find_back g.S.P.Piece.seen c.loop-one.finds.items c.pop.new.self.items c.in-Some.one (rw c.in-Some.is at c.pop.ensures.items) others
    (shelved g.S.Shelf.free g.S.Shelf.held g.S.Shelf.counted g.S.Shelf.faults c.loop-one.shelf) (shelved g.S.Shelf.free g.S.Shelf.held g.S.Shelf.counted g.S.Shelf.faults c.give_found.new.shelf)
    c.give_found.ensures (c.loop-one.invariant others are).held)
