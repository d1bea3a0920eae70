use Rattle.std.proofs.Common.{◌≡◌, [], ◌∷◌, ◌++◌, refl}
use Rattle.vx_house.specs.Holders.{hand_holder}
use Rattle.vx_house.proofs.Returns.{taken_last, apart_rest, each_rest, gives_last, hand_each, hand_apart}
use Rattle.vx_house.proofs.giving.give_hand.Goals as goal

pub loop-taken-init : goal.loop-taken-init
loop-taken-init g c = record {
  each = hand_each g.S.P.Piece.seen c.args.house.now (g.S.Shelf.held c.args.shelf.now) c.requires.held.each;
  apart = hand_apart g.S.P.Piece.seen c.args.house.now c.requires.held.apart;
  back = λ k rest. rest;
  volumes = refl;
  group = refl;
}

pub give_taken-requires-clause-whole : goal.give_taken-requires-clause-whole
give_taken-requires-clause-whole g c κs within =
    (taken_last (hand_holder g.S.P.Piece.seen) c.loop-taken.house.hand.items c.pop.new.self.items c.in-Some.taken (rw c.in-Some.is at c.pop.ensures.items) (g.S.Shelf.held c.loop-taken.shelf) c.loop-taken.invariant.each).0

pub give_taken-requires-clause-out : goal.give_taken-requires-clause-out
give_taken-requires-clause-out g c κs within =
    (taken_last (hand_holder g.S.P.Piece.seen) c.loop-taken.house.hand.items c.pop.new.self.items c.in-Some.taken (rw c.in-Some.is at c.pop.ensures.items) (g.S.Shelf.held c.loop-taken.shelf) c.loop-taken.invariant.each).1

pub loop-taken-preserved : goal.loop-taken-preserved
loop-taken-preserved g c =
    let was : c.loop-taken.house.hand.items ≡ c.pop.new.self.items ++ c.in-Some.taken ∷ [] = rw c.in-Some.is at c.pop.ensures.items in
    record {
      each = each_rest (hand_holder g.S.P.Piece.seen) c.loop-taken.house.hand.items c.pop.new.self.items c.in-Some.taken was (g.S.Shelf.held c.loop-taken.shelf) (g.S.Shelf.held c.give_taken.new.shelf) c.give_taken.ensures.given c.loop-taken.invariant.apart c.loop-taken.invariant.each;
      apart = apart_rest (hand_holder g.S.P.Piece.seen) c.loop-taken.house.hand.items c.pop.new.self.items c.in-Some.taken was c.loop-taken.invariant.apart;
      back = λ k rest. c.loop-taken.invariant.back k (gives_last (hand_holder g.S.P.Piece.seen) c.loop-taken.house.hand.items c.pop.new.self.items c.in-Some.taken was _ _ k c.give_taken.ensures.back rest);
      volumes = c.loop-taken.invariant.volumes;
      group = c.loop-taken.invariant.group;
    }
