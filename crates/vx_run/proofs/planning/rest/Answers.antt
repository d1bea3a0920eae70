use Rattle.vx_house.proofs.Leaves.{hand_given}
use Rattle.vx_house.specs.Scene.{shelved}
use Rattle.vx_run.proofs.planning.rest.Goals as goal

pub returns-clause-left : goal.returns-clause-left
returns-clause-left g c = record {
  later = hand_given g.S.P.Piece.seen (shelved g.S.Shelf.free g.S.Shelf.held g.S.Shelf.counted g.S.Shelf.faults c.args.shelf.now) (shelved g.S.Shelf.free g.S.Shelf.held g.S.Shelf.counted g.S.Shelf.faults c.give_hand.new.shelf) c.args.house.now c.give_hand.new.house c.requires.held c.give_hand.ensures.gives;
  stays = record { volumes = c.give_hand.ensures.gives.volumes; group = c.give_hand.ensures.gives.group };
  stands = c.each_house_stands.ensures _;
}
