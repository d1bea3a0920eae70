use Rattle.std.proofs.Common.{sym, subst}
use Rattle.vx_house.specs.Leaves.{IsStuck}
use Rattle.vx_house.specs.Scene.{shelved}
use Rattle.vx_house.specs.View.{at}
use Rattle.vx_house.proofs.Leaves.{hand_given, both_given, left_group, left_all, stays_both, stuck_so}
use Rattle.vx_house.proofs.Results.{on_err, on_ok, on_errs}
use Rattle.vx_house.proofs.leaving.leave.Goals as goal

pub give_group-requires-clause-held : goal.give_group-requires-clause-held
give_group-requires-clause-held g c κs within = (hand_given g.S.P.Piece.seen _ _ _ _ c.requires.held c.give_hand.ensures.gives).devices

pub give_group-requires-in-Lost-clause-held : goal.give_group-requires-in-Lost-clause-held
give_group-requires-in-Lost-clause-held g c κs within = (hand_given g.S.P.Piece.seen _ _ _ _ c.requires.held c.give_hand.ensures.gives).devices

pub returns-in-GroupLost-clause-left : goal.returns-in-GroupLost-clause-left
returns-in-GroupLost-clause-left g c = rw c.in-GroupLost.is (on_ok c.give_group.result (λ gives. left_group g.S.P.Piece.seen _ _ _ _ _ _ c.requires.held c.give_hand.ensures.gives gives (c.each_house_stands.ensures _)) c.give_group.ensures.gives)

pub returns-in-GroupLost-clause-stuck : goal.returns-in-GroupLost-clause-stuck
returns-in-GroupLost-clause-stuck g c =
    on_errs c.give_group.result
    (λ keeps same. subst (λ sh. IsStuck g.S.P.Piece.seen (at (shelved g.S.Shelf.free g.S.Shelf.held g.S.Shelf.counted g.S.Shelf.faults c.args.shelf.now) c.args.house.now) (at (shelved g.S.Shelf.free g.S.Shelf.held g.S.Shelf.counted g.S.Shelf.faults sh) c.give_group.new.house)) (sym same)
    (stuck_so g.S.P.Piece.seen _ _ _ _ _ c.requires.held c.give_hand.ensures.gives keeps))
    c.give_group.ensures.kept c.give_group.ensures.shelf

pub give_volumes-requires-clause-held : goal.give_volumes-requires-clause-held
give_volumes-requires-clause-held g c κs within = (both_given g.S.P.Piece.seen _ _ _ _ _ _ c.requires.held c.give_hand.ensures.gives c.in_ok-give_group-in-Lost.ensures.gives).devices

pub returns-in_err-give_group-in-Lost-clause-stuck : goal.returns-in_err-give_group-in-Lost-clause-stuck
returns-in_err-give_group-in-Lost-clause-stuck g c =
    on_err c.from_residual.result
    (subst (λ sh. IsStuck g.S.P.Piece.seen (at (shelved g.S.Shelf.free g.S.Shelf.held g.S.Shelf.counted g.S.Shelf.faults c.args.shelf.now) c.args.house.now) (at (shelved g.S.Shelf.free g.S.Shelf.held g.S.Shelf.counted g.S.Shelf.faults sh) c.give_group-in-Lost.new.house)) (sym c.in_err-give_group-in-Lost.ensures.shelf)
    (stuck_so g.S.P.Piece.seen _ _ _ _ _ c.requires.held c.give_hand.ensures.gives c.in_err-give_group-in-Lost.ensures.kept))

pub returns-in_ok-give_group-in-Lost-clause-left : goal.returns-in_ok-give_group-in-Lost-clause-left
returns-in_ok-give_group-in-Lost-clause-left g c = rw c.in-Lost.is (left_all g.S.P.Piece.seen _ _ _ _ _ _ c.requires.held c.give_hand.ensures.gives c.in_ok-give_group-in-Lost.ensures.gives _ _ c.give_volumes.ensures.gives c.in-Lost.parts (c.each_house_stands.ensures _))

pub returns-in_default : goal.returns-in_default
returns-in_default g c = record {
  stuck = tt;
  left = record {
    later = hand_given g.S.P.Piece.seen _ _ _ _ c.requires.held c.give_hand.ensures.gives;
    stays = stays_both c.args.end.now _ _ c.in_default.not-GroupLost c.in_default.not-Lost (record { volumes = c.give_hand.ensures.gives.volumes; group = c.give_hand.ensures.gives.group });
    stands = c.each_house_stands.ensures _;
  };
}
