use Rattle.std.proofs.Common.{map, refl}
use Rattle.vx_stage_dissociation.proofs.logging.give_up_one.Goals as goal

pub returns : goal.returns
returns g c = record {
  form = record { shape = refl; maps = refl; layouts = refl; logs = c.remove.ensures.items };
  volume = record {
    yields = c.give_up_copy.ensures.yields;
    whole = c.give_up_copy.ensures.whole;
    shape = c.give_up_copy.ensures.shape;
    gone = map g.P.Piece.seen c.give_up_copy.result.items;
    parts = c.give_up_copy.ensures.parts;
  };
  pieces = refl;
}
