use Rattle.std.proofs.Common.{ap, map, refl}
use Rattle.std.specs.Global.{Vec}
use Rattle.vx_plex_pieces.proofs.parking.leave.Goals as goal

pub returns-clause-parked : goal.returns-clause-parked
returns-clause-parked g c = record {
  last = _;
  left = c.push_reserved.ensures.items;
  regions_are = refl;
  without = ap (map (λ (copy : Vec _). map g.P.Piece.seen copy.items)) c.new.ensures.items;
}
