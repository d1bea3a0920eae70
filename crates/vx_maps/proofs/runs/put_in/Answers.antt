use Rattle.std.proofs.Common.{rules, ap, ◌∙◌, ◌++◌, map, reverse, Some}
use Rattle.vx_cut.proofs.Parts.{turned_over}
use Rattle.vx_maps.specs.Slots.{slots_seen}
use Rattle.vx_maps.proofs.runs.put_in.Goals as goal

pub putting-init : goal.putting-init
putting-init g c = record {
  same = ap (λ xs. slots_seen g.P.LocalPiece.seen xs ++ map Some (reverse (map g.P.LocalPiece.seen c.reverse.new.self.items))) c.in-Ok.ensures.items ∙ ap (map Some) (turned_over g.P.LocalPiece.seen c.args.pieces.items c.reverse.new.self.items c.reverse.ensures.items);
  room = search rules;
  count = search rules;
}
