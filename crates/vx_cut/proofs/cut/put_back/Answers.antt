use Rattle.std.proofs.Common.{rules, ◌≡◌, [], ap, ◌∙◌, sym, map, reverse, ◌++◌}
use Rattle.vx_cut.proofs.Parts.{turned_back}
use Rattle.vx_cut.proofs.cut.put_back.Goals as goal

pub returns : goal.returns
returns g c =
    let empty : c.back.singles.items ≡ [] = search rules in
    turned_back g.P.Piece.seen c.back.left.items c.reverse.new.self.items c.reverse.ensures.items
    ∙ sym (ap (λ xs. map g.P.Piece.seen xs ++ reverse (map g.P.Piece.seen c.back.left.items)) empty) ∙ c.back.invariant.same
