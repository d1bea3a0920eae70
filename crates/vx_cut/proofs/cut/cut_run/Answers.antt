use Rattle.std.proofs.Common.{rules, arith, ap, ◌∙◌, ◌≡◌, ◌<◌, map, reverse, vec_len, ◌++◌}
use Rattle.std.proofs.lemmas.List.{length-map, map-append}
use Rattle.vx_cut.specs.Same.{HasSome}
use Rattle.vx_cut.proofs.Same.{same_is, same_trans}
use Rattle.vx_cut.proofs.Parts.{turned_back, turned_over, all_turned, some_more}
use Rattle.vx_cut.proofs.cut.cut_run.Goals as goal

pub cutting-init : goal.cutting-init
cutting-init g c = record {
  same = same_is _ _ (ap (λ xs. map g.P.Piece.seen xs ++ reverse (map g.P.Piece.seen c.reverse.new.self.items)) c.in-Ok.ensures.items ∙ turned_over g.P.Piece.seen c.args.pieces.items c.reverse.new.self.items c.reverse.ensures.items);
  some = all_turned g.P.Piece.seen HasSome c.args.pieces.items c.reverse.new.self.items c.reverse.ensures.items c.requires.some;
  singles = search rules;
  few = search rules;
  room = search rules;
  back = search rules;
}

pub cut_next-requires-clause-more : goal.cut_next-requires-clause-more
cut_next-requires-clause-more g c κs within =
    let n = length-map c.cutting.left.items g.P.Piece.seen in
    let m = length-map c.cutting.singles.items g.P.Piece.seen in
    let lt : vec_len c.cutting.singles < c.args.sectors = search rules in
    let i = c.cutting.invariant in
    let a = c.cutting.left.ok.0 in
    let b = c.cutting.singles.ok.0 in
    let some = some_more (map g.P.Piece.seen c.args.pieces.items) (map g.P.Piece.seen c.cutting.singles.items) (map g.P.Piece.seen c.cutting.left.items) c.args.sectors i.same i.singles c.requires.inside (omega (arith, m, b, lt)) in
    omega (arith, n, a, some)

pub returns-then-is_err-clause-kept : goal.returns-then-is_err-clause-kept
returns-then-is_err-clause-kept g c = same_trans _ _ _ c.cutting.invariant.same (same_trans _ _ _ c.cut_next.ensures.same (same_is _ _ c.put_back.ensures))

pub returns-clause-same : goal.returns-clause-same
returns-clause-same g c =
    let it : c.append.new.self.items ≡ c.cutting.singles.items ++ c.reverse-2.new.self.items = search rules in
    same_trans _ _ _ c.cutting.invariant.same
    (same_is _ _ (ap (map g.P.Piece.seen) it ∙ map-append g.P.Piece.seen c.cutting.singles.items c.reverse-2.new.self.items ∙ ap (λ xs. map g.P.Piece.seen c.cutting.singles.items ++ xs) (turned_back g.P.Piece.seen c.cutting.left.items c.reverse-2.new.self.items c.reverse-2.ensures.items)))
