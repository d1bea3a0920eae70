use Rattle.std.proofs.Common.{rules, ◌≡◌, true, sym, subst}
use Rattle.std.specs.List.{list_all}
use Rattle.std.specs.List.Sorted.{IsPermutation, IsNonDecreasingBy}
use Rattle.std.proofs.lemmas.List.Sorted.{IsNonDecreasingBy-from_sort_by_key}
use Rattle.vx_rules.specs.declared.piece.Piece.{Piece}
use Rattle.vx_rules.specs.Pieces.{pieces, is_filled}
use Rattle.vx_rules.proofs.Indices.{indexed_by}
use Rattle.vx_rules.proofs.pieces.columns_of.Goals as goal

pub returns : goal.returns
returns c =
    let moved : IsPermutation (pieces c.args.all.now) c.deref-2.result.now =
    subst (λ l. IsPermutation (pieces c.args.all.now) l) (sym c.deref-2.ensures.value) (subst (λ l. IsPermutation l c.sort_by_key.new.self.items) c.in_ok-pieces.ensures c.in_ok-sort_by_key.ensures.permutation)
    in
    let filled : list_all is_filled (pieces c.args.all.now) ≡ true = cc (c.in_ok-pieces.ensures, c.deref.ensures.value, c.all_filled.ensures, c.if-not-all_filled.false) in
    let sorted : IsNonDecreasingBy (λ (x : Piece). x.at) c.deref-2.result.now =
    subst (λ l. IsNonDecreasingBy (λ (x : Piece). x.at) l) (sym c.deref-2.ensures.value) (IsNonDecreasingBy-from_sort_by_key (λ (x : Piece). x.at) _ c.in_ok-sort_by_key.ensures.sorted (λ a r q k. search rules))
    in
    indexed_by c.args.all.now c.deref-2.result.now c.in_ok-columns.columns.map moved filled sorted c.in_ok-columns.ensures.columns c.in_ok-columns.ensures.small
