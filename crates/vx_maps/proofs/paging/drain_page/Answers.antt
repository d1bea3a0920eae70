use Rattle.std.proofs.Common.{rules, arith, refl, sym, ap, subst, ◌∙◌, ◌≡◌, ℕ, ◌∷◌, ◌++◌, [], length, is_some}
use Rattle.std.proofs.lemmas.List.{length-map}
use Rattle.vx_pages.specs.Sector.{Copies}
use Rattle.vx_pages.specs.Sectors.{sector_seen}
use Rattle.vx_pages.specs.Page.{sectors_seen}
use Rattle.vx_maps.specs.Sheets.{sheets_seen}
use Rattle.vx_pages.specs.Page.{ArePaired}
use Rattle.vx_maps.specs.Slots.{IsPlaceable, MovedBoth, HasCuts, HasHoles, place_of}
use Rattle.vx_maps.proofs.Cuts.{cuts_full}
use Rattle.vx_maps.proofs.Places.{placeable, holes_back, second_same, paired_front, pair_is, seen_push, size_push, given}
use Rattle.vx_maps.proofs.paging.drain_page.Goals as goal

pub put_both-requires : goal.put_both-requires
put_both-requires g c =
    let items : c.draining.left.items ≡ c.pop.new.self.items ++ c.in-Some.sector ∷ [] = search rules in
    let size = size_push (sector_seen g.P.LocalPiece.seen) c.draining.left.items c.pop.new.self.items c.in-Some.sector items in
    let push = seen_push (sector_seen g.P.LocalPiece.seen) c.draining.left.items c.pop.new.self.items c.in-Some.sector items in
    let front = paired_front _ (sectors_seen g.P.LocalPiece.seen c.pop.new.self.items) (sector_seen g.P.LocalPiece.seen c.in-Some.sector) (subst (ArePaired (is_some (sheets_seen g.P.LocalPiece.seen c.args.sheets.now).second)) push c.draining.invariant.pair) in
    let m : c.len.result ≡ length c.pop.new.self.items = search rules in
    subst (λ n. IsPlaceable n (is_some c.into_pieces-first.result.1) (sheets_seen g.P.LocalPiece.seen c.draining.sheets)) (sym (c.place_of.ensures ∙ ap (λ n. place_of c.args.size n c.args.page) m))
    (placeable c.args.size c.args.page (length c.pop.new.self.items) _ (sheets_seen g.P.LocalPiece.seen c.draining.sheets) (pair_is g.P.LocalPiece.seen _ _ _ _ c.into_pieces-first.ensures front.1 ∙ sym c.draining.invariant.second)
    (subst (λ (n : ℕ). HasHoles c.args.size c.args.page n (sheets_seen g.P.LocalPiece.seen c.draining.sheets)) size c.draining.invariant.holes))

pub draining-preserved : goal.draining-preserved
draining-preserved g c =
    let items : c.draining.left.items ≡ c.pop.new.self.items ++ c.in-Some.sector ∷ [] = search rules in
    let size = size_push (sector_seen g.P.LocalPiece.seen) c.draining.left.items c.pop.new.self.items c.in-Some.sector items in
    let push = seen_push (sector_seen g.P.LocalPiece.seen) c.draining.left.items c.pop.new.self.items c.in-Some.sector items in
    let front = paired_front _ (sectors_seen g.P.LocalPiece.seen c.pop.new.self.items) (sector_seen g.P.LocalPiece.seen c.in-Some.sector) (subst (ArePaired (is_some (sheets_seen g.P.LocalPiece.seen c.args.sheets.now).second)) push c.draining.invariant.pair) in
    let m : c.len.result ≡ length c.pop.new.self.items = search rules in
    let at : c.place_of.result ≡ place_of c.args.size (length c.pop.new.self.items) c.args.page = c.place_of.ensures ∙ ap (λ n. place_of c.args.size n c.args.page) m in
    let moved : MovedBoth (place_of c.args.size (length c.pop.new.self.items) c.args.page) (sector_seen g.P.LocalPiece.seen c.in-Some.sector).copies (sheets_seen g.P.LocalPiece.seen c.put_both.new.sheets) (sheets_seen g.P.LocalPiece.seen c.draining.sheets) =
    subst (λ n. MovedBoth n (sector_seen g.P.LocalPiece.seen c.in-Some.sector).copies (sheets_seen g.P.LocalPiece.seen c.put_both.new.sheets) (sheets_seen g.P.LocalPiece.seen c.draining.sheets)) at
    (subst (λ (k : Copies). MovedBoth c.place_of.result k (sheets_seen g.P.LocalPiece.seen c.put_both.new.sheets) (sheets_seen g.P.LocalPiece.seen c.draining.sheets)) c.into_pieces-first.ensures c.put_both.ensures) in
    let few = c.draining.invariant.few in
    let same = second_same _ _ _ _ moved.second in
    record {
      few = omega (arith, size, few);
      holes = holes_back c.args.size c.args.page (length c.pop.new.self.items) _ _ _ c.requires.page moved
          (subst (λ (n : ℕ). HasHoles c.args.size c.args.page n (sheets_seen g.P.LocalPiece.seen c.draining.sheets)) size c.draining.invariant.holes);
      second = sym same.0 ∙ c.draining.invariant.second;
      pair = front.0;
      cut = λ pages wholes e h.
          given c.args.size c.args.page (length c.pop.new.self.items) (place_of c.args.size (length c.pop.new.self.items) c.args.page) pages (sectors_seen g.P.LocalPiece.seen c.pop.new.self.items) (sectors_seen g.P.LocalPiece.seen c.draining.left.items)
          (sector_seen g.P.LocalPiece.seen c.in-Some.sector) (sheets_seen g.P.LocalPiece.seen c.put_both.new.sheets) (sheets_seen g.P.LocalPiece.seen c.draining.sheets) wholes push refl (sym (length-map c.pop.new.self.items (sector_seen g.P.LocalPiece.seen))) e c.requires.page moved (c.draining.invariant.cut pages wholes e h);
    }

pub returns-clause-cut : goal.returns-clause-cut
returns-clause-cut g c pages wholes e h =
    let empty : c.draining.left.items ≡ [] = search rules in
    cuts_full c.args.size pages wholes _ (subst (λ xs. HasCuts c.args.size (pages ++ sectors_seen g.P.LocalPiece.seen xs ∷ []) wholes (sheets_seen g.P.LocalPiece.seen c.draining.sheets)) empty (c.draining.invariant.cut pages wholes e h))
