use Rattle.std.proofs.Common.{rules, arith, refl, sym, ap, subst, ◌∙◌, ◌≡◌, ◌∷◌, ◌++◌, [], is_some}
use Rattle.std.proofs.lemmas.List.{length-map}
use Rattle.vx_sector.specs.Fields.{zeros}
use Rattle.vx_pages.specs.Bytes.{full}
use Rattle.vx_pages.specs.Sector.{SectorSeen, Copies}
use Rattle.vx_pages.specs.Sectors.{sector_seen}
use Rattle.vx_pages.specs.Pieces.{copies_of}
use Rattle.vx_pages.specs.Page.{sectors_seen}
use Rattle.vx_maps.specs.Sheets.{sheets_seen}
use Rattle.vx_pages.specs.Page.{AreAll, ArePaired}
use Rattle.vx_pages.specs.Sector.{IsOpen}
use Rattle.vx_maps.specs.Slots.{IsTakable, MovedBoth, HasCuts, place_of}
use Rattle.vx_maps.proofs.Cuts.{cuts_empty}
use Rattle.vx_maps.proofs.Places.{takable, are_single, pieces_on, holes_on, no_holes, second_same, paired_push, all_push, seen_push, size_push, taken}
use Rattle.vx_maps.proofs.paging.fill_page.Goals as goal

pub loop-map-init : goal.loop-map-init
loop-map-init g c = record {
  count = search rules;
  room = search rules;
  pieces = c.requires.pieces;
  holes = no_holes c.args.size c.args.page (sheets_seen g.P.LocalPiece.seen c.args.sheets.now);
  second = refl;
  pair = subst (λ xs. ArePaired (is_some (sheets_seen g.P.LocalPiece.seen c.args.sheets.now).second) (sectors_seen g.P.LocalPiece.seen xs)) (sym c.in_ok-sectors.ensures.items) (λ m lt. absurd (omega (arith, lt)));
  is_open = subst (λ xs. AreAll IsOpen (sectors_seen g.P.LocalPiece.seen xs)) (sym c.in_ok-sectors.ensures.items) (λ m lt. absurd (omega (arith, lt)));
  cut = λ pages wholes e h. subst (λ xs. HasCuts c.args.size (pages ++ sectors_seen g.P.LocalPiece.seen xs ∷ []) wholes (sheets_seen g.P.LocalPiece.seen c.args.sheets.now)) (sym c.in_ok-sectors.ensures.items) (cuts_empty c.args.size pages wholes _ h);
}

pub take_both-first-requires : goal.take_both-first-requires
take_both-first-requires g c =
    subst (λ n. IsTakable n (sheets_seen g.P.LocalPiece.seen c.loop-map.sheets)) (sym c.place_of.ensures) (takable c.args.size c.args.page c.loop-map.map _ (search rules) c.loop-map.invariant.pieces)

pub open_sector-requires-clause-sectors : goal.open_sector-requires-clause-sectors
open_sector-requires-clause-sectors g c =
    are_single c.args.size c.args.page c.loop-map.map (copies_of g.P.LocalPiece.seen c.take_both-first.result.0 c.take_both-first.result.1) _ _ (search rules)
    (subst (λ n. MovedBoth n (copies_of g.P.LocalPiece.seen c.take_both-first.result.0 c.take_both-first.result.1) (sheets_seen g.P.LocalPiece.seen c.loop-map.sheets) (sheets_seen g.P.LocalPiece.seen c.take_both-first.new.sheets)) c.place_of.ensures c.take_both-first.ensures)
    c.loop-map.invariant.pieces

pub loop-map-preserved : goal.loop-map-preserved
loop-map-preserved g c =
    let none : c.in-Ok-Ok.sure.items ≡ zeros 512 = search rules in
    let all : c.in-Ok-Ok.loose.items ≡ full 512 = search rules in
    let pieces = copies_of g.P.LocalPiece.seen c.take_both-first.result.0 c.take_both-first.result.1 in
    let moved : MovedBoth (place_of c.args.size c.loop-map.map c.args.page) (copies_of g.P.LocalPiece.seen c.take_both-first.result.0 c.take_both-first.result.1) (sheets_seen g.P.LocalPiece.seen c.loop-map.sheets) (sheets_seen g.P.LocalPiece.seen c.take_both-first.new.sheets) =
    subst (λ n. MovedBoth n (copies_of g.P.LocalPiece.seen c.take_both-first.result.0 c.take_both-first.result.1) (sheets_seen g.P.LocalPiece.seen c.loop-map.sheets) (sheets_seen g.P.LocalPiece.seen c.take_both-first.new.sheets)) c.place_of.ensures c.take_both-first.ensures in
    let has : IsTakable (place_of c.args.size c.loop-map.map c.args.page) (sheets_seen g.P.LocalPiece.seen c.loop-map.sheets) = takable c.args.size c.args.page c.loop-map.map _ (search rules) c.loop-map.invariant.pieces in
    let same = second_same (place_of c.args.size c.loop-map.map c.args.page) _ _ _ moved.second in
    let push = seen_push (sector_seen g.P.LocalPiece.seen) c.push_reserved.new.self.items c.loop-map.sectors.items c.open_sector.result c.push_reserved.ensures.items in
    let size = size_push (sector_seen g.P.LocalPiece.seen) c.push_reserved.new.self.items c.loop-map.sectors.items c.open_sector.result c.push_reserved.ensures.items in
    let count = c.loop-map.invariant.count in
    let is : (sector_seen g.P.LocalPiece.seen c.open_sector.result).copies ≡ copies_of g.P.LocalPiece.seen c.take_both-first.result.0 c.take_both-first.result.1 = ap (λ (s : SectorSeen). s.copies) c.open_sector.ensures in
    record {
      count = omega (arith, size, count);
      room = search rules;
      pieces = pieces_on c.args.size c.args.page c.loop-map.map pieces _ _ c.requires.page moved c.loop-map.invariant.pieces;
      holes = holes_on c.args.size c.args.page c.loop-map.map pieces _ _ c.requires.page has moved c.loop-map.invariant.holes;
      second = same.0 ∙ c.loop-map.invariant.second;
      pair = subst (ArePaired (is_some (sheets_seen g.P.LocalPiece.seen c.args.sheets.now).second)) (sym push)
          (paired_push _ (sectors_seen g.P.LocalPiece.seen c.loop-map.sectors.items) (sector_seen g.P.LocalPiece.seen c.open_sector.result) c.loop-map.invariant.pair (ap (λ (k : Copies). is_some k.second) is ∙ same.1 ∙ c.loop-map.invariant.second));
      is_open = subst (AreAll IsOpen) (sym push)
          (all_push IsOpen (sectors_seen g.P.LocalPiece.seen c.loop-map.sectors.items) (sector_seen g.P.LocalPiece.seen c.open_sector.result) c.loop-map.invariant.is_open
          (subst IsOpen (sym c.open_sector.ensures) (none, all)));
      cut = λ pages wholes e h.
          taken c.args.size c.args.page c.loop-map.map (place_of c.args.size c.loop-map.map c.args.page) pages (sectors_seen g.P.LocalPiece.seen c.loop-map.sectors.items) _ (sector_seen g.P.LocalPiece.seen c.open_sector.result) (sheets_seen g.P.LocalPiece.seen c.loop-map.sheets) _ wholes push refl
          (sym (length-map c.loop-map.sectors.items (sector_seen g.P.LocalPiece.seen) ∙ count)) e c.requires.page
          (subst (λ (k : Copies). MovedBoth (place_of c.args.size c.loop-map.map c.args.page) k (sheets_seen g.P.LocalPiece.seen c.loop-map.sheets) (sheets_seen g.P.LocalPiece.seen c.take_both-first.new.sheets)) (sym is) moved) (c.loop-map.invariant.cut pages wholes e h);
    }
