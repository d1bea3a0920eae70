use Rattle.std.proofs.Common.{rules, arith, sym, ap, subst, ◌∙◌, ◌≡◌, ◌<◌, ◌/◌, ◌∷◌, ◌++◌, [], ℕ, Bool, length, is_some, List}
use Rattle.std.proofs.lemmas.List.{length-map, length-append, map_push}
use Rattle.vx_mapfmt.specs.Sizes.{page_count}
use Rattle.vx_mapfmt.proofs.SizeLemmas.{page_fits}
use Rattle.vx_pages.specs.Sector.{SectorSeen}
use Rattle.vx_pages.specs.Sectors.{sector_seen}
use Rattle.vx_pages.specs.Page.{sectors_seen}
use Rattle.vx_pages.specs.Pages.{grid_seen}
use Rattle.vx_maps.specs.Sheets.{sheets_seen}
use Rattle.vx_pages.specs.Page.{ArePaired}
use Rattle.vx_maps.specs.Slots.{HasCuts, HasHoles, row_at, wholes_of}
use Rattle.vx_maps.proofs.Fills.{cuts_of, holed_of, holes_there, row_push, row_front}
use Rattle.vx_maps.proofs.cutting.drain_pages.Goals as goal

pub drain_page-requires-clause-holes : goal.drain_page-requires-clause-holes
drain_page-requires-clause-holes g c =
    let items : c.draining.left.items ≡ c.pop.new.self.items ++ c.in-Some.page ∷ [] = search rules in
    let m : c.len.result ≡ length c.pop.new.self.items = search rules in
    let push : grid_seen g.P.LocalPiece.seen c.draining.left.items ≡ grid_seen g.P.LocalPiece.seen c.pop.new.self.items ++ sectors_seen g.P.LocalPiece.seen c.in-Some.page.sectors.items ∷ [] =
    ap (grid_seen g.P.LocalPiece.seen) items ∙ map_push (λ page. sectors_seen g.P.LocalPiece.seen page.sectors.items) c.pop.new.self.items c.in-Some.page in
    let long = length-map c.pop.new.self.items (λ page. sectors_seen g.P.LocalPiece.seen page.sectors.items) in
    let size = ap (λ xs. length xs) items ∙ length-append c.pop.new.self.items (c.in-Some.page ∷ []) in
    let few = c.draining.invariant.few in
    let lt : c.len.result < page_count c.args.shape.now.regions = omega (arith, m, size, few) in
    let row : row_at (grid_seen g.P.LocalPiece.seen c.draining.left.items) c.len.result ≡ sectors_seen g.P.LocalPiece.seen c.in-Some.page.sectors.items =
    ap (row_at (grid_seen g.P.LocalPiece.seen c.draining.left.items)) (m ∙ sym long) ∙ ap (λ (xs : List (List SectorSeen)). row_at xs (length (grid_seen g.P.LocalPiece.seen c.pop.new.self.items))) push ∙ row_push (grid_seen g.P.LocalPiece.seen c.pop.new.self.items) (sectors_seen g.P.LocalPiece.seen c.in-Some.page.sectors.items) in
    subst (λ (n : ℕ). HasHoles (c.args.shape.now.map_bytes / 512) c.len.result n (sheets_seen g.P.LocalPiece.seen c.draining.sheets)) (sym c.into_sectors.ensures.maps)
    (holes_there (c.args.shape.now.map_bytes / 512) c.len.result (grid_seen g.P.LocalPiece.seen c.draining.left.items) _ c.draining.invariant.holed
    (ap (λ (xs : List SectorSeen). length xs) row ∙ length-map c.in-Some.page.sectors.items (sector_seen g.P.LocalPiece.seen) ∙ c.in-Some.page.maps)
    (page_fits c.args.shape.now.regions c.args.shape.now.map_bytes c.len.result c.args.shape.now.map_sized lt))

pub drain_page-requires-clause-pair : goal.drain_page-requires-clause-pair
drain_page-requires-clause-pair g c =
    let items : c.draining.left.items ≡ c.pop.new.self.items ++ c.in-Some.page ∷ [] = search rules in
    let push : grid_seen g.P.LocalPiece.seen c.draining.left.items ≡ grid_seen g.P.LocalPiece.seen c.pop.new.self.items ++ sectors_seen g.P.LocalPiece.seen c.in-Some.page.sectors.items ∷ [] =
    ap (grid_seen g.P.LocalPiece.seen) items ∙ map_push (λ page. sectors_seen g.P.LocalPiece.seen page.sectors.items) c.pop.new.self.items c.in-Some.page in
    let size = ap (λ (xs : List (List SectorSeen)). length xs) push ∙ length-append (grid_seen g.P.LocalPiece.seen c.pop.new.self.items) (sectors_seen g.P.LocalPiece.seen c.in-Some.page.sectors.items ∷ []) in
    let row : row_at (grid_seen g.P.LocalPiece.seen c.draining.left.items) (length (grid_seen g.P.LocalPiece.seen c.pop.new.self.items)) ≡ sectors_seen g.P.LocalPiece.seen c.in-Some.page.sectors.items =
    ap (λ (xs : List (List SectorSeen)). row_at xs (length (grid_seen g.P.LocalPiece.seen c.pop.new.self.items))) push ∙ row_push (grid_seen g.P.LocalPiece.seen c.pop.new.self.items) (sectors_seen g.P.LocalPiece.seen c.in-Some.page.sectors.items) in
    subst (λ xs. ArePaired (is_some (sheets_seen g.P.LocalPiece.seen c.draining.sheets).second) (sectors_seen g.P.LocalPiece.seen xs)) (sym c.into_sectors.ensures.same)
    (subst (ArePaired (is_some (sheets_seen g.P.LocalPiece.seen c.draining.sheets).second)) row (c.draining.invariant.pairs (length (grid_seen g.P.LocalPiece.seen c.pop.new.self.items)) (omega (arith, size))))

pub draining-preserved : goal.draining-preserved
draining-preserved g c =
    let items : c.draining.left.items ≡ c.pop.new.self.items ++ c.in-Some.page ∷ [] = search rules in
    let m : c.len.result ≡ length c.pop.new.self.items = search rules in
    let push : grid_seen g.P.LocalPiece.seen c.draining.left.items ≡ grid_seen g.P.LocalPiece.seen c.pop.new.self.items ++ sectors_seen g.P.LocalPiece.seen c.into_sectors.result.items ∷ [] =
    ap (grid_seen g.P.LocalPiece.seen) items ∙ map_push (λ page. sectors_seen g.P.LocalPiece.seen page.sectors.items) c.pop.new.self.items c.in-Some.page
    ∙ ap (λ xs. grid_seen g.P.LocalPiece.seen c.pop.new.self.items ++ sectors_seen g.P.LocalPiece.seen xs ∷ []) (sym c.into_sectors.ensures.same) in
    let long = length-map c.pop.new.self.items (λ page. sectors_seen g.P.LocalPiece.seen page.sectors.items) ∙ sym m in
    let size = ap (λ xs. length xs) items ∙ length-append c.pop.new.self.items (c.in-Some.page ∷ []) in
    let sizes = ap (λ (xs : List (List SectorSeen)). length xs) push ∙ length-append (grid_seen g.P.LocalPiece.seen c.pop.new.self.items) (sectors_seen g.P.LocalPiece.seen c.into_sectors.result.items ∷ []) in
    let few = c.draining.invariant.few in
    record {
      few = omega (arith, size, few);
      holed = holed_of _ (grid_seen g.P.LocalPiece.seen c.pop.new.self.items) (wholes_of (c.args.shape.now.map_bytes / 512) (grid_seen g.P.LocalPiece.seen c.draining.left.items) (sheets_seen g.P.LocalPiece.seen c.draining.sheets)) _
          (c.drain_page.ensures.cut (grid_seen g.P.LocalPiece.seen c.pop.new.self.items) _ long
          (subst (λ (xs : List (List SectorSeen)). HasCuts (c.args.shape.now.map_bytes / 512) xs (wholes_of (c.args.shape.now.map_bytes / 512) (grid_seen g.P.LocalPiece.seen c.draining.left.items) (sheets_seen g.P.LocalPiece.seen c.draining.sheets)) (sheets_seen g.P.LocalPiece.seen c.draining.sheets)) push
          (cuts_of _ (grid_seen g.P.LocalPiece.seen c.draining.left.items) (sheets_seen g.P.LocalPiece.seen c.draining.sheets) c.draining.invariant.holed)));
      pairs = λ i lt. subst (λ (b : Bool). ArePaired b (row_at (grid_seen g.P.LocalPiece.seen c.pop.new.self.items) i)) (sym c.drain_page.ensures.second)
          (subst (ArePaired (is_some (sheets_seen g.P.LocalPiece.seen c.draining.sheets).second)) (ap (λ (xs : List (List SectorSeen)). row_at xs i) push ∙ row_front _ _ i lt) (c.draining.invariant.pairs i (omega (arith, sizes, lt))));
      cut = λ wholes h. c.drain_page.ensures.cut (grid_seen g.P.LocalPiece.seen c.pop.new.self.items) wholes long
          (subst (λ (xs : List (List SectorSeen)). HasCuts (c.args.shape.now.map_bytes / 512) xs wholes (sheets_seen g.P.LocalPiece.seen c.draining.sheets)) push (c.draining.invariant.cut wholes h));
    }
