use Rattle.std.proofs.Common.{rules, arith, sym, ap, subst, ◌∙◌, ◌≡◌, ◌/◌, ◌∷◌, ◌++◌, [], length, is_some, List, Bool}
use Rattle.std.proofs.lemmas.List.{length-map, map_push}
use Rattle.vx_marks.specs.Log.{LogSeen}
use Rattle.vx_mapfmt.proofs.SizeLemmas.{page_fits}
use Rattle.vx_pages.specs.Sector.{SectorSeen}
use Rattle.vx_pages.specs.Sectors.{sector_seen}
use Rattle.vx_pages.specs.Page.{sectors_seen}
use Rattle.vx_pages.specs.Pages.{grid_seen, page_seen}
use Rattle.vx_maps.specs.Store.{AreLogsOf, pages_seen}
use Rattle.vx_maps.specs.Sheets.{sheets_seen}
use Rattle.vx_pages.specs.Sector.{IsOpen}
use Rattle.vx_maps.specs.Slots.{HasCuts, wholes_of}
use Rattle.vx_maps.proofs.Fills.{ready, cuts_of, all_holed, logs_push}
use Rattle.vx_maps.proofs.cutting.fill_pages.Goals as goal

pub fill_page-requires-clause-pieces : goal.fill_page-requires-clause-pieces
fill_page-requires-clause-pieces g c =
    let fits = page_fits c.args.shape.now.regions c.args.shape.now.map_bytes c.loop-index.index c.args.shape.now.map_sized (search rules) in
    ready (c.args.shape.now.map_bytes / 512) c.loop-index.index (grid_seen g.P.LocalPiece.seen c.loop-index.pages.items) (sheets_seen g.P.LocalPiece.seen c.args.sheets.now) (sheets_seen g.P.LocalPiece.seen c.loop-index.sheets) c.requires.whole
    (c.loop-index.invariant.cut (wholes_of (c.args.shape.now.map_bytes / 512) [] (sheets_seen g.P.LocalPiece.seen c.args.sheets.now)) (cuts_of _ [] _ (all_holed _ _ c.requires.whole)))
    (length-map c.loop-index.pages.items _ ∙ c.loop-index.invariant.count) fits

pub returns-in_err-sectors-clause-cut : goal.returns-in_err-sectors-clause-cut
returns-in_err-sectors-clause-cut g c wholes h =
    c.in_err-sectors.ensures.kept (grid_seen g.P.LocalPiece.seen c.loop-index.pages.items) wholes (length-map c.loop-index.pages.items _ ∙ c.loop-index.invariant.count) (c.loop-index.invariant.cut wholes h)

pub of-requires-clause-paired : goal.of-requires-clause-paired
of-requires-clause-paired g c m lt =
    let some : length (sectors_seen g.P.LocalPiece.seen c.in_ok-sectors.sectors.items) ≡ 32 = length-map c.in_ok-sectors.sectors.items _ ∙ c.in_ok-sectors.ensures.count in
    c.in_ok-sectors.ensures.pair m lt ∙ sym (c.in_ok-sectors.ensures.pair 0 (omega (arith, some)))

pub loop-index-preserved : goal.loop-index-preserved
loop-index-preserved g c =
    let count = c.loop-index.invariant.count in
    let long = length-map c.loop-index.pages.items (λ page. sectors_seen g.P.LocalPiece.seen page.sectors.items) ∙ count in
    let push : grid_seen g.P.LocalPiece.seen c.push_reserved.new.self.items ≡ grid_seen g.P.LocalPiece.seen c.loop-index.pages.items ++ sectors_seen g.P.LocalPiece.seen c.in_ok-sectors.sectors.items ∷ [] =
    ap (grid_seen g.P.LocalPiece.seen) c.push_reserved.ensures.items ∙ map_push (λ page. sectors_seen g.P.LocalPiece.seen page.sectors.items) c.loop-index.pages.items c.of.result
    ∙ ap (λ xs. grid_seen g.P.LocalPiece.seen c.loop-index.pages.items ++ sectors_seen g.P.LocalPiece.seen xs ∷ []) c.of.ensures.sectors in
    let logs : pages_seen g.P.LocalPiece.seen c.push_reserved.new.self.items ≡ pages_seen g.P.LocalPiece.seen c.loop-index.pages.items ++ page_seen g.P.LocalPiece.seen c.of.result ∷ [] =
    ap (pages_seen g.P.LocalPiece.seen) c.push_reserved.ensures.items ∙ map_push (page_seen g.P.LocalPiece.seen) c.loop-index.pages.items c.of.result in
    let second = c.fill_page.ensures.second in
    record {
      count = search rules;
      room = search rules;
      second = second ∙ c.loop-index.invariant.second;
      logs = subst (λ (b : Bool). AreLogsOf c.args.shape.now.regions b IsOpen (grid_seen g.P.LocalPiece.seen c.push_reserved.new.self.items) (pages_seen g.P.LocalPiece.seen c.push_reserved.new.self.items)) (sym second)
          (subst (λ (xs : List LogSeen). AreLogsOf c.args.shape.now.regions (is_some (sheets_seen g.P.LocalPiece.seen c.loop-index.sheets).second) IsOpen (grid_seen g.P.LocalPiece.seen c.push_reserved.new.self.items) xs) (sym logs)
          (subst (λ (xs : List (List SectorSeen)). AreLogsOf c.args.shape.now.regions (is_some (sheets_seen g.P.LocalPiece.seen c.loop-index.sheets).second) IsOpen xs (pages_seen g.P.LocalPiece.seen c.loop-index.pages.items ++ page_seen g.P.LocalPiece.seen c.of.result ∷ [])) (sym push)
          (logs_push c.args.shape.now.regions c.loop-index.index _ IsOpen _ _ (sectors_seen g.P.LocalPiece.seen c.in_ok-sectors.sectors.items) (page_seen g.P.LocalPiece.seen c.of.result) c.loop-index.invariant.logs (sym long) c.of.ensures.log
          (length-map c.in_ok-sectors.sectors.items (sector_seen g.P.LocalPiece.seen) ∙ c.in_ok-sectors.ensures.count) c.in_ok-sectors.ensures.pair c.in_ok-sectors.ensures.open)));
      cut = λ wholes h. subst (λ (xs : List (List SectorSeen)). HasCuts (c.args.shape.now.map_bytes / 512) xs wholes (sheets_seen g.P.LocalPiece.seen c.fill_page.new.sheets)) (sym push)
          (c.in_ok-sectors.ensures.cut (grid_seen g.P.LocalPiece.seen c.loop-index.pages.items) wholes long (c.loop-index.invariant.cut wholes h));
    }
