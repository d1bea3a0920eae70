use Rattle.std.proofs.Common.{arith, sym, ap, ◌∙◌, ◌/◌}
use Rattle.std.proofs.lemmas.List.{length-map}
use Rattle.vx_pages.specs.Page.{sectors_seen}
use Rattle.vx_mapfmt.proofs.SizeLemmas.{page_fits}
use Rattle.vx_pages.specs.Pages.{grid_seen, page_seen}
use Rattle.vx_maps.specs.Store.{pages_cut, pages_seen}
use Rattle.vx_maps.specs.Creating.{copies_cut}
use Rattle.vx_maps.specs.Cutness.{sheets_cut}
use Rattle.vx_maps.proofs.Beginnings.{or_either}
use Rattle.vx_maps.proofs.Cells.{sheets_shown, grid_shown, find_page}
use Rattle.vx_maps.specs.Sheets.{sheets_seen}
use Rattle.vx_maps.proofs.StoreChanges.{size_seen}
use Rattle.vx_maps.proofs.Rows.{rows_of, pairs_of, laid_holed}
use Rattle.vx_maps.proofs.store.MapStore.into_copies_in.Goals as goal

pub join_whole-requires-clause-holed : goal.join_whole-requires-clause-holed
join_whole-requires-clause-holed g c =
    let size = length-map c.args.self.pages.items (λ page. sectors_seen g.P.LocalPiece.seen page.sectors.items) in
    laid_holed _ _ _ (sheets_seen g.P.LocalPiece.seen c.args.self.base.sheets) c.args.self.base.laid (λ i lt. rows_of c.args.self.pages.items i (omega (arith, size, lt)))
    (length-map c.args.self.pages.items (λ page. sectors_seen g.P.LocalPiece.seen page.sectors.items) ∙ sym (size_seen (page_seen g.P.LocalPiece.seen) c.args.self.pages.items) ∙ c.args.self.paged.count)

pub join_whole-requires-clause-pairs : goal.join_whole-requires-clause-pairs
join_whole-requires-clause-pairs g c = pairs_of c.args.self.pages.items (sheets_seen g.P.LocalPiece.seen c.args.self.base.sheets) c.args.self.copied

pub returns-clause-cut : goal.returns-clause-cut
returns-clause-cut g c h =
    let size = length-map c.args.self.pages.items (λ page. sectors_seen g.P.LocalPiece.seen page.sectors.items) in
    let count = size ∙ sym (size_seen (page_seen g.P.LocalPiece.seen) c.args.self.pages.items) ∙ c.args.self.paged.count in
    let holed = laid_holed _ _ _ (sheets_seen g.P.LocalPiece.seen c.args.self.base.sheets) c.args.self.base.laid (λ i lt. rows_of c.args.self.pages.items i (omega (arith, size, lt))) count in
    ap copies_cut c.join_whole.ensures.copies
    ∙ or_either (sheets_cut (sheets_seen g.P.LocalPiece.seen c.args.self.base.sheets)) (pages_cut (pages_seen g.P.LocalPiece.seen c.args.self.pages.items)) _
    (λ e. sheets_shown (c.args.self.base.shape.map_bytes / 512) (grid_seen g.P.LocalPiece.seen c.args.self.pages.items) (sheets_seen g.P.LocalPiece.seen c.args.self.base.sheets) e)
    (λ e. grid_shown (c.args.self.base.shape.map_bytes / 512) (grid_seen g.P.LocalPiece.seen c.args.self.pages.items) (sheets_seen g.P.LocalPiece.seen c.args.self.base.sheets) holed
    (λ i lt. rows_of c.args.self.pages.items i (omega (arith, size, lt)))
    (λ i lt. page_fits c.args.self.base.shape.regions c.args.self.base.shape.map_bytes i c.args.self.base.shape.map_sized (omega (arith, count, lt)))
    (pairs_of c.args.self.pages.items (sheets_seen g.P.LocalPiece.seen c.args.self.base.sheets) c.args.self.copied)
    (find_page c.args.self.pages.items e)) h
