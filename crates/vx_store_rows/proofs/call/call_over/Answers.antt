use Rattle.std.proofs.Common.{◌≡◌, ◌<◌, true, sym, ◌∙◌, ap, length}
use Rattle.std.specs.Prelude.{nat_lt}
use Rattle.vx_marks.specs.Log.{LogSeen}
use Rattle.vx_pages.specs.Pages.{page_seen}
use Rattle.vx_store_rows.proofs.FirstPage.{some_page, page_here, pages_on, copies_on}
use Rattle.vx_store_rows.proofs.call.call_over.Goals as goal

pub call_on-requires-clause-ready : goal.call_on-requires-clause-ready
call_on-requires-clause-ready g c =
    let known : nat_lt 1 c.into_pages-base.result.0.shape.regions ≡ true = ap (λ (x : LogSeen). x.has_region 1) (sym c.into_pages-base.ensures.log) ∙ c.has_region.ensures c.if-not-has_region.false in
    let lt : 0 < length c.into_pages-base.result.1.items = some_page (page_seen g.P.Piece.seen) c.into_pages-base.result.0.shape.regions c.into_pages-base.result.1.items c.into_pages-base.ensures.pages known in
    λ lives outlive. c.requires (page_seen g.P.Piece.seen c.index_mut-page.result.now) (page_here (page_seen g.P.Piece.seen) c.into_pages-base.result.0.shape.regions c.into_pages-base.result.1.items c.index_mut-page.result.now c.into_pages-base.ensures.pages known lt c.index_mut-page.ensures.value)

pub from_pages-requires-clause-pages : goal.from_pages-requires-clause-pages
from_pages-requires-clause-pages g c =
    let known : nat_lt 1 c.into_pages-base.result.0.shape.regions ≡ true = ap (λ (x : LogSeen). x.has_region 1) (sym c.into_pages-base.ensures.log) ∙ c.has_region.ensures c.if-not-has_region.false in
    let lt : 0 < length c.into_pages-base.result.1.items = some_page (page_seen g.P.Piece.seen) c.into_pages-base.result.0.shape.regions c.into_pages-base.result.1.items c.into_pages-base.ensures.pages known in
    pages_on (page_seen g.P.Piece.seen) c.into_pages-base.result.0.shape.regions c.into_pages-base.result.1.items c.index_mut-page.result.now c.call_on.new.log c.into_pages-base.ensures.pages lt c.index_mut-page.ensures.value c.call_on.ensures

pub from_pages-requires-clause-copies : goal.from_pages-requires-clause-copies
from_pages-requires-clause-copies g c =
    let known : nat_lt 1 c.into_pages-base.result.0.shape.regions ≡ true = ap (λ (x : LogSeen). x.has_region 1) (sym c.into_pages-base.ensures.log) ∙ c.has_region.ensures c.if-not-has_region.false in
    let lt : 0 < length c.into_pages-base.result.1.items = some_page (page_seen g.P.Piece.seen) c.into_pages-base.result.0.shape.regions c.into_pages-base.result.1.items c.into_pages-base.ensures.pages known in
    copies_on (page_seen g.P.Piece.seen) _ c.into_pages-base.result.1.items c.index_mut-page.result.now c.call_on.new.log c.into_pages-base.ensures.copies lt c.index_mut-page.ensures.value c.call_on.ensures
