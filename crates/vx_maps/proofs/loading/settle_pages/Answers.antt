use Rattle.std.proofs.Common.{◌<◌, ◌∙◌, [], sym, length, arith, rules, subst, List, ℕ, Result}
use Rattle.vx_marks.specs.declared.marker.MarkFault.{MarkFault}
use Rattle.vx_pages.specs.Images.{images_seen}
use Rattle.vx_pages.specs.Page.{AreAll, EachSector, no_sector}
use Rattle.vx_pages.specs.Pages.{page_seen, sectors_of}
use Rattle.vx_pages.specs.Reading.{AreImages, AreKnownOn, AreSettled, IsSettled, MaySettle, image_at}
use Rattle.vx_pages.specs.Sector.{SectorSeen, IsOpen}
use Rattle.vx_pages.proofs.Rounds.{goes_on, inside_old, still, stops}
use Rattle.vx_pages.proofs.Settlement.{settled_may}
use Rattle.vx_maps.specs.Loading.{images_at, rows_seen}
use Rattle.vx_maps.proofs.Finds.{known_row}
use Rattle.vx_maps.proofs.Firmness.{grown_on, risen_on}
use Rattle.vx_maps.proofs.PageRows.{places_set, row_settled_none, row_grows}
use Rattle.vx_maps.proofs.FetchRows.{row_is, rows_count}
use Rattle.vx_maps.proofs.Steps.{items_weaker}
use Rattle.vx_maps.proofs.loading.settle_pages.Goals as goal

pub settle-requires-clause-open : goal.settle-requires-clause-open
settle-requires-clause-open g c =
    let lt : c.loop-index.index < length c.loop-index.pages.items = let f = c.loop-index.invariant.size in omega (arith, c.len-index-end.ensures, f, c.args.pages.now.ok.0) in
    subst (λ (row : List SectorSeen). AreAll IsOpen row) (sym (still [] (sectors_of g.P.LocalPiece.seen) _ _ c.loop-index.pages.items c.loop-index.index c.index_mut-page.result.now lt c.index_mut-page.ensures.value c.loop-index.invariant.went))
    (c.requires.open c.loop-index.index (inside_old [] (sectors_of g.P.LocalPiece.seen) _ _ c.loop-index.pages.items c.loop-index.index lt c.loop-index.invariant.went))

pub settle-requires-clause-images : goal.settle-requires-clause-images
settle-requires-clause-images g c =
    let n = rows_count _ c.args.images.now.items c.requires.images in
    let at : c.loop-index.index < length c.args.pages.now.items = omega (arith, c.len-index-end.ensures, c.args.pages.now.ok.0) in
    let in' : c.loop-index.index < length c.args.images.now.items = omega (arith, n, at) in
    subst AreImages (row_is c.args.images.now.items c.loop-index.index c.index.result.now in' c.index.ensures) (c.requires.images.each c.loop-index.index at)

pub settle-requires-clause-known : goal.settle-requires-clause-known
settle-requires-clause-known g c =
    let lt : c.loop-index.index < length c.loop-index.pages.items = let f = c.loop-index.invariant.size in omega (arith, c.len-index-end.ensures, f, c.args.pages.now.ok.0) in
    let n = rows_count _ c.args.images.now.items c.requires.images in
    let at : c.loop-index.index < length c.args.pages.now.items = omega (arith, c.len-index-end.ensures, c.args.pages.now.ok.0) in
    let in' : c.loop-index.index < length c.args.images.now.items = omega (arith, n, at) in
    subst (λ (images : List (List ℕ)). AreKnownOn c.known_copy-known.result images (sectors_of g.P.LocalPiece.seen c.index_mut-page.result.now)) (row_is c.args.images.now.items c.loop-index.index c.index.result.now in' c.index.ensures)
    (subst (AreKnownOn c.known_copy-known.result (images_at (rows_seen c.args.images.now.items) c.loop-index.index)) (sym (still [] (sectors_of g.P.LocalPiece.seen) _ _ c.loop-index.pages.items c.loop-index.index c.index_mut-page.result.now lt c.index_mut-page.ensures.value c.loop-index.invariant.went))
    (known_row c.args.chosen _ _ _ c.known_copy-known.result c.known_copy-known.ensures (c.requires.read c.loop-index.index (inside_old [] (sectors_of g.P.LocalPiece.seen) _ _ c.loop-index.pages.items c.loop-index.index lt c.loop-index.invariant.went))))

pub returns-in-Err-clause-places : goal.returns-in-Err-clause-places
returns-in-Err-clause-places g c = places_set c.loop-index.pages.items c.loop-index.index c.index_mut-page.result.now c.settle.new.self c.index_mut-page.ensures.value c.in-Err.ensures.page ∙ c.loop-index.invariant.places

pub returns-in-Err-clause-settled : goal.returns-in-Err-clause-settled
returns-in-Err-clause-settled g c =
    let lt : c.loop-index.index < length c.loop-index.pages.items = let f = c.loop-index.invariant.size in omega (arith, c.len-index-end.ensures, f, c.args.pages.now.ok.0) in
    let n = rows_count _ c.args.images.now.items c.requires.images in
    let at : c.loop-index.index < length c.args.pages.now.items = omega (arith, c.len-index-end.ensures, c.args.pages.now.ok.0) in
    let in' : c.loop-index.index < length c.args.images.now.items = omega (arith, n, at) in
    let rows = rows_seen c.args.images.now.items in
    stops [] (sectors_of g.P.LocalPiece.seen) (λ i. EachSector (λ m. IsSettled (image_at (images_at rows i) m))) (λ i. EachSector (λ m. MaySettle (image_at (images_at rows i) m))) _ c.loop-index.pages.items c.loop-index.index c.index_mut-page.result.now c.settle.new.self lt
    c.index_mut-page.ensures.value c.loop-index.invariant.went
    (λ i. items_weaker no_sector (λ m. IsSettled (image_at (images_at rows i) m)) (λ m. MaySettle (image_at (images_at rows i) m)) (λ m. settled_may (image_at (images_at rows i) m))) (λ i. row_settled_none (images_at rows i))
    (subst (λ (images : List (List ℕ)). EachSector (λ m. MaySettle (image_at images m)) (sectors_of g.P.LocalPiece.seen c.index_mut-page.result.now) (sectors_of g.P.LocalPiece.seen c.settle.new.self))
    (sym (row_is c.args.images.now.items c.loop-index.index c.index.result.now in' c.index.ensures)) c.in-Err.ensures.settled)

pub returns-in-Err-clause-cause : goal.returns-in-Err-clause-cause
returns-in-Err-clause-cause g c =
    let lt : c.loop-index.index < length c.loop-index.pages.items = let f = c.loop-index.invariant.size in omega (arith, c.len-index-end.ensures, f, c.args.pages.now.ok.0) in
    risen_on (page_seen g.P.LocalPiece.seen) _ c.loop-index.pages.items c.loop-index.index c.index_mut-page.result.now c.settle.new.self c.in-Err.fault lt c.index_mut-page.ensures.value c.loop-index.invariant.grown c.in-Err.ensures.cause

pub loop-index-preserved : goal.loop-index-preserved
loop-index-preserved g c =
    let lt : c.loop-index.index < length c.loop-index.pages.items = let f = c.loop-index.invariant.size in omega (arith, c.len-index-end.ensures, f, c.args.pages.now.ok.0) in
    let n = rows_count _ c.args.images.now.items c.requires.images in
    let at : c.loop-index.index < length c.args.pages.now.items = omega (arith, c.len-index-end.ensures, c.args.pages.now.ok.0) in
    let in' : c.loop-index.index < length c.args.images.now.items = omega (arith, n, at) in
    let row = row_is c.args.images.now.items c.loop-index.index c.index.result.now in' c.index.ensures in
    let settled : EachSector (λ m. IsSettled (image_at (images_at (rows_seen c.args.images.now.items) c.loop-index.index) m)) (sectors_of g.P.LocalPiece.seen c.index_mut-page.result.now) (sectors_of g.P.LocalPiece.seen c.settle.new.self) =
    subst (λ (images : List (List ℕ)). EachSector (λ m. IsSettled (image_at images m)) (sectors_of g.P.LocalPiece.seen c.index_mut-page.result.now) (sectors_of g.P.LocalPiece.seen c.settle.new.self)) (sym row)
    (subst (λ (r : Result (Unit {0}) MarkFault). AreSettled (images_seen c.index.result.now.items) (sectors_of g.P.LocalPiece.seen c.index_mut-page.result.now) (sectors_of g.P.LocalPiece.seen c.settle.new.self) r) c.in_default.is c.settle.ensures.settled) in
    record {
      went = goes_on [] (sectors_of g.P.LocalPiece.seen) _ _ c.loop-index.pages.items c.loop-index.index c.index_mut-page.result.now c.settle.new.self lt c.index_mut-page.ensures.value c.loop-index.invariant.went settled;
      size = search rules;
      places = places_set c.loop-index.pages.items c.loop-index.index c.index_mut-page.result.now c.settle.new.self c.index_mut-page.ensures.value c.settle.ensures.page ∙ c.loop-index.invariant.places;
      grown = grown_on (page_seen g.P.LocalPiece.seen) _ c.loop-index.pages.items c.loop-index.index c.index_mut-page.result.now c.settle.new.self lt c.index_mut-page.ensures.value c.loop-index.invariant.grown (row_grows _ _ _ settled);
    }
