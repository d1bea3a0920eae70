use Rattle.std.proofs.Common.{◌<◌, ◌*◌, ◌-◌, ◌∙◌, [], sym, length, arith, rules, refl, subst, List, ℕ, Result}
use Rattle.std.specs.Global.{Vec}
use Rattle.vx_marks.specs.declared.marker.MarkFault.{MarkFault}
use Rattle.vx_pages.specs.Images.{images_seen}
use Rattle.vx_pages.specs.Page.{AreAll, EachSector, cut_in, faults_in}
use Rattle.vx_pages.specs.Pages.{grid_seen, page_seen, sectors_of}
use Rattle.vx_maps.specs.Slots.{row_at}
use Rattle.vx_pages.specs.Reading.{AreImages, IsCopyOf, ReadsSector}
use Rattle.vx_pages.specs.Sector.{SectorSeen, HasCause}
use Rattle.vx_pages.proofs.Rounds.{goes_on, inside_old, still, stops}
use Rattle.vx_maps.specs.Loading.{AreClipped, GiveClipped}
use Rattle.vx_maps.proofs.Firmness.{cause_on, quiet_on}
use Rattle.vx_maps.proofs.PageRows.{places_set, row_read_none}
use Rattle.vx_maps.proofs.FetchRows.{below_on, page_failed, row_is, rows_count, rows_set}
use Rattle.vx_maps.proofs.reading.fetch_pages.Goals as goal

pub fetch_page-requires-clause-there : goal.fetch_page-requires-clause-there
fetch_page-requires-clause-there g c =
    let lt : c.loop-index.index < length c.loop-index.pages.items = let f = c.loop-index.invariant.size in omega (arith, c.len-index-end.ensures, f, c.args.pages.now.ok.0) in
    subst (λ (row : List SectorSeen). AreAll (λ s. IsCopyOf c.args.copy s.copies) row) (sym (still [] (sectors_of g.P.LocalPiece.seen) _ _ c.loop-index.pages.items c.loop-index.index c.index_mut-page.result.now lt c.index_mut-page.ensures.value c.loop-index.invariant.went))
    (c.requires.there c.loop-index.index (inside_old [] (sectors_of g.P.LocalPiece.seen) _ _ c.loop-index.pages.items c.loop-index.index lt c.loop-index.invariant.went))

pub fetch_page-requires-clause-images : goal.fetch_page-requires-clause-images
fetch_page-requires-clause-images g c =
    let n = rows_count _ c.loop-index.images.items c.loop-index.invariant.images in
    let at : c.loop-index.index < length c.args.pages.now.items = omega (arith, c.len-index-end.ensures, c.args.pages.now.ok.0) in
    let in' : c.loop-index.index < length c.loop-index.images.items = omega (arith, n, at) in
    subst AreImages (row_is c.loop-index.images.items c.loop-index.index c.index_mut-row.result.now in' c.index_mut-row.ensures.value) (c.loop-index.invariant.images.each c.loop-index.index at)

pub returns-in-Err-clause-places : goal.returns-in-Err-clause-places
returns-in-Err-clause-places g c = places_set c.loop-index.pages.items c.loop-index.index c.index_mut-page.result.now c.fetch_page.new.page c.index_mut-page.ensures.value c.in-Err.ensures.page ∙ c.loop-index.invariant.places

pub returns-in-Err-clause-reads : goal.returns-in-Err-clause-reads
returns-in-Err-clause-reads g c =
    let lt : c.loop-index.index < length c.loop-index.pages.items = let f = c.loop-index.invariant.size in omega (arith, c.len-index-end.ensures, f, c.args.pages.now.ok.0) in
    stops [] (sectors_of g.P.LocalPiece.seen) (λ i. EachSector (λ m. ReadsSector)) (λ i. EachSector (λ m. ReadsSector)) _ c.loop-index.pages.items c.loop-index.index c.index_mut-page.result.now c.fetch_page.new.page lt c.index_mut-page.ensures.value
    c.loop-index.invariant.went (λ i a b h. h) (λ i a. row_read_none a) c.in-Err.ensures.reads

pub returns-in-Err-clause-images : goal.returns-in-Err-clause-images
returns-in-Err-clause-images g c =
    let n = rows_count _ c.loop-index.images.items c.loop-index.invariant.images in
    let at : c.loop-index.index < length c.args.pages.now.items = omega (arith, c.len-index-end.ensures, c.args.pages.now.ok.0) in
    rows_set _ c.loop-index.images.items c.loop-index.index c.fetch_page.new.row (omega (arith, n, at)) c.in-Err.ensures.images c.loop-index.invariant.images

pub returns-in-Err-clause-cause : goal.returns-in-Err-clause-cause
returns-in-Err-clause-cause g c =
    let lt : c.loop-index.index < length c.loop-index.pages.items = let f = c.loop-index.invariant.size in omega (arith, c.len-index-end.ensures, f, c.args.pages.now.ok.0) in
    cause_on (page_seen g.P.LocalPiece.seen) _ c.loop-index.pages.items c.loop-index.index c.index_mut-page.result.now c.fetch_page.new.page c.in-Err.fault lt c.index_mut-page.ensures.value refl c.loop-index.invariant.quiet
    (page_failed (page_seen g.P.LocalPiece.seen c.index_mut-page.result.now) (page_seen g.P.LocalPiece.seen c.fetch_page.new.page) c.in-Err.fault c.in-Err.ensures.cause)

pub loop-index-preserved : goal.loop-index-preserved
loop-index-preserved g c =
    let lt : c.loop-index.index < length c.loop-index.pages.items = let f = c.loop-index.invariant.size in omega (arith, c.len-index-end.ensures, f, c.args.pages.now.ok.0) in
    let n = rows_count _ c.loop-index.images.items c.loop-index.invariant.images in
    let at : c.loop-index.index < length c.args.pages.now.items = omega (arith, c.len-index-end.ensures, c.args.pages.now.ok.0) in
    let in' : c.loop-index.index < length c.loop-index.images.items = omega (arith, n, at) in
    let same = still [] (sectors_of g.P.LocalPiece.seen) _ _ c.loop-index.pages.items c.loop-index.index c.index_mut-page.result.now lt c.index_mut-page.ensures.value c.loop-index.invariant.went in
    record {
      went = goes_on [] (sectors_of g.P.LocalPiece.seen) _ _ c.loop-index.pages.items c.loop-index.index c.index_mut-page.result.now c.fetch_page.new.page lt c.index_mut-page.ensures.value c.loop-index.invariant.went c.fetch_page.ensures.reads;
      size = search rules;
      places = places_set c.loop-index.pages.items c.loop-index.index c.index_mut-page.result.now c.fetch_page.new.page c.index_mut-page.ensures.value c.fetch_page.ensures.page ∙ c.loop-index.invariant.places;
      images = rows_set _ c.loop-index.images.items c.loop-index.index c.fetch_page.new.row in' c.fetch_page.ensures.images c.loop-index.invariant.images;
      gives =
          below_on [] (λ (row : Vec (Vec ℕ)). images_seen row.items) (λ i images. AreClipped c.args.copy (c.args.regions - 4096 * i) images (row_at (grid_seen g.P.LocalPiece.seen c.args.pages.now.items) i)) c.loop-index.images.items c.loop-index.index c.fetch_page.new.row in'
          c.loop-index.invariant.gives
          (subst (λ (row : List SectorSeen). AreClipped c.args.copy (c.args.regions - 4096 * c.loop-index.index) (images_seen c.fetch_page.new.row.items) row) same
          (subst (λ (r : Result (Unit {0}) MarkFault). GiveClipped c.args.copy (c.args.regions - 4096 * c.loop-index.index) (images_seen c.fetch_page.new.row.items) (sectors_of g.P.LocalPiece.seen c.index_mut-page.result.now) r) c.in_default.is c.fetch_page.ensures.gives));
      quiet =
          quiet_on (page_seen g.P.LocalPiece.seen) _ c.loop-index.pages.items c.loop-index.index c.index_mut-page.result.now c.fetch_page.new.page lt c.index_mut-page.ensures.value c.loop-index.invariant.quiet
          (subst (λ (r : Result (Unit {0}) MarkFault). HasCause (faults_in (sectors_of g.P.LocalPiece.seen c.index_mut-page.result.now)) (faults_in (sectors_of g.P.LocalPiece.seen c.fetch_page.new.page)) (cut_in (sectors_of g.P.LocalPiece.seen c.fetch_page.new.page)) r) c.in_default.is c.fetch_page.ensures.cause);
    }
