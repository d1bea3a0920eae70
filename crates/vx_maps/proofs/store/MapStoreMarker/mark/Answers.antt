use Rattle.std.proofs.Common.{◌∙◌, refl, sym, ◌<◌, length, ◌/◌}
use Rattle.vx_marks.specs.Log.{IsMarkedAs, IsClaimedAs}
use Rattle.vx_pages.specs.Pages.{grid_seen, page_seen}
use Rattle.vx_pages.specs.Sector.{KeepsPiece}
use Rattle.vx_pages.specs.Stays.{piece_same}
use Rattle.vx_maps.proofs.PageRows.{grid_on, places_set}
use Rattle.vx_maps.proofs.Steps.{grid_same, sheets_same}
use Rattle.vx_maps.proofs.StoreChanges.{has_page, size_seen, askable, there_is, paged_still, store_kept, store_told, store_claims, store_cause}
use Rattle.vx_pages.specs.Writes.{writes_of}
use Rattle.vx_maps.proofs.HandCounts.{hands_on, shut_on}
use Rattle.vx_maps.proofs.Alike.{copies_still}
use Rattle.vx_maps.proofs.store.MapStoreMarker.mark.Goals as goal

pub mark-requires : goal.mark-requires
mark-requires g c =
    let lt : c.args.region / 4096 < length c.args.self.now.pages.items = has_page c.args.self.now.base.shape.regions c.args.region _ (sym (size_seen (page_seen g.P.LocalPiece.seen) c.args.self.now.pages.items) ∙ c.args.self.now.paged.count) c.requires.known in
    askable (page_seen g.P.LocalPiece.seen) c.args.self.now.base.shape.regions c.args.region c.args.self.now.pages.items c.index_mut-page.result.now c.args.self.now.paged lt c.index_mut-page.ensures.value c.args.bits c.requires

pub invariant_of-self : goal.invariant_of-self
invariant_of-self g c =
    let lt : c.args.region / 4096 < length c.args.self.now.pages.items = has_page c.args.self.now.base.shape.regions c.args.region _ (sym (size_seen (page_seen g.P.LocalPiece.seen) c.args.self.now.pages.items) ∙ c.args.self.now.paged.count) c.requires.known in
    record {
      paged = paged_still (page_seen g.P.LocalPiece.seen) c.args.self.now.base.shape.regions c.args.region c.args.self.now.pages.items c.index_mut-page.result.now c.args.self.now.paged lt c.index_mut-page.ensures.value c.mark.new.self c.mark.ensures.kept;
      copied = copies_still (page_seen g.P.LocalPiece.seen) _ c.args.self.now.pages.items (c.args.region / 4096) c.index_mut-page.result.now c.mark.new.self lt c.index_mut-page.ensures.value c.mark.ensures.kept c.args.self.now.copied;
    }

pub returns-clause-kept : goal.returns-clause-kept
returns-clause-kept g c =
    let lt : c.args.region / 4096 < length c.args.self.now.pages.items = has_page c.args.self.now.base.shape.regions c.args.region _ (sym (size_seen (page_seen g.P.LocalPiece.seen) c.args.self.now.pages.items) ∙ c.args.self.now.paged.count) c.requires.known in
    store_kept (page_seen g.P.LocalPiece.seen) c.args.self.now.base.shape.regions c.args.region c.args.self.now.pages.items c.index_mut-page.result.now c.args.self.now.paged lt c.index_mut-page.ensures.value c.mark.new.self c.mark.ensures.kept

pub returns-clause-told : goal.returns-clause-told
returns-clause-told g c there =
    let lt : c.args.region / 4096 < length c.args.self.now.pages.items = has_page c.args.self.now.base.shape.regions c.args.region _ (sym (size_seen (page_seen g.P.LocalPiece.seen) c.args.self.now.pages.items) ∙ c.args.self.now.paged.count) c.requires.known in
    store_told (page_seen g.P.LocalPiece.seen) c.args.self.now.base.shape.regions c.args.region c.args.self.now.pages.items c.index_mut-page.result.now c.args.self.now.paged lt c.index_mut-page.ensures.value c.mark.new.self c.mark.ensures.kept (IsMarkedAs c.args.bits c.mark.result) (c.mark.ensures.told (there_is (page_seen g.P.LocalPiece.seen) c.args.self.now.base.shape.regions c.args.region c.args.self.now.pages.items c.index_mut-page.result.now c.args.self.now.paged lt c.index_mut-page.ensures.value))

pub returns-clause-claims : goal.returns-clause-claims
returns-clause-claims g c there =
    let lt : c.args.region / 4096 < length c.args.self.now.pages.items = has_page c.args.self.now.base.shape.regions c.args.region _ (sym (size_seen (page_seen g.P.LocalPiece.seen) c.args.self.now.pages.items) ∙ c.args.self.now.paged.count) c.requires.known in
    store_claims (page_seen g.P.LocalPiece.seen) c.args.self.now.base.shape.regions c.args.region c.args.self.now.pages.items c.index_mut-page.result.now c.args.self.now.paged lt c.index_mut-page.ensures.value c.mark.new.self c.mark.ensures.kept (IsClaimedAs c.args.bits c.mark.result) (c.mark.ensures.claims (there_is (page_seen g.P.LocalPiece.seen) c.args.self.now.base.shape.regions c.args.region c.args.self.now.pages.items c.index_mut-page.result.now c.args.self.now.paged lt c.index_mut-page.ensures.value))

pub returns-clause-cause : goal.returns-clause-cause
returns-clause-cause g c =
    let lt : c.args.region / 4096 < length c.args.self.now.pages.items = has_page c.args.self.now.base.shape.regions c.args.region _ (sym (size_seen (page_seen g.P.LocalPiece.seen) c.args.self.now.pages.items) ∙ c.args.self.now.paged.count) c.requires.known in
    store_cause (page_seen g.P.LocalPiece.seen) c.args.self.now.base.shape.regions c.args.region c.args.self.now.pages.items c.index_mut-page.result.now c.args.self.now.paged lt c.index_mut-page.ensures.value c.mark.new.self c.mark.ensures.kept c.mark.result c.mark.ensures.cause

pub returns-clause-follows : goal.returns-clause-follows
returns-clause-follows g c =
    let lt : c.args.region / 4096 < length c.args.self.now.pages.items = has_page c.args.self.now.base.shape.regions c.args.region _ (sym (size_seen (page_seen g.P.LocalPiece.seen) c.args.self.now.pages.items) ∙ c.args.self.now.paged.count) c.requires.known in
    record {
      shape = refl;
      places = places_set c.args.self.now.pages.items (c.args.region / 4096) c.index_mut-page.result.now c.mark.new.self c.index_mut-page.ensures.value c.mark.ensures.follows.place;
      sheets = sheets_same KeepsPiece piece_same _;
      grid = grid_on (grid_seen g.P.LocalPiece.seen c.args.self.now.pages.items) c.args.self.now.pages.items (c.args.region / 4096) c.index_mut-page.result.now c.mark.new.self lt c.index_mut-page.ensures.value (grid_same KeepsPiece piece_same _) c.mark.ensures.follows.pieces;
    }

pub returns-clause-counts : goal.returns-clause-counts
returns-clause-counts g c =
    let lt : c.args.region / 4096 < length c.args.self.now.pages.items = has_page c.args.self.now.base.shape.regions c.args.region _ (sym (size_seen (page_seen g.P.LocalPiece.seen) c.args.self.now.pages.items) ∙ c.args.self.now.paged.count) c.requires.known in
    hands_on c.args.self.now.pages.items (c.args.region / 4096) c.index_mut-page.result.now c.mark.new.self lt c.index_mut-page.ensures.value (writes_of c.args.bits) c.mark.result c.mark.ensures.counts

pub returns-clause-shut : goal.returns-clause-shut
returns-clause-shut g c =
    let lt : c.args.region / 4096 < length c.args.self.now.pages.items = has_page c.args.self.now.base.shape.regions c.args.region _ (sym (size_seen (page_seen g.P.LocalPiece.seen) c.args.self.now.pages.items) ∙ c.args.self.now.paged.count) c.requires.known in
    shut_on c.args.self.now.pages.items (c.args.region / 4096) c.mark.new.self lt c.mark.result c.mark.ensures.shut
