use Rattle.std.proofs.Common.{◌∙◌, refl, sym, ◌<◌, length, ◌/◌}
use Rattle.vx_mapfmt.specs.Bits.{bit_in}
use Rattle.vx_pages.specs.Pages.{grid_seen, page_seen}
use Rattle.vx_pages.specs.Sector.{KeepsPiece}
use Rattle.vx_pages.specs.Setting.{come_as}
use Rattle.vx_pages.specs.Stays.{piece_same}
use Rattle.vx_maps.proofs.PageRows.{grid_on, places_set}
use Rattle.vx_maps.proofs.Steps.{grid_same, sheets_same}
use Rattle.vx_maps.proofs.StoreChanges.{has_page, size_seen, paged_still, store_kept, store_set, store_cause}
use Rattle.vx_maps.proofs.Alike.{copies_still}
use Rattle.vx_maps.proofs.store.MapStore.set_page.Goals as goal

pub invariant_of-self : goal.invariant_of-self
invariant_of-self g c =
    let lt : c.args.region / 4096 < length c.args.self.now.pages.items = has_page c.args.self.now.base.shape.regions c.args.region _ (sym (size_seen (page_seen g.P.LocalPiece.seen) c.args.self.now.pages.items) ∙ c.args.self.now.paged.count) c.requires.known in
    record {
      paged = paged_still (page_seen g.P.LocalPiece.seen) c.args.self.now.base.shape.regions c.args.region c.args.self.now.pages.items c.index_mut-page.result.now c.args.self.now.paged lt c.index_mut-page.ensures.value c.set.new.self c.set.ensures.kept;
      copied = copies_still (page_seen g.P.LocalPiece.seen) _ c.args.self.now.pages.items (c.args.region / 4096) c.index_mut-page.result.now c.set.new.self lt c.index_mut-page.ensures.value c.set.ensures.kept c.args.self.now.copied;
    }

pub returns-clause-kept : goal.returns-clause-kept
returns-clause-kept g c =
    let lt : c.args.region / 4096 < length c.args.self.now.pages.items = has_page c.args.self.now.base.shape.regions c.args.region _ (sym (size_seen (page_seen g.P.LocalPiece.seen) c.args.self.now.pages.items) ∙ c.args.self.now.paged.count) c.requires.known in
    store_kept (page_seen g.P.LocalPiece.seen) c.args.self.now.base.shape.regions c.args.region c.args.self.now.pages.items c.index_mut-page.result.now c.args.self.now.paged lt c.index_mut-page.ensures.value c.set.new.self c.set.ensures.kept

pub returns-clause-set : goal.returns-clause-set
returns-clause-set g c =
    let lt : c.args.region / 4096 < length c.args.self.now.pages.items = has_page c.args.self.now.base.shape.regions c.args.region _ (sym (size_seen (page_seen g.P.LocalPiece.seen) c.args.self.now.pages.items) ∙ c.args.self.now.paged.count) c.requires.known in
    (c.set.ensures.set.0, store_set (page_seen g.P.LocalPiece.seen) c.args.self.now.base.shape.regions c.args.region c.args.self.now.pages.items c.index_mut-page.result.now c.args.self.now.paged lt c.index_mut-page.ensures.value c.set.new.self c.set.ensures.kept c.args.map (bit_in c.args.image.now) (come_as c.set.ensures.set.0 c.set.result) c.set.ensures.set.1)

pub returns-clause-cause : goal.returns-clause-cause
returns-clause-cause g c =
    let lt : c.args.region / 4096 < length c.args.self.now.pages.items = has_page c.args.self.now.base.shape.regions c.args.region _ (sym (size_seen (page_seen g.P.LocalPiece.seen) c.args.self.now.pages.items) ∙ c.args.self.now.paged.count) c.requires.known in
    store_cause (page_seen g.P.LocalPiece.seen) c.args.self.now.base.shape.regions c.args.region c.args.self.now.pages.items c.index_mut-page.result.now c.args.self.now.paged lt c.index_mut-page.ensures.value c.set.new.self c.set.ensures.kept c.set.result c.set.ensures.cause

pub returns-clause-goes : goal.returns-clause-goes
returns-clause-goes g c =
    let lt : c.args.region / 4096 < length c.args.self.now.pages.items = has_page c.args.self.now.base.shape.regions c.args.region _ (sym (size_seen (page_seen g.P.LocalPiece.seen) c.args.self.now.pages.items) ∙ c.args.self.now.paged.count) c.requires.known in
    record {
      shape = refl;
      places = places_set c.args.self.now.pages.items (c.args.region / 4096) c.index_mut-page.result.now c.set.new.self c.index_mut-page.ensures.value c.set.ensures.stays.place;
      sheets = sheets_same KeepsPiece piece_same _;
      grid = grid_on (grid_seen g.P.LocalPiece.seen c.args.self.now.pages.items) c.args.self.now.pages.items (c.args.region / 4096) c.index_mut-page.result.now c.set.new.self lt c.index_mut-page.ensures.value (grid_same KeepsPiece piece_same _) c.set.ensures.stays.pieces;
    }
