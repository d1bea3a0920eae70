use Rattle.std.proofs.Common.{◌∙◌, sym, ◌<◌, length, ◌/◌}
use Rattle.vx_pages.specs.Pages.{page_seen}
use Rattle.vx_maps.proofs.StoreChanges.{has_page, size_seen, known, claims_in}
use Rattle.vx_maps.proofs.store.MapStoreMarker.marked.Goals as goal

pub marked-requires : goal.marked-requires
marked-requires g c =
    let lt : c.args.region / 4096 < length c.args.self.now.pages.items = has_page c.args.self.now.base.shape.regions c.args.region _ (sym (size_seen (page_seen g.P.LocalPiece.seen) c.args.self.now.pages.items) ∙ c.args.self.now.paged.count) c.requires in
    known (page_seen g.P.LocalPiece.seen) c.args.self.now.base.shape.regions c.args.region c.args.self.now.pages.items c.index.result.now c.args.self.now.paged lt c.index.ensures c.requires

pub returns : goal.returns
returns g c k =
    let lt : c.args.region / 4096 < length c.args.self.now.pages.items = has_page c.args.self.now.base.shape.regions c.args.region _ (sym (size_seen (page_seen g.P.LocalPiece.seen) c.args.self.now.pages.items) ∙ c.args.self.now.paged.count) c.requires in
    c.marked.ensures k ∙ claims_in (page_seen g.P.LocalPiece.seen) c.args.self.now.base.shape.regions c.args.region c.args.self.now.pages.items c.index.result.now c.args.self.now.paged lt c.index.ensures k
