use Rattle.std.proofs.Common.{refl}
use Rattle.vx_pages.proofs.EachStep.{mark_goes}
use Rattle.std.proofs.Common.{◌∙◌}
use Rattle.std.proofs.lemmas.List.{length-map}
use Rattle.vx_pages.specs.Sectors.{sector_seen}
use Rattle.vx_pages.proofs.MarkSteps.{mark_kept, mark_told, mark_claims, page_cause}
use Rattle.vx_pages.proofs.page.PageMarker.mark.Goals as goal
use Rattle.vx_pages.proofs.Pairs.{mark_paired}

pub returns-clause-kept : goal.returns-clause-kept
returns-clause-kept g c =
    mark_kept c.args.self.now.index c.args.self.now.regions c.args.region c.args.bits _ _ (length-map c.args.self.now.sectors.items (sector_seen g.P.LocalPiece.seen) ∙ c.args.self.now.maps) c.requires.known c.requires.maps
    c.mark_all.result c.mark_all.ensures.each

pub returns-clause-told : goal.returns-clause-told
returns-clause-told g c there =
    mark_told c.args.self.now.index c.args.self.now.regions c.args.region c.args.bits _ _ (length-map c.args.self.now.sectors.items (sector_seen g.P.LocalPiece.seen) ∙ c.args.self.now.maps) c.requires.known c.requires.maps
    c.mark_all.result c.mark_all.ensures.cause c.mark_all.ensures.each

pub returns-clause-claims : goal.returns-clause-claims
returns-clause-claims g c there =
    mark_claims c.args.self.now.index c.args.self.now.regions c.args.region c.args.bits _ _ (length-map c.args.self.now.sectors.items (sector_seen g.P.LocalPiece.seen) ∙ c.args.self.now.maps) c.requires.known c.requires.maps
    c.mark_all.result c.mark_all.ensures.cause c.mark_all.ensures.each

pub returns-clause-cause : goal.returns-clause-cause
returns-clause-cause g c = page_cause c.args.self.now.index c.args.self.now.regions _ _ c.mark_all.result c.mark_all.ensures.cause

pub invariant_of-self-clause-paired : goal.invariant_of-self-clause-paired
invariant_of-self-clause-paired g c = mark_paired c.args.bits c.args.region _ _ c.mark_all.result c.mark_all.ensures.each c.args.self.now.paired

pub returns-clause-follows : goal.returns-clause-follows
returns-clause-follows g c = record { place = record { index = refl; regions = refl }; pieces = mark_goes c.args.bits c.args.region _ _ c.mark_all.result c.mark_all.ensures.each }
