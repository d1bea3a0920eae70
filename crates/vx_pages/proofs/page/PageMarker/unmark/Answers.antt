use Rattle.std.proofs.Common.{refl}
use Rattle.vx_pages.proofs.EachStep.{unmark_goes}
use Rattle.std.proofs.Common.{◌∙◌}
use Rattle.std.proofs.lemmas.List.{length-map}
use Rattle.vx_pages.specs.Sectors.{sector_seen}
use Rattle.vx_pages.proofs.MarkSteps.{unmark_kept, unmark_told, unmark_claims, page_cause}
use Rattle.vx_pages.proofs.page.PageMarker.unmark.Goals as goal
use Rattle.vx_pages.proofs.Pairs.{unmark_paired}

pub returns-clause-kept : goal.returns-clause-kept
returns-clause-kept g c =
    unmark_kept c.args.self.now.index c.args.self.now.regions c.args.region c.args.bits _ _ (length-map c.args.self.now.sectors.items (sector_seen g.P.LocalPiece.seen) ∙ c.args.self.now.maps) c.requires.known c.requires.maps
    c.unmark_all.result c.unmark_all.ensures.each

pub returns-clause-told : goal.returns-clause-told
returns-clause-told g c there =
    unmark_told c.args.self.now.index c.args.self.now.regions c.args.region c.args.bits _ _ (length-map c.args.self.now.sectors.items (sector_seen g.P.LocalPiece.seen) ∙ c.args.self.now.maps) c.requires.known c.requires.maps
    c.unmark_all.result c.unmark_all.ensures.cause c.unmark_all.ensures.each

pub returns-clause-claims : goal.returns-clause-claims
returns-clause-claims g c there =
    unmark_claims c.args.self.now.index c.args.self.now.regions c.args.region c.args.bits _ _ (length-map c.args.self.now.sectors.items (sector_seen g.P.LocalPiece.seen) ∙ c.args.self.now.maps) c.requires.known c.requires.maps
    c.unmark_all.result c.unmark_all.ensures.cause c.unmark_all.ensures.each

pub returns-clause-cause : goal.returns-clause-cause
returns-clause-cause g c = page_cause c.args.self.now.index c.args.self.now.regions _ _ c.unmark_all.result c.unmark_all.ensures.cause

pub invariant_of-self-clause-paired : goal.invariant_of-self-clause-paired
invariant_of-self-clause-paired g c = unmark_paired c.args.bits c.args.region _ _ c.unmark_all.result c.unmark_all.ensures.each c.args.self.now.paired

pub returns-clause-follows : goal.returns-clause-follows
returns-clause-follows g c = record { place = record { index = refl; regions = refl }; pieces = unmark_goes c.args.bits c.args.region _ _ c.unmark_all.result c.unmark_all.ensures.each }
