use Rattle.std.proofs.Common.{refl}
use Rattle.vx_pages.proofs.EachStep.{firm_goes}
use Rattle.std.proofs.Common.{◌∙◌}
use Rattle.std.proofs.lemmas.List.{length-map}
use Rattle.vx_pages.specs.Sectors.{sector_seen}
use Rattle.vx_pages.proofs.MarkSteps.{firm_kept, firm_told, firm_claims, page_cause}
use Rattle.vx_pages.proofs.page.Page.firm.Goals as goal
use Rattle.vx_pages.proofs.Pairs.{firm_paired}

pub returns-clause-kept : goal.returns-clause-kept
returns-clause-kept g c = firm_kept c.args.self.now.index c.args.self.now.regions _ _ (length-map c.args.self.now.sectors.items (sector_seen g.P.LocalPiece.seen) ∙ c.args.self.now.maps) c.firm_all.result c.firm_all.ensures.each

pub returns-clause-told : goal.returns-clause-told
returns-clause-told g c = firm_told c.args.self.now.index c.args.self.now.regions _ _ (length-map c.args.self.now.sectors.items (sector_seen g.P.LocalPiece.seen) ∙ c.args.self.now.maps) c.firm_all.result c.firm_all.ensures.each

pub returns-clause-claims : goal.returns-clause-claims
returns-clause-claims g c = firm_claims c.args.self.now.index c.args.self.now.regions _ _ (length-map c.args.self.now.sectors.items (sector_seen g.P.LocalPiece.seen) ∙ c.args.self.now.maps) c.firm_all.result c.firm_all.ensures.each

pub returns-clause-cause : goal.returns-clause-cause
returns-clause-cause g c = page_cause c.args.self.now.index c.args.self.now.regions _ _ c.firm_all.result c.firm_all.ensures.cause

pub invariant_of-self-clause-paired : goal.invariant_of-self-clause-paired
invariant_of-self-clause-paired g c = firm_paired _ _ c.firm_all.result c.firm_all.ensures.each c.args.self.now.paired

pub returns-clause-stays : goal.returns-clause-stays
returns-clause-stays g c = record { place = record { index = refl; regions = refl }; pieces = firm_goes _ _ c.firm_all.result c.firm_all.ensures.each }
