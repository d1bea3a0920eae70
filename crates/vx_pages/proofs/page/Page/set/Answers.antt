use Rattle.std.proofs.Common.{refl, ◌∙◌}
use Rattle.std.proofs.lemmas.List.{length-map}
use Rattle.vx_mapfmt.specs.Bits.{bit_in}
use Rattle.vx_pages.specs.Sector.{KeepsSector}
use Rattle.vx_pages.specs.Sectors.{sector_seen}
use Rattle.vx_pages.proofs.MarkSteps.{page_cause, page_kept}
use Rattle.vx_pages.proofs.Pairs.{paired_each}
use Rattle.vx_pages.proofs.Sets.{kept_set, page_set}
use Rattle.vx_pages.proofs.EachStep.{goes_each}
use Rattle.vx_pages.proofs.page.Page.set.Goals as goal

pub returns-clause-kept : goal.returns-clause-kept
returns-clause-kept g c = page_kept c.args.self.now.index c.args.self.now.regions _ _ (kept_set c.args.map (bit_in c.args.image.now) c.set_all.result _ _ c.set_all.ensures.each)

pub returns-clause-set : goal.returns-clause-set
returns-clause-set g c =
    page_set c.args.self.now.index c.args.self.now.regions c.args.map (bit_in c.args.image.now) _ _ (length-map c.args.self.now.sectors.items (sector_seen g.P.LocalPiece.seen) ∙ c.args.self.now.maps) c.requires.map
    c.set_all.result c.set_all.ensures.each

pub returns-clause-cause : goal.returns-clause-cause
returns-clause-cause g c = page_cause c.args.self.now.index c.args.self.now.regions _ _ c.set_all.result c.set_all.ensures.cause

pub invariant_of-self-clause-paired : goal.invariant_of-self-clause-paired
invariant_of-self-clause-paired g c = paired_each (λ m. KeepsSector) _ _ (λ m a b h. h) (kept_set c.args.map (bit_in c.args.image.now) c.set_all.result _ _ c.set_all.ensures.each) c.args.self.now.paired

pub returns-clause-stays : goal.returns-clause-stays
returns-clause-stays g c =
    record {
      place = record { index = refl; regions = refl };
      pieces = goes_each (λ m. KeepsSector) _ _ (λ m a b h. h) (kept_set c.args.map (bit_in c.args.image.now) c.set_all.result _ _ c.set_all.ensures.each);
    }
