use Rattle.std.proofs.Common.{◌∙◌, ap, sym, subst, length, List}
use Rattle.std.proofs.lemmas.List.{length-map}
use Rattle.vx_pages.specs.Arming.{armed_sector}
use Rattle.vx_pages.specs.Page.{ArePairedAlike, sectors_seen}
use Rattle.vx_pages.specs.Sector.{SectorSeen}
use Rattle.vx_pages.specs.Sectors.{sector_seen}
use Rattle.vx_pages.proofs.Settlement.{armed_paired}
use Rattle.vx_pages.proofs.page.Page.arm.Goals as goal

pub invariant_of-self : goal.invariant_of-self
invariant_of-self g c =
    record {
      maps =
          sym (length-map c.arm_all.new.sectors.items (sector_seen g.P.LocalPiece.seen)) ∙ ap (λ (x : List SectorSeen). length x) c.arm_all.ensures ∙ length-map (sectors_seen g.P.LocalPiece.seen c.args.self.now.sectors.items) (armed_sector c.args.stop)
          ∙ length-map c.args.self.now.sectors.items (sector_seen g.P.LocalPiece.seen) ∙ c.args.self.now.maps;
      paired = subst ArePairedAlike (sym c.arm_all.ensures) (armed_paired c.args.stop _ c.args.self.now.paired);
    }
