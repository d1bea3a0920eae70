use Rattle.std.proofs.Common.{◌∙◌, ap, sym, subst, length, List}
use Rattle.std.specs.Prelude.{◌-◌}
use Rattle.std.proofs.lemmas.List.{length-map}
use Rattle.vx_pages.specs.Page.{ArePairedAlike, sectors_seen}
use Rattle.vx_pages.specs.Parting.{only_sector}
use Rattle.vx_pages.specs.Sector.{SectorSeen}
use Rattle.vx_pages.specs.Sectors.{sector_seen}
use Rattle.vx_pages.proofs.Partings.{only_alike}
use Rattle.vx_pages.proofs.page.Page.give_up.Goals as goal

pub invariant_of-self : goal.invariant_of-self
invariant_of-self g c =
    record {
      maps =
          sym (length-map c.give_up_all.new.sectors.items (sector_seen g.P.LocalPiece.seen)) ∙ ap (λ (x : List SectorSeen). length x) c.give_up_all.ensures.left
          ∙ length-map (sectors_seen g.P.LocalPiece.seen c.args.self.now.sectors.items) (only_sector (1 - c.args.copy)) ∙ length-map c.args.self.now.sectors.items (sector_seen g.P.LocalPiece.seen) ∙ c.args.self.now.maps;
      paired = subst ArePairedAlike (sym c.give_up_all.ensures.left) (only_alike (1 - c.args.copy) (sectors_seen g.P.LocalPiece.seen c.args.self.now.sectors.items));
    }
