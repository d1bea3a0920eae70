use Rattle.std.proofs.Common.{rules, ◌≡◌, ◌++◌, ◌∷◌, [], ap, sym, subst, true}
use Rattle.vx_piece.specs.MemPiece.{mem_seen}
use Rattle.vx_marks.specs.Log.{LogSeen}
use Rattle.vx_pages.specs.Page.{sectors_seen}
use Rattle.vx_pages.specs.Sectors.{sector_seen}
use Rattle.vx_pages.specs.Page.{ArePaired}
use Rattle.vx_maps.proofs.Places.{paired_push, seen_push}
use Rattle.vx_map_rows.proofs.pages.page.Goals as goal

pub loop-map-preserved : goal.loop-map-preserved
loop-map-preserved c =
    let items : c.push.new.self.items ≡ c.loop-map.sectors.items ++ c.in_ok-sector.field-0 ∷ [] = search rules in
    record {
      count = search rules;
      pair = subst (ArePaired true) (sym (seen_push (sector_seen mem_seen) c.push.new.self.items c.loop-map.sectors.items c.in_ok-sector.field-0 items))
          (paired_push true (sectors_seen mem_seen c.loop-map.sectors.items) (sector_seen mem_seen c.in_ok-sector.field-0) c.loop-map.invariant.pair c.in_ok-sector.ensures);
    }

pub returns-clause-region : goal.returns-clause-region
returns-clause-region c = ap (λ (x : LogSeen). x.has_region 7) c.of.ensures.log
