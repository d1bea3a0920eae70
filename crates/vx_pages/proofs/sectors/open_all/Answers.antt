use Rattle.std.proofs.Common.{◌<◌, length, arith, rules, subst, Bool}
use Rattle.std.specs.Prelude.{◌&&◌}
use Rattle.vx_pages.specs.Bytes.{same_place}
use Rattle.vx_pages.specs.Sector.{Turns, BitOpened}
use Rattle.vx_pages.specs.Sectors.{sector_seen}
use Rattle.vx_pages.proofs.Loops.{goes_on}
use Rattle.vx_pages.proofs.sectors.open_all.Goals as goal

pub loop-map-preserved : goal.loop-map-preserved
loop-map-preserved g c =
    let lt : c.loop-map.map < length c.loop-map.sectors.items = let f = c.loop-map.invariant.size in omega (arith, f) in
    record {
      went =
          goes_on (sector_seen g.P.LocalPiece.seen) _ _ c.loop-map.sectors.items c.loop-map.map c.index_mut-sector.result.now c.open_if.new.self lt c.index_mut-sector.ensures.value c.loop-map.invariant.went
          (subst (λ (b : Bool). Turns (BitOpened (λ other. b && same_place c.args.region other)) (sector_seen g.P.LocalPiece.seen c.index_mut-sector.result.now) (sector_seen g.P.LocalPiece.seen c.open_if.new.self)) c.contains.ensures c.open_if.ensures);
      size = search rules;
    }
