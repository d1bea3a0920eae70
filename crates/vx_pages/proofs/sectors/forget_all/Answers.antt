use Rattle.std.proofs.Common.{◌<◌, sym, length, arith, rules, subst}
use Rattle.vx_pages.specs.Sector.{IsFirm}
use Rattle.vx_pages.specs.Sectors.{sector_seen}
use Rattle.vx_pages.proofs.Loops.{goes_on, still}
use Rattle.vx_pages.proofs.sectors.forget_all.Goals as goal

pub forget-requires : goal.forget-requires
forget-requires g c =
    let lt : c.loop-map.map < length c.loop-map.sectors.items = let f = c.loop-map.invariant.size in omega (arith, c.len-map-end.ensures, f, c.args.sectors.now.ok.0) in
    subst IsFirm (sym (still (sector_seen g.P.LocalPiece.seen) _ _ c.loop-map.sectors.items c.loop-map.map c.index_mut-sector.result.now lt c.index_mut-sector.ensures.value c.loop-map.invariant.went))
    (c.requires c.loop-map.map (let f = c.loop-map.invariant.size in omega (arith, lt, f)))

pub loop-map-preserved : goal.loop-map-preserved
loop-map-preserved g c =
    let lt : c.loop-map.map < length c.loop-map.sectors.items = let f = c.loop-map.invariant.size in omega (arith, c.len-map-end.ensures, f, c.args.sectors.now.ok.0) in
    record {
      went = goes_on (sector_seen g.P.LocalPiece.seen) _ _ c.loop-map.sectors.items c.loop-map.map c.index_mut-sector.result.now c.forget.new.self lt c.index_mut-sector.ensures.value c.loop-map.invariant.went c.forget.ensures.turns;
      size = search rules;
      shut = goes_on (sector_seen g.P.LocalPiece.seen) _ _ c.loop-map.sectors.items c.loop-map.map c.index_mut-sector.result.now c.forget.new.self lt c.index_mut-sector.ensures.value c.loop-map.invariant.shut c.forget.ensures.shut;
    }
