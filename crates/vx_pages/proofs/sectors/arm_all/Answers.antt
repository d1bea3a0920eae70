use Rattle.std.proofs.Common.{◌<◌, length, arith, rules}
use Rattle.std.proofs.lemmas.List.{length-map}
use Rattle.vx_pages.specs.Arming.{armed_sector}
use Rattle.vx_pages.specs.Page.{no_sector}
use Rattle.vx_pages.specs.Sectors.{sector_seen}
use Rattle.vx_pages.proofs.Loops.{goes_on}
use Rattle.vx_pages.proofs.Rounds.{ends}
use Rattle.vx_pages.proofs.Settlement.{each_is}
use Rattle.vx_pages.proofs.sectors.arm_all.Goals as goal

pub loop-map-preserved : goal.loop-map-preserved
loop-map-preserved g c =
    let lt : c.loop-map.map < length c.loop-map.sectors.items = let f = c.loop-map.invariant.size in omega (arith, c.len-map-end.ensures, f, c.args.sectors.now.ok.0) in
    record { went = goes_on (sector_seen g.P.LocalPiece.seen) _ _ c.loop-map.sectors.items c.loop-map.map c.index_mut-sector.result.now c.arm.new.self lt c.index_mut-sector.ensures.value c.loop-map.invariant.went c.arm.ensures; size = search rules }

pub returns : goal.returns
returns g c = each_is no_sector (armed_sector c.args.stop) _ _ (ends no_sector _ c.loop-map.map _ _ (let f = c.loop-map.invariant.size in let e = length-map c.args.sectors.now.items (sector_seen g.P.LocalPiece.seen) in omega (arith, e, f, c.len-map-end.ensures, c.args.sectors.now.ok.0)) c.loop-map.invariant.went)
