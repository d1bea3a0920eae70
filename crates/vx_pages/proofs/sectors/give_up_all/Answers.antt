use Rattle.std.proofs.Common.{◌≡◌, ◌<◌, length, arith, rules, subst, sym, true}
use Rattle.std.specs.Prelude.{◌-◌, is_some}
use Rattle.std.proofs.lemmas.List.{length-map}
use Rattle.vx_pages.specs.Page.{no_sector, sectors_seen}
use Rattle.vx_pages.specs.Parting.{only_sector}
use Rattle.vx_pages.specs.Sector.{SectorSeen}
use Rattle.vx_pages.specs.Sectors.{sector_seen}
use Rattle.vx_pages.proofs.Loops.{goes_on, still, inside_old}
use Rattle.vx_pages.proofs.Partings.{one_more}
use Rattle.vx_pages.proofs.Rounds.{ends}
use Rattle.vx_pages.proofs.Settlement.{each_is}
use Rattle.vx_pages.proofs.sectors.give_up_all.Goals as goal

pub give_up-requires-clause-pair : goal.give_up-requires-clause-pair
give_up-requires-clause-pair g c =
    let lt : c.loop-map.map < length c.loop-map.sectors.items = let f = c.loop-map.invariant.size in omega (arith, c.len-map-end.ensures, f, c.args.sectors.now.ok.0) in
    subst (λ (s : SectorSeen). is_some s.copies.second ≡ true) (sym (still (sector_seen g.P.LocalPiece.seen) _ _ c.loop-map.sectors.items c.loop-map.map c.index_mut-sector.result.now lt c.index_mut-sector.ensures.value c.loop-map.invariant.went))
    (c.requires.pairs c.loop-map.map (inside_old (sector_seen g.P.LocalPiece.seen) _ _ c.loop-map.sectors.items c.loop-map.map lt c.loop-map.invariant.went))

pub loop-map-preserved : goal.loop-map-preserved
loop-map-preserved g c =
    let lt : c.loop-map.map < length c.loop-map.sectors.items = let f = c.loop-map.invariant.size in omega (arith, c.len-map-end.ensures, f, c.args.sectors.now.ok.0) in
    record {
      went = goes_on (sector_seen g.P.LocalPiece.seen) _ _ c.loop-map.sectors.items c.loop-map.map c.index_mut-sector.result.now c.give_up.new.self lt c.index_mut-sector.ensures.value c.loop-map.invariant.went c.give_up.ensures.left;
      size = search rules;
      gone =
          one_more g.P.LocalPiece.seen c.args.copy (sectors_seen g.P.LocalPiece.seen c.args.sectors.now.items) c.loop-map.map (sector_seen g.P.LocalPiece.seen c.index_mut-sector.result.now) c.loop-map.gone.items c.push_reserved.new.self.items c.give_up.result
          (inside_old (sector_seen g.P.LocalPiece.seen) _ _ c.loop-map.sectors.items c.loop-map.map lt c.loop-map.invariant.went)
          (still (sector_seen g.P.LocalPiece.seen) _ _ c.loop-map.sectors.items c.loop-map.map c.index_mut-sector.result.now lt c.index_mut-sector.ensures.value c.loop-map.invariant.went)
          c.push_reserved.ensures.items c.give_up.ensures.gone c.loop-map.invariant.gone;
      count = search rules;
      capacity = search rules;
    }

pub returns-clause-left : goal.returns-clause-left
returns-clause-left g c =
    each_is no_sector (only_sector (1 - c.args.copy)) _ _
    (ends no_sector _ c.loop-map.map _ _ (let f = c.loop-map.invariant.size in let e = length-map c.args.sectors.now.items (sector_seen g.P.LocalPiece.seen) in omega (arith, e, f, c.len-map-end.ensures, c.args.sectors.now.ok.0)) c.loop-map.invariant.went)
