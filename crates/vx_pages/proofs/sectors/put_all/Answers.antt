use Rattle.std.proofs.Common.{◌<◌, ◌∙◌, ap, length, arith, rules, subst, Bool, Result, Ok, Err}
use Rattle.std.specs.Prelude.{◌≡◌, ◌&&◌, OnOk}
use Rattle.vx_marks.specs.declared.marker.MarkFault.{MarkFault}
use Rattle.vx_pages.specs.Bytes.{same_place}
use Rattle.vx_pages.specs.Sector.{SectorHands, SectorSeen, IsBitPut, HasCause, faults_at, is_cut, is_loose}
use Rattle.vx_pages.specs.Page.{asked}
use Rattle.vx_pages.specs.Sectors.{sector_seen}
use Rattle.vx_pages.proofs.Loops.{goes_on, stops, still, inside_old, quiet_on, cause_on}
use Rattle.vx_mask.specs.Mask.{has}
use Rattle.vx_pages.specs.Writes.{once_if}
use Rattle.vx_pages.proofs.Hands.{hands_may, hands_none}
use Rattle.vx_pages.proofs.Ways.{put_may, put_none}
use Rattle.vx_pages.proofs.sectors.put_all.Goals as goal

pub put_if-requires : goal.put_if-requires
put_if-requires g c other =
    let lt : c.loop-map.map < length c.loop-map.sectors.items = let f = c.loop-map.invariant.size in omega (arith, f) in
    ap (λ (s : SectorSeen). is_loose s other) (still (sector_seen g.P.LocalPiece.seen) _ _ c.loop-map.sectors.items c.loop-map.map c.index_mut-sector.result.now lt c.index_mut-sector.ensures.value c.loop-map.invariant.went)
    ∙ c.requires.clean c.loop-map.map other (inside_old (sector_seen g.P.LocalPiece.seen) _ _ c.loop-map.sectors.items c.loop-map.map lt c.loop-map.invariant.went)

pub returns-in-Err-clause-each : goal.returns-in-Err-clause-each
returns-in-Err-clause-each g c =
    let lt : c.loop-map.map < length c.loop-map.sectors.items = let f = c.loop-map.invariant.size in omega (arith, f) in
    stops (sector_seen g.P.LocalPiece.seen) (λ m. IsBitPut {T = Unit {0}} (asked c.args.bits c.args.region m) c.args.on (Ok tt)) (λ m. IsBitPut {T = Unit {0}} (asked c.args.bits c.args.region m) c.args.on (Err c.in-Err.fault)) _
    c.loop-map.sectors.items c.loop-map.map c.index_mut-sector.result.now c.put_if.new.self lt c.index_mut-sector.ensures.value
    c.loop-map.invariant.went (λ m a b h. put_may _ c.args.on c.in-Err.fault a b h) (λ m a. put_none _ c.args.on c.in-Err.fault a)
    (subst (λ (b : Bool). IsBitPut {T = Unit {0}} (λ other. b && same_place c.args.region other) c.args.on (Err c.in-Err.fault) (sector_seen g.P.LocalPiece.seen c.index_mut-sector.result.now) (sector_seen g.P.LocalPiece.seen c.put_if.new.self)) c.contains.ensures c.in-Err.ensures.goes)

pub returns-in-Err-clause-cause : goal.returns-in-Err-clause-cause
returns-in-Err-clause-cause g c =
    let lt : c.loop-map.map < length c.loop-map.sectors.items = let f = c.loop-map.invariant.size in omega (arith, f) in
    cause_on (sector_seen g.P.LocalPiece.seen) _ c.loop-map.sectors.items c.loop-map.map c.index_mut-sector.result.now c.put_if.new.self c.in-Err.fault lt c.index_mut-sector.ensures.value c.loop-map.invariant.quiet c.in-Err.ensures.cause

pub returns-in-Err-clause-counts : goal.returns-in-Err-clause-counts
returns-in-Err-clause-counts g c =
    let lt : c.loop-map.map < length c.loop-map.sectors.items = let f = c.loop-map.invariant.size in omega (arith, f) in
    stops (sector_seen g.P.LocalPiece.seen) (λ m a b. SectorHands {T = Unit {0}} (once_if (has c.args.bits m)) (Ok tt) a.copies b.copies) (λ m a b. SectorHands {T = Unit {0}} (once_if (has c.args.bits m)) (Err c.in-Err.fault) a.copies b.copies) _
    c.loop-map.sectors.items c.loop-map.map c.index_mut-sector.result.now c.put_if.new.self lt c.index_mut-sector.ensures.value
    c.loop-map.invariant.counted (λ m a b h. hands_may _ c.in-Err.fault _ _ h) (λ m a. hands_none _ c.in-Err.fault _)
    (subst (λ (b : Bool). SectorHands {T = Unit {0}} (once_if b) (Err c.in-Err.fault) (sector_seen g.P.LocalPiece.seen c.index_mut-sector.result.now).copies (sector_seen g.P.LocalPiece.seen c.put_if.new.self).copies) c.contains.ensures c.in-Err.ensures.counts)

pub loop-map-preserved : goal.loop-map-preserved
loop-map-preserved g c =
    let lt : c.loop-map.map < length c.loop-map.sectors.items = let f = c.loop-map.invariant.size in omega (arith, f) in
    let goes : IsBitPut {T = Unit {0}} (λ other. c.contains.result && same_place c.args.region other) c.args.on (Ok tt) (sector_seen g.P.LocalPiece.seen c.index_mut-sector.result.now) (sector_seen g.P.LocalPiece.seen c.put_if.new.self) =
    subst (λ (r : Result (Unit {0}) MarkFault). IsBitPut (λ other. c.contains.result && same_place c.args.region other) c.args.on r (sector_seen g.P.LocalPiece.seen c.index_mut-sector.result.now) (sector_seen g.P.LocalPiece.seen c.put_if.new.self)) c.in_default.is c.put_if.ensures.goes in
    record {
      went =
          goes_on (sector_seen g.P.LocalPiece.seen) _ _ c.loop-map.sectors.items c.loop-map.map c.index_mut-sector.result.now c.put_if.new.self lt c.index_mut-sector.ensures.value c.loop-map.invariant.went
          (subst (λ (b : Bool). IsBitPut {T = Unit {0}} (λ other. b && same_place c.args.region other) c.args.on (Ok tt) (sector_seen g.P.LocalPiece.seen c.index_mut-sector.result.now) (sector_seen g.P.LocalPiece.seen c.put_if.new.self)) c.contains.ensures goes);
      size = search rules;
      quiet =
          quiet_on (sector_seen g.P.LocalPiece.seen) _ c.loop-map.sectors.items c.loop-map.map c.index_mut-sector.result.now c.put_if.new.self lt c.index_mut-sector.ensures.value c.loop-map.invariant.quiet
          (subst (λ (r : Result (Unit {0}) MarkFault). HasCause (faults_at (sector_seen g.P.LocalPiece.seen c.index_mut-sector.result.now).copies) (faults_at (sector_seen g.P.LocalPiece.seen c.put_if.new.self).copies) (is_cut (sector_seen g.P.LocalPiece.seen c.put_if.new.self).copies) r) c.in_default.is c.put_if.ensures.cause);
      counted =
          goes_on (sector_seen g.P.LocalPiece.seen) _ _ c.loop-map.sectors.items c.loop-map.map c.index_mut-sector.result.now c.put_if.new.self lt c.index_mut-sector.ensures.value c.loop-map.invariant.counted
          (subst (λ (b : Bool). SectorHands {T = Unit {0}} (once_if b) (Ok tt) (sector_seen g.P.LocalPiece.seen c.index_mut-sector.result.now).copies (sector_seen g.P.LocalPiece.seen c.put_if.new.self).copies) c.contains.ensures
          (subst (λ (r : Result (Unit {0}) MarkFault). SectorHands (once_if c.contains.result) r (sector_seen g.P.LocalPiece.seen c.index_mut-sector.result.now).copies (sector_seen g.P.LocalPiece.seen c.put_if.new.self).copies) c.in_default.is c.put_if.ensures.counts));
      same =
          goes_on (sector_seen g.P.LocalPiece.seen) _ _ c.loop-map.sectors.items c.loop-map.map c.index_mut-sector.result.now c.put_if.new.self lt c.index_mut-sector.ensures.value c.loop-map.invariant.same
          (subst (λ (r : Result (Unit {0}) MarkFault). OnOk r ((sector_seen g.P.LocalPiece.seen c.put_if.new.self).loose ≡ (sector_seen g.P.LocalPiece.seen c.index_mut-sector.result.now).loose)) c.in_default.is c.put_if.ensures.same);
    }
