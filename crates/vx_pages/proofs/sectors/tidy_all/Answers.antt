use Rattle.std.proofs.Common.{◌<◌, length, arith, rules, subst, Result, Ok, Err}
use Rattle.vx_marks.specs.declared.marker.MarkFault.{MarkFault}
use Rattle.vx_pages.specs.Sector.{IsTidied, SectorHands, HasCause, faults_at, is_cut}
use Rattle.vx_pages.specs.Sectors.{sector_seen}
use Rattle.vx_pages.proofs.Loops.{goes_on, stops, quiet_on, cause_on}
use Rattle.vx_pages.specs.Writes.{is_open, once_if}
use Rattle.vx_pages.proofs.Hands.{hands_may, hands_none}
use Rattle.vx_pages.proofs.Ways.{tidied_may, tidied_none}
use Rattle.vx_pages.proofs.sectors.tidy_all.Goals as goal

pub returns-in-Err-clause-each : goal.returns-in-Err-clause-each
returns-in-Err-clause-each g c =
    let lt : c.loop-map.map < length c.loop-map.sectors.items = let f = c.loop-map.invariant.size in omega (arith, c.len-map-end.ensures, f, c.args.sectors.now.ok.0) in
    stops (sector_seen g.P.LocalPiece.seen) (λ m. IsTidied {T = Unit {0}} (Ok tt)) (λ m. IsTidied {T = Unit {0}} (Err c.in-Err.fault)) _ c.loop-map.sectors.items c.loop-map.map c.index_mut-sector.result.now c.tidy.new.self lt c.index_mut-sector.ensures.value
    c.loop-map.invariant.went (λ m a b h. tidied_may c.in-Err.fault a b h) (λ m a. tidied_none c.in-Err.fault a) c.in-Err.ensures.goes

pub returns-in-Err-clause-cause : goal.returns-in-Err-clause-cause
returns-in-Err-clause-cause g c =
    let lt : c.loop-map.map < length c.loop-map.sectors.items = let f = c.loop-map.invariant.size in omega (arith, c.len-map-end.ensures, f, c.args.sectors.now.ok.0) in
    cause_on (sector_seen g.P.LocalPiece.seen) _ c.loop-map.sectors.items c.loop-map.map c.index_mut-sector.result.now c.tidy.new.self c.in-Err.fault lt c.index_mut-sector.ensures.value c.loop-map.invariant.quiet c.in-Err.ensures.cause

pub returns-in-Err-clause-counts : goal.returns-in-Err-clause-counts
returns-in-Err-clause-counts g c =
    let lt : c.loop-map.map < length c.loop-map.sectors.items = let f = c.loop-map.invariant.size in omega (arith, c.len-map-end.ensures, f, c.args.sectors.now.ok.0) in
    stops (sector_seen g.P.LocalPiece.seen) (λ m a b. SectorHands {T = Unit {0}} (once_if (is_open a)) (Ok tt) a.copies b.copies) (λ m a b. SectorHands {T = Unit {0}} (once_if (is_open a)) (Err c.in-Err.fault) a.copies b.copies) _
    c.loop-map.sectors.items c.loop-map.map c.index_mut-sector.result.now c.tidy.new.self lt c.index_mut-sector.ensures.value
    c.loop-map.invariant.counted (λ m a b h. hands_may _ c.in-Err.fault _ _ h) (λ m a. hands_none _ c.in-Err.fault a.copies)
    c.in-Err.ensures.counts

pub loop-map-preserved : goal.loop-map-preserved
loop-map-preserved g c =
    let lt : c.loop-map.map < length c.loop-map.sectors.items = let f = c.loop-map.invariant.size in omega (arith, c.len-map-end.ensures, f, c.args.sectors.now.ok.0) in
    record {
      went =
          goes_on (sector_seen g.P.LocalPiece.seen) _ _ c.loop-map.sectors.items c.loop-map.map c.index_mut-sector.result.now c.tidy.new.self lt c.index_mut-sector.ensures.value c.loop-map.invariant.went
          (subst (λ (r : Result (Unit {0}) MarkFault). IsTidied r (sector_seen g.P.LocalPiece.seen c.index_mut-sector.result.now) (sector_seen g.P.LocalPiece.seen c.tidy.new.self)) c.in_default.is c.tidy.ensures.goes);
      size = search rules;
      quiet =
          quiet_on (sector_seen g.P.LocalPiece.seen) _ c.loop-map.sectors.items c.loop-map.map c.index_mut-sector.result.now c.tidy.new.self lt c.index_mut-sector.ensures.value c.loop-map.invariant.quiet
          (subst (λ (r : Result (Unit {0}) MarkFault). HasCause (faults_at (sector_seen g.P.LocalPiece.seen c.index_mut-sector.result.now).copies) (faults_at (sector_seen g.P.LocalPiece.seen c.tidy.new.self).copies) (is_cut (sector_seen g.P.LocalPiece.seen c.tidy.new.self).copies) r) c.in_default.is c.tidy.ensures.cause);
      counted =
          goes_on (sector_seen g.P.LocalPiece.seen) _ _ c.loop-map.sectors.items c.loop-map.map c.index_mut-sector.result.now c.tidy.new.self lt c.index_mut-sector.ensures.value c.loop-map.invariant.counted
          (subst (λ (r : Result (Unit {0}) MarkFault). SectorHands (once_if (is_open (sector_seen g.P.LocalPiece.seen c.index_mut-sector.result.now))) r (sector_seen g.P.LocalPiece.seen c.index_mut-sector.result.now).copies (sector_seen g.P.LocalPiece.seen c.tidy.new.self).copies) c.in_default.is c.tidy.ensures.counts);
    }
