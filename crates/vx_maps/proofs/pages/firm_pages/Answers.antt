use Rattle.std.proofs.Common.{◌<◌, ◌∙◌, length, arith, rules, refl, subst, Result, Ok, Err}
use Rattle.vx_marks.specs.Log.{OnMarks, MarkHasCause}
use Rattle.vx_marks.specs.declared.marker.MarkFault.{MarkFault}
use Rattle.vx_pages.specs.Firm.{FirmsAll, FirmsStore}
use Rattle.vx_pages.specs.Pages.{page_seen}
use Rattle.vx_maps.specs.Store.{PageGoes, no_page}
use Rattle.vx_pages.proofs.Rounds.{goes_on, starts, stops}
use Rattle.vx_pages.specs.Pages.{grid_seen}
use Rattle.vx_pages.specs.Sector.{KeepsPiece}
use Rattle.vx_pages.specs.Stays.{piece_same}
use Rattle.vx_maps.proofs.PageRows.{grid_on, places_set}
use Rattle.vx_maps.proofs.Steps.{grid_same}
use Rattle.vx_maps.proofs.Firmness.{firm_page, torn_page, firm_tidies, page_idle, quiet_on, cause_on}
use Rattle.vx_maps.proofs.pages.firm_pages.Goals as goal

pub returns-in-Err-clause-each : goal.returns-in-Err-clause-each
returns-in-Err-clause-each g c =
    let lt : c.loop-index.index < length c.loop-index.pages.items = let f = c.loop-index.invariant.size in omega (arith, c.len-index-end.ensures, f, c.args.pages.now.ok.0) in
    stops no_page (page_seen g.P.LocalPiece.seen) (λ i. PageGoes (FirmsStore {T = Unit {0}} (Ok tt))) (λ i. PageGoes (FirmsStore {T = Unit {0}} (Err c.in-Err.fault))) _ c.loop-index.pages.items c.loop-index.index c.index_mut-page.result.now c.firm.new.self lt c.index_mut-page.ensures.value
    c.loop-index.invariant.went (λ i a b h. firm_tidies c.in-Err.fault a b h) (λ i a. page_idle c.in-Err.fault a)
    (torn_page c.in-Err.fault _ _ c.in-Err.ensures.kept c.in-Err.ensures.told c.in-Err.ensures.claims)

pub returns-in-Err-clause-cause : goal.returns-in-Err-clause-cause
returns-in-Err-clause-cause g c =
    let lt : c.loop-index.index < length c.loop-index.pages.items = let f = c.loop-index.invariant.size in omega (arith, c.len-index-end.ensures, f, c.args.pages.now.ok.0) in
    cause_on (page_seen g.P.LocalPiece.seen) _ c.loop-index.pages.items c.loop-index.index c.index_mut-page.result.now c.firm.new.self c.in-Err.fault lt c.index_mut-page.ensures.value refl c.loop-index.invariant.quiet c.in-Err.ensures.cause

pub loop-index-preserved : goal.loop-index-preserved
loop-index-preserved g c =
    let lt : c.loop-index.index < length c.loop-index.pages.items = let f = c.loop-index.invariant.size in omega (arith, c.len-index-end.ensures, f, c.args.pages.now.ok.0) in
    record {
      went =
          goes_on no_page (page_seen g.P.LocalPiece.seen) _ _ c.loop-index.pages.items c.loop-index.index c.index_mut-page.result.now c.firm.new.self lt c.index_mut-page.ensures.value c.loop-index.invariant.went
          (firm_page _ _ c.firm.ensures.kept
          (subst (λ (r : Result (Unit {0}) MarkFault). OnMarks (FirmsAll r) (page_seen g.P.LocalPiece.seen c.index_mut-page.result.now).told (page_seen g.P.LocalPiece.seen c.firm.new.self).told) c.in_default.is c.firm.ensures.told)
          c.firm.ensures.claims);
      size = search rules;
      places = places_set c.loop-index.pages.items c.loop-index.index c.index_mut-page.result.now c.firm.new.self c.index_mut-page.ensures.value c.firm.ensures.stays.place ∙ c.loop-index.invariant.places;
      rows = grid_on (grid_seen g.P.LocalPiece.seen c.args.pages.now.items) c.loop-index.pages.items c.loop-index.index c.index_mut-page.result.now c.firm.new.self lt c.index_mut-page.ensures.value c.loop-index.invariant.rows c.firm.ensures.stays.pieces;
      quiet =
          quiet_on (page_seen g.P.LocalPiece.seen) _ c.loop-index.pages.items c.loop-index.index c.index_mut-page.result.now c.firm.new.self lt c.index_mut-page.ensures.value c.loop-index.invariant.quiet
          (subst (λ (r : Result (Unit {0}) MarkFault). MarkHasCause (page_seen g.P.LocalPiece.seen c.index_mut-page.result.now) (page_seen g.P.LocalPiece.seen c.firm.new.self) r) c.in_default.is c.firm.ensures.cause);
    }

pub loop-index-init : goal.loop-index-init
loop-index-init g c = record { went = starts no_page _ _; size = refl; places = refl; rows = grid_same KeepsPiece piece_same _; quiet = λ copy device. refl }

pub returns-in-Err-clause-places : goal.returns-in-Err-clause-places
returns-in-Err-clause-places g c = places_set c.loop-index.pages.items c.loop-index.index c.index_mut-page.result.now c.firm.new.self c.index_mut-page.ensures.value c.firm.ensures.stays.place ∙ c.loop-index.invariant.places

pub returns-in-Err-clause-goes : goal.returns-in-Err-clause-goes
returns-in-Err-clause-goes g c =
    let lt : c.loop-index.index < length c.loop-index.pages.items = let f = c.loop-index.invariant.size in omega (arith, c.len-index-end.ensures, f, c.args.pages.now.ok.0) in
    grid_on (grid_seen g.P.LocalPiece.seen c.args.pages.now.items) c.loop-index.pages.items c.loop-index.index c.index_mut-page.result.now c.firm.new.self lt c.index_mut-page.ensures.value c.loop-index.invariant.rows c.firm.ensures.stays.pieces
