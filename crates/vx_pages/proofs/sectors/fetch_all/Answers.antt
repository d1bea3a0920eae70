use Rattle.std.proofs.Common.{◌<◌, ◌∙◌, sym, ap, length, arith, rules, subst, List, ℕ, Result}
use Rattle.vx_marks.specs.declared.marker.MarkFault.{MarkFault}
use Rattle.vx_pages.specs.Page.{sector_at, sectors_seen}
use Rattle.vx_pages.specs.Reading.{Gives, IsCopyOf, IsWhatIs, ReadsSector}
use Rattle.vx_pages.specs.Sector.{SectorSeen, HasCause, copy_of, faults_at, is_cut}
use Rattle.vx_pages.specs.Sectors.{sector_seen}
use Rattle.vx_pages.proofs.Loops.{goes_on, stops, still, inside_old, quiet_on, cause_on}
use Rattle.vx_pages.proofs.Settlement.{image_is, images_count, images_set, gives_on, reads_none}
use Rattle.vx_pages.proofs.sectors.fetch_all.Goals as goal

pub fetch-requires-clause-whole : goal.fetch-requires-clause-whole
fetch-requires-clause-whole g c =
    let n = images_count c.loop-map.images.items c.loop-map.invariant.images in
    let lt : c.loop-map.map < length c.loop-map.images.items = omega (arith, n) in
    ap (λ (x : List ℕ). length x) (sym (image_is c.loop-map.images.items c.loop-map.map c.index_mut-image.result.now lt c.index_mut-image.ensures.value))
    ∙ c.loop-map.invariant.images.whole c.loop-map.map c.loop-map-test.true

pub fetch-requires-clause-there : goal.fetch-requires-clause-there
fetch-requires-clause-there g c =
    let lt : c.loop-map.map < length c.loop-map.sectors.items = let f = c.loop-map.invariant.size in omega (arith, f) in
    subst (λ (s : SectorSeen). IsCopyOf c.args.copy s.copies) (sym (still (sector_seen g.P.LocalPiece.seen) _ _ c.loop-map.sectors.items c.loop-map.map c.index_mut-sector.result.now lt c.index_mut-sector.ensures.value c.loop-map.invariant.went))
    (c.requires.there c.loop-map.map (inside_old (sector_seen g.P.LocalPiece.seen) _ _ c.loop-map.sectors.items c.loop-map.map lt c.loop-map.invariant.went))

pub returns-in-Err-clause-reads : goal.returns-in-Err-clause-reads
returns-in-Err-clause-reads g c =
    let lt : c.loop-map.map < length c.loop-map.sectors.items = let f = c.loop-map.invariant.size in omega (arith, f) in
    stops (sector_seen g.P.LocalPiece.seen) (λ m. ReadsSector) (λ m. ReadsSector) _ c.loop-map.sectors.items c.loop-map.map c.index_mut-sector.result.now c.fetch.new.self lt c.index_mut-sector.ensures.value
    c.loop-map.invariant.went (λ m a b h. h) (λ m a. reads_none a) c.in-Err.ensures.reads

pub returns-in-Err-clause-images : goal.returns-in-Err-clause-images
returns-in-Err-clause-images g c =
    let n = images_count c.loop-map.images.items c.loop-map.invariant.images in
    let in' : c.loop-map.map < length c.loop-map.images.items = omega (arith, n) in
    images_set c.loop-map.images.items c.loop-map.map c.fetch.new.into in'
    (c.in-Err.ensures.length ∙ ap (λ (x : List ℕ). length x) (sym (image_is c.loop-map.images.items c.loop-map.map c.index_mut-image.result.now in' c.index_mut-image.ensures.value)) ∙ c.loop-map.invariant.images.whole c.loop-map.map c.loop-map-test.true)
    c.loop-map.invariant.images

pub returns-in-Err-clause-cause : goal.returns-in-Err-clause-cause
returns-in-Err-clause-cause g c =
    let lt : c.loop-map.map < length c.loop-map.sectors.items = let f = c.loop-map.invariant.size in omega (arith, f) in
    cause_on (sector_seen g.P.LocalPiece.seen) _ c.loop-map.sectors.items c.loop-map.map c.index_mut-sector.result.now c.fetch.new.self c.in-Err.fault lt c.index_mut-sector.ensures.value c.loop-map.invariant.quiet c.in-Err.ensures.cause

pub loop-map-preserved : goal.loop-map-preserved
loop-map-preserved g c =
    let lt : c.loop-map.map < length c.loop-map.sectors.items = let f = c.loop-map.invariant.size in omega (arith, f) in
    let n = images_count c.loop-map.images.items c.loop-map.invariant.images in
    let in' : c.loop-map.map < length c.loop-map.images.items = omega (arith, n) in
    let whole =
    ap (λ (x : List ℕ). length x) (sym (image_is c.loop-map.images.items c.loop-map.map c.index_mut-image.result.now in' c.index_mut-image.ensures.value))
    ∙ c.loop-map.invariant.images.whole c.loop-map.map c.loop-map-test.true in
    let same = still (sector_seen g.P.LocalPiece.seen) _ _ c.loop-map.sectors.items c.loop-map.map c.index_mut-sector.result.now lt c.index_mut-sector.ensures.value c.loop-map.invariant.went in
    record {
      went = goes_on (sector_seen g.P.LocalPiece.seen) _ _ c.loop-map.sectors.items c.loop-map.map c.index_mut-sector.result.now c.fetch.new.self lt c.index_mut-sector.ensures.value c.loop-map.invariant.went c.fetch.ensures.reads;
      size = search rules;
      images = images_set c.loop-map.images.items c.loop-map.map c.fetch.new.into in' (c.fetch.ensures.length ∙ whole) c.loop-map.invariant.images;
      gives =
          gives_on c.loop-map.images.items c.loop-map.map c.fetch.new.into (λ m. copy_of (sector_at (sectors_seen g.P.LocalPiece.seen c.args.sectors.now.items) m).copies c.args.copy) in' c.loop-map.invariant.gives
          (subst (λ (s : SectorSeen). IsWhatIs c.fetch.new.into.items (copy_of s.copies c.args.copy)) same
          (subst (λ (r : Result (Unit {0}) MarkFault). Gives c.fetch.new.into.items (copy_of (sector_seen g.P.LocalPiece.seen c.index_mut-sector.result.now).copies c.args.copy) r) c.in_default.is c.fetch.ensures.gives));
      quiet =
          quiet_on (sector_seen g.P.LocalPiece.seen) _ c.loop-map.sectors.items c.loop-map.map c.index_mut-sector.result.now c.fetch.new.self lt c.index_mut-sector.ensures.value c.loop-map.invariant.quiet
          (subst (λ (r : Result (Unit {0}) MarkFault). HasCause (faults_at (sector_seen g.P.LocalPiece.seen c.index_mut-sector.result.now).copies) (faults_at (sector_seen g.P.LocalPiece.seen c.fetch.new.self).copies) (is_cut (sector_seen g.P.LocalPiece.seen c.fetch.new.self).copies) r) c.in_default.is c.fetch.ensures.cause);
    }
