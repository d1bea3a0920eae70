use Rattle.std.proofs.Common.{◌<◌, ◌∙◌, sym, ap, length, arith, rules, subst, List, ℕ, Result}
use Rattle.vx_marks.specs.declared.marker.MarkFault.{MarkFault}
use Rattle.vx_pages.specs.Images.{images_seen}
use Rattle.vx_pages.specs.Reading.{IsKnownOn, IsSettled, MaySettle, Settles, image_at}
use Rattle.vx_pages.specs.Sector.{SectorSeen, IsOpen}
use Rattle.vx_pages.specs.Sectors.{sector_seen}
use Rattle.vx_pages.proofs.Loops.{goes_on, stops, still, inside_old, grown_on, risen_on}
use Rattle.vx_pages.proofs.Settlement.{image_is, images_count, known_at, settled_may, settled_none}
use Rattle.vx_pages.proofs.sectors.settle_all.Goals as goal

pub settle-requires-clause-whole : goal.settle-requires-clause-whole
settle-requires-clause-whole g c =
    let n = images_count c.args.images.now.items c.requires.images in
    let lt : c.loop-map.map < length c.args.images.now.items = omega (arith, n) in
    ap (λ (x : List ℕ). length x) (c.deref.ensures.value ∙ sym (image_is c.args.images.now.items c.loop-map.map c.index.result.now lt c.index.ensures))
    ∙ c.requires.images.whole c.loop-map.map c.loop-map-test.true

pub settle-requires-clause-open : goal.settle-requires-clause-open
settle-requires-clause-open g c =
    let lt : c.loop-map.map < length c.loop-map.sectors.items = let f = c.loop-map.invariant.size in omega (arith, f) in
    subst IsOpen (sym (still (sector_seen g.P.LocalPiece.seen) _ _ c.loop-map.sectors.items c.loop-map.map c.index_mut-sector.result.now lt c.index_mut-sector.ensures.value c.loop-map.invariant.went))
    (c.requires.open c.loop-map.map (inside_old (sector_seen g.P.LocalPiece.seen) _ _ c.loop-map.sectors.items c.loop-map.map lt c.loop-map.invariant.went))

pub settle-requires-clause-known : goal.settle-requires-clause-known
settle-requires-clause-known g c =
    let lt : c.loop-map.map < length c.loop-map.sectors.items = let f = c.loop-map.invariant.size in omega (arith, f) in
    let n = images_count c.args.images.now.items c.requires.images in
    let in' : c.loop-map.map < length c.args.images.now.items = omega (arith, n) in
    let image = c.deref.ensures.value ∙ sym (image_is c.args.images.now.items c.loop-map.map c.index.result.now in' c.index.ensures) in
    subst (λ (x : List ℕ). IsKnownOn c.args.known x (sector_seen g.P.LocalPiece.seen c.index_mut-sector.result.now).copies) (sym image)
    (subst (λ (s : SectorSeen). IsKnownOn c.args.known (image_at (images_seen c.args.images.now.items) c.loop-map.map) s.copies)
    (sym (still (sector_seen g.P.LocalPiece.seen) _ _ c.loop-map.sectors.items c.loop-map.map c.index_mut-sector.result.now lt c.index_mut-sector.ensures.value c.loop-map.invariant.went))
    (known_at c.args.known _ _ c.loop-map.map (inside_old (sector_seen g.P.LocalPiece.seen) _ _ c.loop-map.sectors.items c.loop-map.map lt c.loop-map.invariant.went) c.requires.known))

pub returns-in-Err-clause-settled : goal.returns-in-Err-clause-settled
returns-in-Err-clause-settled g c =
    let lt : c.loop-map.map < length c.loop-map.sectors.items = let f = c.loop-map.invariant.size in omega (arith, f) in
    let n = images_count c.args.images.now.items c.requires.images in
    let in' : c.loop-map.map < length c.args.images.now.items = omega (arith, n) in
    let image = c.deref.ensures.value ∙ sym (image_is c.args.images.now.items c.loop-map.map c.index.result.now in' c.index.ensures) in
    stops (sector_seen g.P.LocalPiece.seen) (λ m. IsSettled (image_at (images_seen c.args.images.now.items) m)) (λ m. MaySettle (image_at (images_seen c.args.images.now.items) m)) _ c.loop-map.sectors.items c.loop-map.map c.index_mut-sector.result.now c.settle.new.self lt c.index_mut-sector.ensures.value
    c.loop-map.invariant.went (λ m. settled_may (image_at (images_seen c.args.images.now.items) m)) (λ m. settled_none (image_at (images_seen c.args.images.now.items) m))
    (subst (λ (x : List ℕ). MaySettle x (sector_seen g.P.LocalPiece.seen c.index_mut-sector.result.now) (sector_seen g.P.LocalPiece.seen c.settle.new.self)) image c.in-Err.ensures.settles)

pub returns-in-Err-clause-cause : goal.returns-in-Err-clause-cause
returns-in-Err-clause-cause g c =
    let lt : c.loop-map.map < length c.loop-map.sectors.items = let f = c.loop-map.invariant.size in omega (arith, f) in
    risen_on (sector_seen g.P.LocalPiece.seen) _ c.loop-map.sectors.items c.loop-map.map c.index_mut-sector.result.now c.settle.new.self c.in-Err.fault lt c.index_mut-sector.ensures.value c.loop-map.invariant.grown c.in-Err.ensures.cause

pub loop-map-preserved : goal.loop-map-preserved
loop-map-preserved g c =
    let lt : c.loop-map.map < length c.loop-map.sectors.items = let f = c.loop-map.invariant.size in omega (arith, f) in
    let n = images_count c.args.images.now.items c.requires.images in
    let in' : c.loop-map.map < length c.args.images.now.items = omega (arith, n) in
    let image = c.deref.ensures.value ∙ sym (image_is c.args.images.now.items c.loop-map.map c.index.result.now in' c.index.ensures) in
    let settled : IsSettled (image_at (images_seen c.args.images.now.items) c.loop-map.map) (sector_seen g.P.LocalPiece.seen c.index_mut-sector.result.now) (sector_seen g.P.LocalPiece.seen c.settle.new.self) =
    subst (λ (x : List ℕ). IsSettled x (sector_seen g.P.LocalPiece.seen c.index_mut-sector.result.now) (sector_seen g.P.LocalPiece.seen c.settle.new.self)) image
    (subst (λ (r : Result (Unit {0}) MarkFault). Settles c.deref.result.now (sector_seen g.P.LocalPiece.seen c.index_mut-sector.result.now) (sector_seen g.P.LocalPiece.seen c.settle.new.self) r) c.in_default.is c.settle.ensures.settles) in
    record {
      went = goes_on (sector_seen g.P.LocalPiece.seen) _ _ c.loop-map.sectors.items c.loop-map.map c.index_mut-sector.result.now c.settle.new.self lt c.index_mut-sector.ensures.value c.loop-map.invariant.went settled;
      size = search rules;
      grown = grown_on (sector_seen g.P.LocalPiece.seen) _ c.loop-map.sectors.items c.loop-map.map c.index_mut-sector.result.now c.settle.new.self lt c.index_mut-sector.ensures.value c.loop-map.invariant.grown settled.kept.faults;
    }
