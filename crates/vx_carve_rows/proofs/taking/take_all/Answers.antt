use Rattle.std.proofs.Common.{arith, ◌≡◌, ◌≢◌, ℕ, ◌+◌, ◌-◌, ◌*◌, ◌<◌, ◌++◌, List, length, map, reverse, get_or, sym, ap, ◌∙◌, subst, inl}
use Rattle.std.specs.List.{flat_map}
use Rattle.std.proofs.lemmas.List.{map-append}
use Rattle.vx_piece.specs.Seen.{Seen}
use Rattle.vx_layout.specs.declared.layout.Layout.{Layout}
use Rattle.vx_carve.specs.Together.{SameSectors}
use Rattle.vx_carve.specs.Carved.{AreOn, AreFreeBlocks, AreApartBlocks, StaysBeside}
use Rattle.vx_carve.proofs.Same.{same_refl}
use Rattle.vx_carve.proofs.Runs.{once_rest}
use Rattle.vx_carve.proofs.Places.{blocks_on, blocks_free, list_apart, blocks_stay}
use Rattle.vx_carve.proofs.Plexes.{in_region, before_region, map_turned, same_rows_turned}
use Rattle.vx_carve_rows.specs.Setting.{numbers}
use Rattle.vx_carve_rows.proofs.Disks.{have_numbers, all_open, held, free_strips, are_plexes, in_total, more_rows}
use Rattle.vx_carve_rows.proofs.taking.take_all.Goals as goal

pub regions-init : goal.regions-init
regions-init g c =
    let setting = c.args.setting.now in
    let ps = map g.P.Piece.seen c.args.pool.now.items.items in
    record {
      few = (let e = c.regions-region.ensures in omega (arith, e));
      same = subst (λ (xs : List (List Seen)). SameSectors ps (flat_map (λ xs. xs) xs ++ ps)) (sym (ap (map (λ x. map g.P.Piece.seen x.items)) c.new-taken.ensures.items)) (same_refl ps);
      free = λ k d lt b less below.
          blocks_free (get_or setting.layouts.items k d) numbers ps 0 setting.geometry.length (held setting.sectors setting.geometry.length setting.layouts.items setting.set_out k d lt)
          (free_strips setting.sectors setting.geometry.length setting.layouts.items setting.set_out ps c.requires k d lt) b (omega arith) below;
    }

pub carve_region-requires-clause-once : goal.carve_region-requires-clause-once
carve_region-requires-clause-once g c κs within =
    once_rest (map g.P.Piece.seen c.args.pool.now.items.items) _ (map g.P.Piece.seen c.regions.pool.items.items) (all_open c.args.setting.now.sectors (map g.P.Piece.seen c.args.pool.now.items.items) c.requires).0 c.regions.invariant.same

pub carve_region-requires-clause-on : goal.carve_region-requires-clause-on
carve_region-requires-clause-on g c κs within =
    let setting = c.args.setting.now in
    let start = c.range_of-span.result.start in
    let end = c.range_of-span.result.start + c.range_of-span.result.count in
    let total = in_total ((c.regions.region - 1) * setting.geometry.region) setting.geometry.region setting.geometry.length start c.range_of-span.result.count c.range_of-span.ensures.start c.range_of-span.ensures.count c.range_of-span.ensures.some in
    subst (λ (ls : List Layout). (k : ℕ) (d : Layout) → k < length ls → AreOn numbers (get_or ls k d).unit (get_or ls k d).columns start end) (sym c.as_slice.ensures.value)
    (λ k d lt.
    let room = held setting.sectors setting.geometry.length setting.layouts.items setting.set_out k d lt in
    blocks_on (get_or setting.layouts.items k d) numbers start end (omega (arith, total, room))
    ((are_plexes setting.sectors setting.geometry.length setting.layouts.items setting.set_out (map g.P.Piece.seen c.args.pool.now.items.items) c.requires).numbered k d lt))

pub carve_region-requires-clause-free : goal.carve_region-requires-clause-free
carve_region-requires-clause-free g c κs within =
    let setting = c.args.setting.now in
    let t = c.regions-test.true in
    let start = c.range_of-span.result.start in
    let end = c.range_of-span.result.start + c.range_of-span.result.count in
    subst (λ (ls : List Layout). (k : ℕ) (d : Layout) → k < length ls → AreFreeBlocks numbers (get_or ls k d).unit (get_or ls k d).columns start end (map g.P.Piece.seen c.regions.pool.items.items)) (sym c.as_slice.ensures.value)
    (λ k d lt b from below.
    let inside = in_region (c.regions.region - 1) setting.geometry.region setting.geometry.length c.regions.region start c.range_of-span.result.count b (omega (arith, t)) c.range_of-span.ensures.start c.range_of-span.ensures.count c.range_of-span.ensures.some below in
    c.regions.invariant.free k d lt b inside.0 inside.1)

pub carve_region-requires-clause-plexes : goal.carve_region-requires-clause-plexes
carve_region-requires-clause-plexes g c κs within =
    let setting = c.args.setting.now in
    let start = c.range_of-span.result.start in
    let end = c.range_of-span.result.start + c.range_of-span.result.count in
    let total = in_total ((c.regions.region - 1) * setting.geometry.region) setting.geometry.region setting.geometry.length start c.range_of-span.result.count c.range_of-span.ensures.start c.range_of-span.ensures.count c.range_of-span.ensures.some in
    subst (λ (ls : List Layout). (j k : ℕ) (d : Layout) → j < length ls → k < length ls → j ≢ k → AreApartBlocks numbers (get_or ls j d).unit (get_or ls j d).columns (get_or ls k d).unit (get_or ls k d).columns start end) (sym c.as_slice.ensures.value)
    (λ j k d lt lt' other.
    let room = held setting.sectors setting.geometry.length setting.layouts.items setting.set_out j d lt in
    let room' = held setting.sectors setting.geometry.length setting.layouts.items setting.set_out k d lt' in
    list_apart numbers setting.layouts.items have_numbers (are_plexes setting.sectors setting.geometry.length setting.layouts.items setting.set_out (map g.P.Piece.seen c.args.pool.now.items.items) c.requires) j k d lt lt' other start end (omega (arith, total, room)) (omega (arith, total, room')))

pub regions-preserved : goal.regions-preserved
regions-preserved g c =
    let setting = c.args.setting.now in
    let inv = c.regions.invariant in
    let t = c.regions-test.true in
    let start = c.range_of-span.result.start in
    let end = c.range_of-span.result.start + c.range_of-span.result.count in
    let ps = map g.P.Piece.seen c.regions.pool.items.items in
    let qs = map g.P.Piece.seen c.carve_region.new.pool.items.items in
    let total = in_total ((c.regions.region - 1) * setting.geometry.region) setting.geometry.region setting.geometry.length start c.range_of-span.result.count c.range_of-span.ensures.start c.range_of-span.ensures.count c.range_of-span.ensures.some in
    let beside : StaysBeside numbers setting.layouts.items start end ps qs = subst (λ (ls : List Layout). StaysBeside numbers ls start end ps qs) c.as_slice.ensures.value c.in-Ok.ensures.beside in
    let rows : List (List Seen) = map (λ x. map g.P.Piece.seen x.items) c.regions.taken.items in
    let news : List (List Seen) = map (λ x. map g.P.Piece.seen x.items) c.in-Ok.plexes.items in
    let turned : List (List Seen) = map (λ x. map g.P.Piece.seen x.items) c.reverse.new.self.items in
    let back : turned ≡ reverse news = ap (map (λ x. map g.P.Piece.seen x.items)) c.reverse.ensures.items ∙ map_turned (λ x. map g.P.Piece.seen x.items) c.in-Ok.plexes.items in
    let joined : map (λ x. map g.P.Piece.seen x.items) c.append.new.self.items ≡ rows ++ turned =
    ap (map (λ x. map g.P.Piece.seen x.items)) c.in_ok-append-in-Ok.ensures.items ∙ map-append (λ x. map g.P.Piece.seen x.items) c.regions.taken.items c.reverse.new.self.items in
    let next : c.regions.region ≡ c.regions.region - 1 + 1 = omega (arith, t) in
    record {
      few = (let f = inv.few in omega (arith, f));
      same = subst (λ rs. SameSectors (map g.P.Piece.seen c.args.pool.now.items.items) (flat_map (λ xs. xs) rs ++ qs)) (sym joined) (more_rows (map g.P.Piece.seen c.args.pool.now.items.items) ps qs rows news turned inv.same c.in-Ok.ensures.taken back);
      free = λ k d lt b less below.
          let room = held setting.sectors setting.geometry.length setting.layouts.items setting.set_out k d lt in
          blocks_stay numbers setting.layouts.items have_numbers (are_plexes setting.sectors setting.geometry.length setting.layouts.items setting.set_out (map g.P.Piece.seen c.args.pool.now.items.items) c.requires) start end ps qs
          (λ j e lt'. let wide = held setting.sectors setting.geometry.length setting.layouts.items setting.set_out j e lt' in omega (arith, total, wide)) beside k d lt b (omega (arith, below, room)) (inl (subst (λ n. b < n) (sym c.range_of-span.ensures.start) less))
          (inv.free k d lt b (before_region (c.regions.region - 1) setting.geometry.region c.regions.region b next less) below);
    }

pub returns : goal.returns
returns g c = same_rows_turned (map g.P.Piece.seen c.args.pool.now.items.items) (map g.P.Piece.seen c.regions.pool.items.items) (map (λ x. map g.P.Piece.seen x.items) c.regions.taken.items) _ c.regions.invariant.same (ap (map (λ x. map g.P.Piece.seen x.items)) c.reverse-2.ensures.items ∙ map_turned (λ x. map g.P.Piece.seen x.items) c.regions.taken.items)
