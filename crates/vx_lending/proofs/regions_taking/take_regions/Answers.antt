-- The regions are taken one after the other, the last one first.
use Rattle.std.proofs.Common.{rules, arith, ◌≡◌, ℕ, ◌+◌, ◌-◌, ◌*◌, ◌<◌, ◌++◌, [], ◌∷◌, List, length, map, min, reverse, get_or, refl, sym, ap, ◌∙◌, subst, inl}
use Rattle.std.proofs.lemmas.List.{length_push, length-map, length-reverse}
use Rattle.std.proofs.lemmas.List.Elements.{All-get_or}
use Rattle.vx_piece.specs.Seen.{Seen}
use Rattle.vx_layout.specs.declared.layout.Layout.{Layout}
use Rattle.vx_carve.specs.Together.{SameSectors}
use Rattle.vx_carve.specs.Strips.{EachStrip, HasNumber, IsFreeStrip}
use Rattle.vx_carve.proofs.Same.{same_refl, same_trans}
use Rattle.vx_carve.proofs.Runs.{once_rest}
use Rattle.vx_carve.proofs.Plexes.{in_region, before_region, after_region}
use Rattle.vx_carve.proofs.Places.{blocks_on, blocks_free, blocks_stay, list_apart}
use Rattle.vx_cell.specs.Plexes.{PlexSeen, plexes_seen}
use Rattle.vx_volume.specs.Opening.{regions_seen}
use Rattle.vx_lending.specs.RegionPieces.{all_pieces, pieces_of}
use Rattle.vx_lending.specs.RegionsTaken.{IsTakenRegion}
use Rattle.vx_lending.proofs.RegionLists.{same_more, same_turned, map_last, map_turned, items_more, items_turned}
use Rattle.vx_lending.proofs.regions_taking.take_regions.Goals as goal

pub regions-init : goal.regions-init
regions-init g c =
    let empty : c.reserve_exact.new.self.items ≡ [] = c.reserve_exact.ensures.items ∙ c.new-regions.ensures.items in
    let none : length c.reserve_exact.new.self.items ≡ 0 = ap length empty in
    record {
      most = search rules;
      room = search rules;
      same = subst (λ rs. SameSectors (map g.P.Piece.seen c.args.pool.now.items.items) (all_pieces (regions_seen g.P.Piece.seen rs) ++ map g.P.Piece.seen c.args.pool.now.items.items)) (sym empty) (same_refl _);
      beside = λ device sector none. refl;
      free = λ k d lt b low below. blocks_free (get_or c.args.layouts.now k d) c.args.numbers.now (map g.P.Piece.seen c.args.pool.now.items.items) 0 c.args.geometry.now.length (c.requires.inside k d lt)
          (All-get_or (λ (l : Layout). EachStrip (IsFreeStrip c.args.numbers.now (map g.P.Piece.seen c.args.pool.now.items.items)) l.columns) c.args.layouts.now k d lt c.requires.free) b (omega arith) below;
      taken = λ k lt. absurd (omega (arith, lt, none));
    }

pub take_region-requires-clause-once : goal.take_region-requires-clause-once
take_region-requires-clause-once g c κs within = once_rest (map g.P.Piece.seen c.args.pool.now.items.items) _ (map g.P.Piece.seen c.regions.pool.items.items) c.requires.once c.regions.invariant.same

pub take_region-requires-clause-on : goal.take_region-requires-clause-on
take_region-requires-clause-on g c κs within k d lt =
    let inside = c.requires.inside k d lt in
    let start = c.range_of.ensures.start in
    let count = c.range_of.ensures.count in
    let some = c.range_of.ensures.some in
    blocks_on (get_or c.args.layouts.now k d) c.args.numbers.now c.range_of.result.start (c.range_of.result.start + c.range_of.result.count) (omega (arith, inside, start, count, some))
    (All-get_or (λ (l : Layout). EachStrip (HasNumber c.args.numbers.now) l.columns) c.args.layouts.now k d lt c.requires.plexes.numbered)

pub take_region-requires-clause-free : goal.take_region-requires-clause-free
take_region-requires-clause-free g c κs within k d lt b from below =
    let t = c.regions-test.true in
    let inside = in_region (c.regions.region - 1) c.args.geometry.now.region c.args.geometry.now.length c.regions.region c.range_of.result.start c.range_of.result.count b (omega (arith, t)) c.range_of.ensures.start c.range_of.ensures.count c.range_of.ensures.some below in
    c.regions.invariant.free k d lt b inside.0 inside.1

pub take_region-requires-clause-plexes : goal.take_region-requires-clause-plexes
take_region-requires-clause-plexes g c κs within j k d first second differ =
    let inside = c.requires.inside j d first in
    let inside' = c.requires.inside k d second in
    let start = c.range_of.ensures.start in
    let count = c.range_of.ensures.count in
    let some = c.range_of.ensures.some in
    list_apart c.args.numbers.now c.args.layouts.now c.requires.apart c.requires.plexes j k d first second differ c.range_of.result.start (c.range_of.result.start + c.range_of.result.count) (omega (arith, inside, start, count, some)) (omega (arith, inside', start, count, some))

pub regions-preserved : goal.regions-preserved
regions-preserved g c =
    let inv = c.regions.invariant in
    let t = c.regions-test.true in
    let j = c.regions.region - 1 in
    let size = c.args.geometry.now.region in
    let total = c.args.geometry.now.length in
    let m = length c.regions.regions.items in
    let next : c.regions.region ≡ j + 1 = omega (arith, t) in
    let start = c.range_of.ensures.start in
    let count = c.range_of.ensures.count in
    let some = c.range_of.ensures.some in
    let rows : List (List PlexSeen) = regions_seen g.P.Piece.seen c.regions.regions.items in
    let plexes : List PlexSeen = plexes_seen g.P.Piece.seen c.in-Ok.plexes.items in
    let items = c.push_reserved.ensures.items in
    let longer : length c.push_reserved.new.self.items ≡ m + 1 = ap length items ∙ length_push c.regions.regions.items c.in-Ok.plexes in
    let now : regions_seen g.P.Piece.seen c.push_reserved.new.self.items ≡ rows ++ plexes ∷ [] = map_last (λ x. plexes_seen g.P.Piece.seen x.items) c.push_reserved.new.self.items c.regions.regions.items c.in-Ok.plexes items in
    let Q : ℕ → List PlexSeen → Type 0 = λ n ps. IsTakenRegion c.args.numbers.now c.args.maps.now c.args.layouts.now (n * size) (min size (total - n * size)) ps in
    let here : Q j plexes = subst (λ n. IsTakenRegion c.args.numbers.now c.args.maps.now c.args.layouts.now (j * size) n plexes) count (subst (λ n. IsTakenRegion c.args.numbers.now c.args.maps.now c.args.layouts.now n c.range_of.result.count plexes) start c.in-Ok.ensures.region) in
    let rows_long : length rows ≡ m = length-map c.regions.regions.items (λ x. plexes_seen g.P.Piece.seen x.items) in
    record {
      most = (let a = inv.most in omega (arith, a, longer, t));
      room = (let a = inv.room in let l = c.push_reserved.ensures.len in let k = c.push_reserved.ensures.capacity in omega (arith, a, l, k, t));
      same = subst (λ rs. SameSectors (map g.P.Piece.seen c.args.pool.now.items.items) (all_pieces rs ++ map g.P.Piece.seen c.take_region.new.pool.items.items)) (sym now) (same_more pieces_of _ (map g.P.Piece.seen c.regions.pool.items.items) _ rows plexes inv.same c.in-Ok.ensures.taken);
      beside = λ device sector none.
          c.in-Ok.ensures.beside device sector (λ k d lt b from below at. let inside = in_region j size total c.regions.region c.range_of.result.start c.range_of.result.count b next start count some below in none k d lt b (omega (arith, from, start)) inside.1 at)
          ∙ inv.beside device sector (λ k d lt b from below at. none k d lt b (after_region j size c.regions.region b next from) below at);
      free = λ k d lt b low below.
          let fits = c.requires.inside k d lt in
          blocks_stay c.args.numbers.now c.args.layouts.now c.requires.apart c.requires.plexes c.range_of.result.start (c.range_of.result.start + c.range_of.result.count) (map g.P.Piece.seen c.regions.pool.items.items) (map g.P.Piece.seen c.take_region.new.pool.items.items)
          (λ n e less. let inside = c.requires.inside n e less in omega (arith, inside, start, count, some)) c.in-Ok.ensures.beside k d lt b (omega (arith, below, fits)) (inl (subst (λ n. b < n) (sym start) low)) (inv.free k d lt b (before_region j size c.regions.region b next low) below);
      taken = λ k lt. subst (λ n. Q (j + (n - 1 - k)) (get_or (regions_seen g.P.Piece.seen c.push_reserved.new.self.items) k [])) (sym longer) (subst (λ rs. Q (j + (m + 1 - 1 - k)) (get_or rs k [])) (sym now) (items_more Q [] rows plexes j c.regions.region m next rows_long inv.taken here k (omega (arith, lt, longer))));
    }

pub returns-clause-regions : goal.returns-clause-regions
returns-clause-regions g c k lt =
    let t = c.regions-test.false in
    let size = c.args.geometry.now.region in
    let total = c.args.geometry.now.length in
    let m = length c.regions.regions.items in
    let rows : List (List PlexSeen) = regions_seen g.P.Piece.seen c.regions.regions.items in
    let Q : ℕ → List PlexSeen → Type 0 = λ n ps. IsTakenRegion c.args.numbers.now c.args.maps.now c.args.layouts.now (n * size) (min size (total - n * size)) ps in
    let rows_long : length rows ≡ m = length-map c.regions.regions.items (λ x. plexes_seen g.P.Piece.seen x.items) in
    let turned : regions_seen g.P.Piece.seen c.reverse.new.self.items ≡ reverse rows = map_turned (λ x. plexes_seen g.P.Piece.seen x.items) c.regions.regions.items c.reverse.new.self.items c.reverse.ensures.items in
    let long : length (regions_seen g.P.Piece.seen c.reverse.new.self.items) ≡ m = ap length turned ∙ length-reverse rows ∙ rows_long in
    subst (λ rs. Q k (get_or rs k [])) (sym turned) (items_turned Q [] rows c.regions.region m (omega (arith, t)) rows_long c.regions.invariant.taken k (omega (arith, lt, long)))

pub returns-clause-taken : goal.returns-clause-taken
returns-clause-taken g c = same_turned pieces_of (map g.P.Piece.seen c.args.pool.now.items.items) (map g.P.Piece.seen c.regions.pool.items.items) (regions_seen g.P.Piece.seen c.regions.regions.items) _ c.regions.invariant.same (map_turned (λ x. plexes_seen g.P.Piece.seen x.items) c.regions.regions.items c.reverse.new.self.items c.reverse.ensures.items)

pub returns-in-Err-clause-kept : goal.returns-in-Err-clause-kept
returns-in-Err-clause-kept g c =
    let rows : List (List PlexSeen) = regions_seen g.P.Piece.seen c.regions.regions.items in
    let plexes : List PlexSeen = plexes_seen g.P.Piece.seen c.in-Err.plexes.items in
    let now : regions_seen g.P.Piece.seen c.push_reserved-in-Err.new.self.items ≡ rows ++ plexes ∷ [] = map_last (λ x. plexes_seen g.P.Piece.seen x.items) c.push_reserved-in-Err.new.self.items c.regions.regions.items c.in-Err.plexes c.push_reserved-in-Err.ensures.items in
    let out : List Seen = map g.P.Piece.seen c.take_region.new.pool.items.items in
    let all : SameSectors (map g.P.Piece.seen c.args.pool.now.items.items) (all_pieces (rows ++ plexes ∷ []) ++ out) = same_more pieces_of _ (map g.P.Piece.seen c.regions.pool.items.items) _ rows plexes c.regions.invariant.same c.in-Err.ensures.kept in
    same_trans _ _ _ (subst (λ rs. SameSectors (map g.P.Piece.seen c.args.pool.now.items.items) (all_pieces rs ++ out)) (sym now) all) c.refused.ensures
