-- The plexes of a region are taken one after the other.
use Rattle.std.proofs.Common.{arith, ◌≡◌, ℕ, ◌+◌, ◌++◌, [], ◌∷◌, List, length, map, get_or, sym, ap, ◌∙◌, subst}
use Rattle.std.proofs.lemmas.List.{map_push, length_push, length-map, get_or_read, take_more, take_all}
use Rattle.vx_piece.specs.Seen.{Seen}
use Rattle.vx_layout.specs.declared.layout.Layout.{Layout}
use Rattle.vx_layout.specs.Columns.{place_of}
use Rattle.vx_carve.specs.Together.{SameSectors}
use Rattle.vx_carve.specs.Carved.{AreApartBlocks, AreCut, IsAt}
use Rattle.vx_carve.proofs.Same.{same_trans}
use Rattle.vx_carve.proofs.Runs.{once_rest, same_after}
use Rattle.vx_carve.proofs.Spans.{others_stay}
use Rattle.vx_carve.proofs.Plexes.{row_put}
use Rattle.vx_cell.specs.Plexes.{PlexSeen, plexes_seen}
use Rattle.vx_lending.specs.RegionPieces.{own_pieces, pieces_of}
use Rattle.vx_lending.specs.RegionsTaken.{own_map}
use Rattle.vx_lending.proofs.RegionLists.{same_more}
use Rattle.vx_lending.proofs.Regions.{region_taken, seen_last, seen_long}
use Rattle.vx_lending.proofs.region.take_region.Goals as goal

pub carve_span-requires-clause-once : goal.carve_span-requires-clause-once
carve_span-requires-clause-once g c κs within = once_rest (map g.P.Piece.seen c.args.pool.now.items.items) _ (map g.P.Piece.seen c.plexes.pool.items.items) c.requires.once c.plexes.invariant.same

pub returns-in-Err-clause-kept : goal.returns-in-Err-clause-kept
returns-in-Err-clause-kept g c = same_trans _ _ _ c.plexes.invariant.same (same_after _ _ _ c.in-Err.ensures.kept)

pub plexes-preserved : goal.plexes-preserved
plexes-preserved g c =
    let inv = c.plexes.invariant in
    let t = c.plexes-test.true in
    let i = c.plexes.i in
    let l = c.index-layouts-i.result in
    let layouts = c.args.layouts.now in
    let maps = c.args.maps.now in
    let start = c.args.span.start in
    let end = c.args.span.start + c.args.span.count in
    let read : (d : Layout) → l ≡ get_or layouts i d = λ d. get_or_read layouts i l t c.index-layouts-i.is d in
    let plexes : List PlexSeen = plexes_seen g.P.Piece.seen c.plexes.plexes.items in
    let xs : List Seen = map g.P.Piece.seen c.in-Ok.pieces.items in
    let plex : PlexSeen = record { map = get_or maps i 0; pieces = xs } in
    let items = c.push_reserved.ensures.items in
    let now : plexes_seen g.P.Piece.seen c.push_reserved.new.self.items ≡ plexes ++ plex ∷ [] = seen_last g.P.Piece.seen c.push_reserved.new.self.items c.plexes.plexes.items _ items in
    let longer : length c.push_reserved.new.self.items ≡ length c.plexes.plexes.items + 1 = ap length items ∙ length_push c.plexes.plexes.items _ in
    let rows : List (List Seen) = map own_pieces plexes in
    let rows_long : length rows ≡ i = length-map plexes own_pieces ∙ seen_long g.P.Piece.seen c.plexes.plexes.items ∙ inv.long in
    let turned : map own_pieces (plexes_seen g.P.Piece.seen c.push_reserved.new.self.items) ≡ rows ++ xs ∷ [] = ap (map own_pieces) now ∙ map_push own_pieces plexes plex in
    let long = c.requires.maps in
    record {
      most = omega (arith, t);
      long = (let a = inv.long in omega (arith, a, longer));
      room = (let a = inv.room in let n = c.push_reserved.ensures.len in let k = c.push_reserved.ensures.capacity in omega (arith, a, n, k, t));
      maps_are = ap (map own_map) now ∙ map_push own_map plexes plex ∙ ap (λ (ms : List ℕ). ms ++ get_or maps i 0 ∷ []) inv.maps_are ∙ sym (take_more maps i 0 (omega (arith, t, long)));
      same = subst (λ rs. SameSectors (map g.P.Piece.seen c.args.pool.now.items.items) (pieces_of rs ++ map g.P.Piece.seen c.carve_span.new.pool.items.items)) (sym now) (same_more own_pieces _ (map g.P.Piece.seen c.plexes.pool.items.items) _ plexes plex inv.same c.in-Ok.ensures.taken);
      beside = λ device sector none.
          c.in-Ok.ensures.elsewhere device sector (λ b from below at. none i l (omega arith) b from below (subst (λ (m : Layout). IsAt c.args.numbers.now device sector (place_of m.unit m.columns b)) (read l) at))
          ∙ inv.beside device sector (λ k d lt b from below at. none k d (omega (arith, lt)) b from below at);
      free = λ k d from below.
          let other = get_or layouts k d in
          let apart : AreApartBlocks c.args.numbers.now l.unit l.columns other.unit other.columns start end =
          subst (λ (m : Layout). AreApartBlocks c.args.numbers.now m.unit m.columns other.unit other.columns start end) (sym (read d)) (c.requires.plexes i k d t below (omega (arith, from))) in
          others_stay c.args.numbers.now l.unit l.columns other.unit other.columns start end (map g.P.Piece.seen c.plexes.pool.items.items) (map g.P.Piece.seen c.carve_span.new.pool.items.items) apart c.in-Ok.ensures.elsewhere (inv.free k d (omega (arith, from)) below);
      cut = λ k d lt. subst (λ rs. AreCut c.args.numbers.now (get_or layouts k d).unit (get_or layouts k d).columns start end (get_or rs k [])) (sym turned)
          (row_put (λ n ys. AreCut c.args.numbers.now (get_or layouts n d).unit (get_or layouts n d).columns start end ys) rows xs i rows_long (λ n below. inv.cut n d below)
          (subst (λ (m : Layout). AreCut c.args.numbers.now m.unit m.columns start end xs) (read d) c.in-Ok.ensures.cut) k lt);
    }

pub returns-clause-region : goal.returns-clause-region
returns-clause-region g c =
    let t = c.plexes-test.false in
    let most = c.plexes.invariant.most in
    let long = c.requires.maps in
    region_taken c.args.numbers.now c.args.maps.now c.args.layouts.now c.args.span.start c.args.span.count (plexes_seen g.P.Piece.seen c.plexes.plexes.items) c.requires.maps c.requires.differ
    (c.plexes.invariant.maps_are ∙ take_all c.plexes.i c.args.maps.now (omega (arith, t, most, long)))
    (λ k d lt. c.plexes.invariant.cut k d (omega (arith, lt, t, most)))
