-- The regions are taken, and lie behind what was left over.
use Rattle.std.proofs.Common.{◌≡◌, ◌∙◌, ◌++◌, [], ◌∷◌, List, map, length, vec_len, arith, sym, subst}
use Rattle.std.specs.List.{All}
use Rattle.std.proofs.lemmas.Bool.{eqb-true}
use Rattle.std.proofs.lemmas.List.{nil_from_length}
use Rattle.std.proofs.lemmas.List.Elements.{All-nil, All-cons}
use Rattle.vx_block.specs.Regions.{region_count}
use Rattle.vx_layout.specs.declared.layout.Layout.{Layout}
use Rattle.vx_carve.specs.Strips.{EachStrip, IsFreeStrip}
use Rattle.vx_volume.specs.Opening.{regions_seen}
use Rattle.vx_lending.specs.RegionsTaken.{AreTakenRegions}
use Rattle.vx_plex_pieces.proofs.Stills.{parked_still, put_still}
use Rattle.vx_plex_pieces.proofs.parking.park_plex.Goals as goal

pub take_regions-requires-clause-free : goal.take_regions-requires-clause-free
take_regions-requires-clause-free g c κs within =
    let P = λ (l : Layout). EachStrip (IsFreeStrip c.args.numbers.now (map g.P.Piece.seen c.args.public.now.pool.items.items)) l.columns in
    subst (All P) (sym c.from_ref.ensures.value) (All-cons P c.args.layout.now [] c.requires.free (All-nil P))

pub returns-in-Ok-clause-parked : goal.returns-in-Ok-clause-parked
returns-in-Ok-clause-parked g c =
    let has = c.leave.ensures.parked in
    let geometry = c.args.geometry.now in
    record {
      last = has.last;
      left = subst (λ rs. c.leave.new.public.left.items ≡ rs ++ has.last ∷ []) c.reserve.ensures.items has.left;
      long = subst (λ (rs : List _). length rs ≡ region_count geometry.length geometry.region) (sym has.regions_are) c.in-Ok.ensures.long;
      regions = subst (λ rs. AreTakenRegions c.args.numbers.now (c.args.map ∷ []) (c.args.layout.now ∷ []) geometry.length geometry.region (regions_seen g.P.Piece.seen rs)) (sym has.regions_are)
          (subst (λ ls. AreTakenRegions c.args.numbers.now (c.args.map ∷ []) ls geometry.length geometry.region (regions_seen g.P.Piece.seen c.in-Ok.regions.items)) c.from_ref.ensures.value c.in-Ok.ensures.regions);
      without = has.without;
    }

pub returns-in-Ok-clause-still : goal.returns-in-Ok-clause-still
returns-in-Ok-clause-still g c =
    parked_still g.P.Piece.seen c.in-Ok.regions.items c.args.public.now (record c.args.public.now { pool = c.take_regions.new.pool; left = c.reserve.new.self }) c.leave.new.public c.reserve.ensures.items
    c.leave.ensures.parked c.leave.ensures.pool c.in-Ok.ensures.taken

pub returns-then-not-is_empty-clause-still : goal.returns-then-not-is_empty-clause-still
returns-then-not-is_empty-clause-still g c =
    parked_still g.P.Piece.seen c.in-Err.regions.items c.args.public.now (record c.args.public.now { pool = c.take_regions.new.pool; left = c.reserve.new.self }) c.leave-then-not-is_empty.new.public c.reserve.ensures.items
    c.leave-then-not-is_empty.ensures.parked c.leave-then-not-is_empty.ensures.pool c.in-Err.ensures.kept

pub returns-else-not-is_empty-clause-still : goal.returns-else-not-is_empty-clause-still
returns-else-not-is_empty-clause-still g c =
    let many : vec_len c.in-Err.regions ≡ 0 = eqb-true (vec_len c.in-Err.regions) 0 (sym c.is_empty.ensures ∙ c.if-not-is_empty.false) in
    let none : c.in-Err.regions.items ≡ [] = nil_from_length c.in-Err.regions.items (omega (arith, many)) in
    put_still g.P.Piece.seen c.in-Err.regions.items c.args.public.now (record c.args.public.now { pool = c.take_regions.new.pool; left = c.reserve.new.self }) c.reserve.ensures.items none c.in-Err.ensures.kept
