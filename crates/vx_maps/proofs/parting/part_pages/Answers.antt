use Rattle.std.proofs.Common.{rules, arith, sym, ap, subst, ◌∙◌, ◌≡◌, ◌+◌, ◌-◌, ◌<◌, ◌/◌, ◌∷◌, ◌++◌, [], ℕ, List, length, set, take, true, None}
use Rattle.std.proofs.lemmas.List.{length-map, length-take-le}
use Rattle.vx_mapfmt.specs.Sizes.{page_count}
use Rattle.vx_mapfmt.proofs.SizeLemmas.{page_fits}
use Rattle.vx_pages.specs.Page.{ArePaired}
use Rattle.vx_pages.specs.Pages.{grid_seen, sectors_of}
use Rattle.vx_pages.specs.Parting.{only_sectors}
use Rattle.vx_pages.specs.Sector.{SectorSeen}
use Rattle.vx_pages.proofs.Settlement.{each_is}
use Rattle.vx_maps.specs.Slots.{HasCut, HasHolesOn, row_at, slots_seen, whole_of}
use Rattle.vx_maps.proofs.Fills.{holes_there}
use Rattle.vx_maps.proofs.PageRows.{places_set}
use Rattle.vx_maps.proofs.Partings.{Back, back_all, back_at, back_on, one_row, page_pieces, row_taken}
use Rattle.vx_maps.proofs.Rows.{rows_of}
use Rattle.vx_maps.proofs.parting.part_pages.Goals as goal

pub give_up-requires-clause-pairs : goal.give_up-requires-clause-pairs
give_up-requires-clause-pairs g c =
    let next : c.parting.index ≡ c.parting.index - 1 + 1 = omega (arith, c.parting-test.true) in
    let lt : c.parting.index - 1 < length c.parting.pages.items = let f = c.parting.invariant.low in omega (arith, f, c.parting-test.true) in
    let inside : c.parting.index - 1 < length (grid_seen g.P.LocalPiece.seen c.args.pages.now.items) = let e = length-map c.args.pages.now.items (sectors_of g.P.LocalPiece.seen) in let f = c.parting.invariant.size in omega (arith, e, f, lt) in
    let at =
    back_at [] (sectors_of g.P.LocalPiece.seen) (λ a b. b ≡ only_sectors (1 - c.args.copy) a) (grid_seen g.P.LocalPiece.seen c.args.pages.now.items) c.parting.pages.items (c.parting.index - 1) c.parting.index c.index_mut-page.result.now c.index_mut-page.result.now next lt
    c.index_mut-page.ensures.value c.parting.invariant.back in
    subst (ArePaired true) (sym at) (c.requires.pairs (c.parting.index - 1) inside)

pub put_pieces-requires-clause-few : goal.put_pieces-requires-clause-few
put_pieces-requires-clause-few g c = let e = page_pieces c.index_mut-page.result.now c.args.copy c.give_up.new.gone.items c.give_up.ensures.gone in omega (arith, e)

pub put_pieces-requires-clause-holes : goal.put_pieces-requires-clause-holes
put_pieces-requires-clause-holes g c =
    let few = c.parting.invariant.low in
    let same = c.parting.invariant.size in
    let low : c.parting.index - 1 < page_count c.args.shape.now.regions = let f = c.requires.few in omega (arith, f, few, same, c.parting-test.true) in
    let rows : length (row_at (take c.parting.index (grid_seen g.P.LocalPiece.seen c.args.pages.now.items)) (c.parting.index - 1)) ≡ 32 =
    ap (λ (xs : List SectorSeen). length xs) (row_taken (grid_seen g.P.LocalPiece.seen c.args.pages.now.items) (c.parting.index - 1) c.parting.index (omega (arith, c.parting-test.true)))
    ∙ rows_of c.args.pages.now.items (c.parting.index - 1) (omega (arith, few, same, c.parting-test.true)) in
    subst (λ (n : ℕ). HasHolesOn (c.args.shape.now.map_bytes / 512) (c.parting.index - 1) n (slots_seen g.P.LocalPiece.seen c.parting.slots.items))
    (sym (page_pieces c.index_mut-page.result.now c.args.copy c.give_up.new.gone.items c.give_up.ensures.gone))
    (holes_there (c.args.shape.now.map_bytes / 512) (c.parting.index - 1) (take c.parting.index (grid_seen g.P.LocalPiece.seen c.args.pages.now.items)) (record { first = slots_seen g.P.LocalPiece.seen c.parting.slots.items; second = None })
    (record { first = c.parting.invariant.cut.holed; second = tt }) rows (page_fits c.args.shape.now.regions c.args.shape.now.map_bytes (c.parting.index - 1) c.args.shape.now.map_sized low)).first

pub parting-preserved : goal.parting-preserved
parting-preserved g c =
    let next : c.parting.index ≡ c.parting.index - 1 + 1 = omega (arith, c.parting-test.true) in
    let low = c.parting.invariant.low in
    let same = c.parting.invariant.size in
    let lt : c.parting.index - 1 < length c.parting.pages.items = omega (arith, low, c.parting-test.true) in
    let inside : c.parting.index - 1 < length (grid_seen g.P.LocalPiece.seen c.args.pages.now.items) = let e = length-map c.args.pages.now.items (sectors_of g.P.LocalPiece.seen) in omega (arith, e, same, lt) in
    let at =
    back_at [] (sectors_of g.P.LocalPiece.seen) (λ a b. b ≡ only_sectors (1 - c.args.copy) a) (grid_seen g.P.LocalPiece.seen c.args.pages.now.items) c.parting.pages.items (c.parting.index - 1) c.parting.index c.index_mut-page.result.now c.give_up.new.self next lt
    c.index_mut-page.ensures.value c.parting.invariant.back in
    let size : length (set c.parting.pages.items (c.parting.index - 1) c.give_up.new.self) ≡ length c.args.pages.now.items = search rules in
    record {
      low = omega (arith, size, same, low);
      size = size;
      back =
          back_on [] (sectors_of g.P.LocalPiece.seen) (λ a b. b ≡ only_sectors (1 - c.args.copy) a) (grid_seen g.P.LocalPiece.seen c.args.pages.now.items) c.parting.pages.items (c.parting.index - 1) c.parting.index c.index_mut-page.result.now c.give_up.new.self next lt
          c.index_mut-page.ensures.value c.parting.invariant.back c.give_up.ensures.left;
      places = places_set c.parting.pages.items (c.parting.index - 1) c.index_mut-page.result.now c.give_up.new.self c.index_mut-page.ensures.value c.give_up.ensures.page ∙ c.parting.invariant.places;
      cut =
          c.put_pieces.ensures.cut c.args.copy (take (c.parting.index - 1) (grid_seen g.P.LocalPiece.seen c.args.pages.now.items)) (sectors_of g.P.LocalPiece.seen c.index_mut-page.result.now) _
          (length-take-le (c.parting.index - 1) (grid_seen g.P.LocalPiece.seen c.args.pages.now.items) (omega (arith, inside))) c.requires.some (subst (ArePaired true) (sym at) (c.requires.pairs (c.parting.index - 1) inside)) c.give_up.ensures.gone
          (subst
          (λ (xs : List (List SectorSeen)). HasCut (c.args.shape.now.map_bytes / 512) c.args.copy xs (whole_of (c.args.shape.now.map_bytes / 512) c.args.copy (grid_seen g.P.LocalPiece.seen c.args.pages.now.items) (slots_seen g.P.LocalPiece.seen c.args.slots.now.items))
          (slots_seen g.P.LocalPiece.seen c.parting.slots.items))
          (ap (λ (n : ℕ). take n (grid_seen g.P.LocalPiece.seen c.args.pages.now.items)) next ∙ one_row (grid_seen g.P.LocalPiece.seen c.args.pages.now.items) (c.parting.index - 1) inside
          ∙ ap (λ (row : List SectorSeen). take (c.parting.index - 1) (grid_seen g.P.LocalPiece.seen c.args.pages.now.items) ++ row ∷ []) (sym at)) c.parting.invariant.cut);
      empty = c.put_pieces.ensures.empty;
      capacity = c.put_pieces.ensures.capacity ∙ c.give_up.ensures.capacity ∙ c.parting.invariant.capacity;
    }

pub returns-clause-left : goal.returns-clause-left
returns-clause-left g c =
    let zero : c.parting.index ≡ 0 = omega (arith, c.parting-test.false) in
    each_is [] (only_sectors (1 - c.args.copy)) _ _
    (back_all [] (λ a b. b ≡ only_sectors (1 - c.args.copy) a) _ _
    (subst (λ (n : ℕ). Back [] (λ a b. b ≡ only_sectors (1 - c.args.copy) a) n (grid_seen g.P.LocalPiece.seen c.args.pages.now.items) (grid_seen g.P.LocalPiece.seen c.parting.pages.items)) zero c.parting.invariant.back))
