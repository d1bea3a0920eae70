-- Regions with one plex each.
use Rattle.std.proofs.Common.{◌≡◌, ◌∙◌, ℕ, zero, suc, ◌+◌, ◌-◌, ◌*◌, ◌<◌, List, [], ◌∷◌, ◌++◌, length, map, min, reverse, get_or, refl, sym, ap, subst, arith, append_assoc}
use Rattle.std.specs.List.{All}
use Rattle.std.proofs.lemmas.List.{append-nil, length-map, reverse-append}
use Rattle.std.proofs.lemmas.List.Elements.{All-nil, All-cons}
use Rattle.vx_runs.specs.Run.{run_sectors}
use Rattle.vx_layout.specs.declared.layout.Layout.{Layout}
use Rattle.vx_carve.specs.Carved.{AreCut}
use Rattle.vx_pages.specs.Items.{item_at}
use Rattle.vx_cell.specs.Plexes.{PlexSeen}
use Rattle.vx_lending.specs.RegionPieces.{pieces_of}
use Rattle.vx_lending.specs.RegionsTaken.{IsTakenRegion}
use Rattle.vx_plex_pieces.specs.Laws.{EachTakenPlexMayBePut, EachTakenRegionIsARun}
use Rattle.vx_plex_pieces.specs.Runs.{HasOnePlex, IsRunOf}

-- one region
one_run : (numbers : List ℕ) (own : ℕ) (layout : Layout) (start count : ℕ) (plexes : List PlexSeen) → IsTakenRegion numbers (own ∷ []) (layout ∷ []) start count plexes → HasOnePlex plexes × IsRunOf numbers layout start count (pieces_of plexes)
one_run numbers own layout start count [] t = absurd (let e = t.maps_are in cc)
one_run numbers own layout start count (p ∷ []) t =
    let same : p.pieces ≡ pieces_of (p ∷ []) = sym (append-nil p.pieces) in
    let cut : AreCut numbers layout.unit layout.columns start (start + count) p.pieces = t.cut 0 layout (omega arith) in
    let long : run_sectors p.pieces ≡ count = t.cover.0 in
    (refl, record { cut = subst (AreCut numbers layout.unit layout.columns start (start + count)) same cut; long = ap run_sectors (sym same) ∙ long })
one_run numbers own layout start count (p ∷ q ∷ ps) t = absurd (let e = t.maps_are in cc)

all_one : (regions : List (List PlexSeen)) → ((r : ℕ) → r < length regions → HasOnePlex (get_or regions r [])) → All HasOnePlex regions
all_one [] each = All-nil HasOnePlex
all_one (x ∷ regions) each = All-cons HasOnePlex x regions (each 0 (omega arith)) (all_one regions (λ r lt. each (suc r) (omega (arith, lt))))

pieces_at : (regions : List (List PlexSeen)) (r : ℕ) → r < length regions → pieces_of (get_or regions r []) ≡ item_at [] (map pieces_of regions) r
pieces_at [] r lt = absurd (omega (arith, lt))
pieces_at (x ∷ regions) zero lt = refl
pieces_at (x ∷ regions) (suc r) lt = pieces_at regions r (omega (arith, lt))

pub taken_runs : EachTakenRegionIsARun
taken_runs numbers own layout blocks size regions taken =
    let run = λ (r : ℕ) (lt : r < length regions). one_run numbers own layout (r * size) (min size (blocks - r * size)) (get_or regions r []) (taken r lt) in
    (all_one regions (λ r lt. (run r lt).0), λ r lt. subst (IsRunOf numbers layout (r * size) (min size (blocks - r * size))) (pieces_at regions r lt) (run r lt).1)

pub taken_puts : EachTakenPlexMayBePut
taken_puts numbers own layout v regions whole long taken marked =
    let count : length regions ≡ length v.cells = long ∙ sym whole.count in
    record {
      count = length-map regions pieces_of ∙ count;
      cover = λ r lt. ((taken_runs numbers own layout v.length v.region regions taken).1 r (omega (arith, lt, count))).long ∙ sym (whole.each r lt).size;
      marked = marked;
    }

-- the items that are left, and those that came from behind, the last one first
pub turned_more : {X : Type 0} (all xs xs' ys ys' : List X) (x : X) → all ≡ xs ++ reverse ys → xs ≡ xs' ++ x ∷ [] → ys' ≡ ys ++ x ∷ [] → all ≡ xs' ++ reverse ys'
turned_more all xs xs' ys ys' x is e e' =
    is ∙ ap (λ zs. zs ++ reverse ys) e ∙ append_assoc xs' (x ∷ []) (reverse ys) ∙ ap (λ zs. xs' ++ zs) (sym (reverse-append ys (x ∷ []))) ∙ ap (λ zs. xs' ++ reverse zs) (sym e')
