-- Pieces and plexes that have the sectors that they had.
use Rattle.std.proofs.Common.{◌≡◌, ℕ, ◌+◌, Bool, true, false, List, [], ◌∷◌, refl, ap, ◌∙◌}
use Rattle.std.specs.Prelude.{◌==◌, ◌||◌, if◌then◌else◌, Option}
use Rattle.vx_piece.specs.Seen.{Seen, Keeps}
use Rattle.vx_runs.specs.Run.{EachPiece, IsArmed, run_sectors}
use Rattle.vx_maps.specs.Going.{CopiesGo}
use Rattle.vx_cell.specs.Changes.{AreArmed}
use Rattle.vx_cell.specs.Plexes.{AllCover, KeepPlexes, MapsDiffer, PlexSeen, holds}
use Rattle.vx_volume_laws.specs.Places.{IsSamePlace}
use Rattle.vx_volume_laws.specs.Calls.{StayPlexes}

-- ---- pieces

pub place_same : (p : Seen) → IsSamePlace p p
place_same p = record { device = refl; start = refl; sectors = refl }

place_then : (p q r : Seen) → IsSamePlace p q → IsSamePlace q r → IsSamePlace p r
place_then p q r a b = record { device = b.device ∙ a.device; start = b.start ∙ a.start; sectors = b.sectors ∙ a.sectors }

pub place_kept : (p q : Seen) → Keeps p q → IsSamePlace p q
place_kept p q h = record { device = h.device; start = h.start; sectors = h.sectors }

pub place_armed : (stop : Option ℕ) (p q : Seen) → IsArmed stop p q → IsSamePlace p q
place_armed stop p q h = record { device = ap (λ (x : Seen). x.device) h ∙ by_device p.cut; start = ap (λ (x : Seen). x.start) h ∙ by_start p.cut; sectors = ap (λ (x : Seen). x.sectors) h ∙ by_sectors p.cut }
  where
    by_device : (b : Bool) → (if b then p else record p { stop = stop }).device ≡ p.device
    by_device true = refl
    by_device false = refl

    by_start : (b : Bool) → (if b then p else record p { stop = stop }).start ≡ p.start
    by_start true = refl
    by_start false = refl

    by_sectors : (b : Bool) → (if b then p else record p { stop = stop }).sectors ≡ p.sectors
    by_sectors true = refl
    by_sectors false = refl

module _ (rel rel' : Seen → Seen → Type 0) (weaker : (p q : Seen) → rel p q → rel' p q) where
  pub each_weaker : (ps qs : List Seen) → EachPiece rel ps qs → EachPiece rel' ps qs
  each_weaker [] [] h = tt
  each_weaker [] (q ∷ qs) h = absurd h
  each_weaker (p ∷ ps) [] h = absurd h
  each_weaker (p ∷ ps) (q ∷ qs) h = (weaker p q h.0, each_weaker ps qs h.1)

  pub copies_weaker : (xs ys : List (List Seen)) → CopiesGo rel xs ys → CopiesGo rel' xs ys
  copies_weaker [] [] h = tt
  copies_weaker [] (y ∷ ys) h = absurd h
  copies_weaker (x ∷ xs) [] h = absurd h
  copies_weaker (x ∷ xs) (y ∷ ys) h = (each_weaker x y h.0, copies_weaker xs ys h.1)

run_same : (ps : List Seen) → EachPiece IsSamePlace ps ps
run_same [] = tt
run_same (p ∷ ps) = (place_same p, run_same ps)

run_then : (ps qs rs : List Seen) → EachPiece IsSamePlace ps qs → EachPiece IsSamePlace qs rs → EachPiece IsSamePlace ps rs
run_then [] [] [] a b = tt
run_then [] [] (r ∷ rs) a b = absurd b
run_then [] (q ∷ qs) rs a b = absurd a
run_then (p ∷ ps) [] rs a b = absurd a
run_then (p ∷ ps) (q ∷ qs) [] a b = absurd b
run_then (p ∷ ps) (q ∷ qs) (r ∷ rs) a b = (place_then p q r a.0 b.0, run_then ps qs rs a.1 b.1)

pub run_long : (ps qs : List Seen) → EachPiece IsSamePlace ps qs → run_sectors qs ≡ run_sectors ps
run_long [] [] h = refl
run_long [] (q ∷ qs) h = absurd h
run_long (p ∷ ps) [] h = absurd h
run_long (p ∷ ps) (q ∷ qs) h = ap (λ (n : ℕ). n + run_sectors qs) h.0.sectors ∙ ap (λ (n : ℕ). p.sectors + n) (run_long ps qs h.1)

-- ---- plexes

pub stay_same : (ps : List PlexSeen) → StayPlexes ps ps
stay_same [] = tt
stay_same (p ∷ ps) = (record { same_map = refl; pieces = run_same p.pieces }, stay_same ps)

pub stay_more : (ps qs rs : List PlexSeen) → StayPlexes ps qs → StayPlexes qs rs → StayPlexes ps rs
stay_more [] [] [] a b = tt
stay_more [] [] (r ∷ rs) a b = absurd b
stay_more [] (q ∷ qs) rs a b = absurd a
stay_more (p ∷ ps) [] rs a b = absurd a
stay_more (p ∷ ps) (q ∷ qs) [] a b = absurd b
stay_more (p ∷ ps) (q ∷ qs) (r ∷ rs) a b = (record { same_map = b.0.same_map ∙ a.0.same_map; pieces = run_then p.pieces q.pieces r.pieces a.0.pieces b.0.pieces }, stay_more ps qs rs a.1 b.1)

pub stay_kept : (ps qs : List PlexSeen) → KeepPlexes ps qs → StayPlexes ps qs
stay_kept [] [] h = tt
stay_kept [] (q ∷ qs) h = absurd h
stay_kept (p ∷ ps) [] h = absurd h
stay_kept (p ∷ ps) (q ∷ qs) h = (record { same_map = h.0.same_map; pieces = each_weaker Keeps IsSamePlace place_kept p.pieces q.pieces h.0.pieces }, stay_kept ps qs h.1)

pub stay_armed : (stop : Option ℕ) (ps qs : List PlexSeen) → AreArmed stop ps qs → StayPlexes ps qs
stay_armed stop [] [] h = tt
stay_armed stop [] (q ∷ qs) h = absurd h
stay_armed stop (p ∷ ps) [] h = absurd h
stay_armed stop (p ∷ ps) (q ∷ qs) h = (record { same_map = h.0; pieces = each_weaker (IsArmed stop) IsSamePlace (place_armed stop) p.pieces q.pieces h.1 }, stay_armed stop ps qs h.2)

pub stay_holds : (ps qs : List PlexSeen) → StayPlexes ps qs → (k : ℕ) → holds qs k ≡ holds ps k
stay_holds [] [] h k = refl
stay_holds [] (q ∷ qs) h k = absurd h
stay_holds (p ∷ ps) [] h k = absurd h
stay_holds (p ∷ ps) (q ∷ qs) h k = ap (λ (m : ℕ). (m == k) || holds qs k) h.0.same_map ∙ ap (λ (b : Bool). (p.map == k) || b) (stay_holds ps qs h.1 k)

pub stay_differ : (ps qs : List PlexSeen) → StayPlexes ps qs → MapsDiffer ps → MapsDiffer qs
stay_differ [] [] h d = tt
stay_differ [] (q ∷ qs) h d = absurd h
stay_differ (p ∷ ps) [] h d = absurd h
stay_differ (p ∷ ps) (q ∷ qs) h d = (stay_holds ps qs h.1 q.map ∙ ap (λ (m : ℕ). holds ps m) h.0.same_map ∙ d.0, stay_differ ps qs h.1 d.1)

pub stay_cover : (size : ℕ) (ps qs : List PlexSeen) → StayPlexes ps qs → AllCover size ps → AllCover size qs
stay_cover size [] [] h c = tt
stay_cover size [] (q ∷ qs) h c = absurd h
stay_cover size (p ∷ ps) [] h c = absurd h
stay_cover size (p ∷ ps) (q ∷ qs) h c = (run_long p.pieces q.pieces h.0.pieces ∙ c.0, stay_cover size ps qs h.1 c.1)
