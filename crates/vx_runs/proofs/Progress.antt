-- A call on a run goes from piece to piece.
use Rattle.std.proofs.Common.{◌≡◌, inl, inr, ℕ, zero, suc, ◌+◌, ◌-◌, ◌<◌, ◌≤◌, IsTrue, refl, sym, ◌∙◌, ap, subst, arith, List, [], ◌∷◌, length, map, get_or, set}
use Rattle.std.specs.Prelude.{◌^◌}
use Rattle.std.proofs.lemmas.Bool.{cond-true, cond-false, cases_lt, le-ltb, lt-ltb}
use Rattle.std.proofs.lemmas.List.{length-map}
use Rattle.vx_base.specs.Counts.{Rose}
use Rattle.vx_piece.specs.Seen.{Seen, Keeps}
use Rattle.vx_runs.specs.Part.{told_or, Tells, IsPartRange}
use Rattle.vx_runs.specs.Run.{run_sectors, run_contents, RunTells, IsRunRange, EachPiece, SameFaults, FailedAt, SomeCut}

-- the sectors before the piece at an index
abbrev pub sectors_before : ℕ → List Seen → ℕ
sectors_before zero ps = 0
sectors_before (suc i) [] = 0
sectors_before (suc i) (p ∷ ps) = p.sectors + sectors_before i ps

-- each piece goes so, by where it begins
abbrev pub EachPart : (ℕ → Seen → Seen → Type 0) → ℕ → List Seen → List Seen → Type 0
EachPart fact start [] [] = Unit {0}
EachPart fact start (p ∷ ps) (q ∷ qs) = fact start p q × EachPart fact (start + p.sectors) ps qs
EachPart fact start _ _ = ⊥

-- the first pieces have gone so, and the others are as they were
abbrev pub FirstParts : ℕ → (ℕ → Seen → Seen → Type 0) → ℕ → List Seen → List Seen → Type 0
FirstParts zero fact start ps qs = qs ≡ ps
FirstParts (suc i) fact start [] qs = qs ≡ []
FirstParts (suc i) fact start (p ∷ ps) [] = ⊥
FirstParts (suc i) fact start (p ∷ ps) (q ∷ qs) = fact start p q × FirstParts i fact (start + p.sectors) ps qs

-- the first pieces have gone so, the next one has failed, and the others are as they were
abbrev pub StopsAt : ℕ → (ℕ → Seen → Seen → Type 0) → (ℕ → Seen → Seen → Type 0) → ℕ → List Seen → List Seen → Type 0
StopsAt zero fact fails start (p ∷ ps) (q ∷ qs) = fails start p q × (qs ≡ ps)
StopsAt (suc i) fact fails start (p ∷ ps) (q ∷ qs) = fact start p q × StopsAt i fact fails (start + p.sectors) ps qs
StopsAt i fact fails start _ _ = ⊥

plus_none : (n : ℕ) → n + 0 ≡ n
plus_none n = omega arith

regroup : (a b c : ℕ) → a + (b + c) ≡ (a + b) + c
regroup a b c = omega arith

head_of : {A : Type 0} {x y : A} {xs ys : List A} → x ∷ xs ≡ y ∷ ys → x ≡ y
head_of e = cc

tail_of : {A : Type 0} {x y : A} {xs ys : List A} → x ∷ xs ≡ y ∷ ys → xs ≡ ys
tail_of e = cc

module _ {P : Type 0} (seen : P → Seen) (fact : ℕ → Seen → Seen → Type 0) where
  pub go_on : (i start : ℕ) (olds : List Seen) (now : List P) (q d : P) → i < length now → FirstParts i fact start olds (map seen now) →
      fact (start + sectors_before i olds) (seen (get_or now i d)) (seen q) → FirstParts (suc i) fact start olds (map seen (set now i q))
  go_on i start olds [] q d lt first done = absurd (omega arith)
  go_on zero start [] (x ∷ xs) q d lt first done = cc
  go_on zero start (p ∷ ps) (x ∷ xs) q d lt first done =
      (subst (λ (s : Seen). fact start s (seen q)) (head_of first) (subst (λ (n : ℕ). fact n (seen x) (seen q)) (plus_none start) done), tail_of first)
  go_on (suc i) start [] (x ∷ xs) q d lt first done = cc
  go_on (suc i) start (p ∷ ps) (x ∷ xs) q d lt first done =
      (first.0, go_on i (start + p.sectors) ps xs q d (omega arith) first.1 (subst (λ (n : ℕ). fact n (seen (get_or xs i d)) (seen q)) (regroup start p.sectors (sectors_before i ps)) done))

  pub stop : (fails : ℕ → Seen → Seen → Type 0) (i start : ℕ) (olds : List Seen) (now : List P) (q d : P) → i < length now → FirstParts i fact start olds (map seen now) →
      fails (start + sectors_before i olds) (seen (get_or now i d)) (seen q) → StopsAt i fact fails start olds (map seen (set now i q))
  stop fails i start olds [] q d lt first done = absurd (omega arith)
  stop fails zero start [] (x ∷ xs) q d lt first done = cc
  stop fails zero start (p ∷ ps) (x ∷ xs) q d lt first done =
      (subst (λ (s : Seen). fails start s (seen q)) (head_of first) (subst (λ (n : ℕ). fails n (seen x) (seen q)) (plus_none start) done), tail_of first)
  stop fails (suc i) start [] (x ∷ xs) q d lt first done = cc
  stop fails (suc i) start (p ∷ ps) (x ∷ xs) q d lt first done =
      (first.0, stop fails i (start + p.sectors) ps xs q d (omega arith) first.1 (subst (λ (n : ℕ). fails n (seen (get_or xs i d)) (seen q)) (regroup start p.sectors (sectors_before i ps)) done))

  -- the piece at the index is still as it was
  pub next_is : (i start : ℕ) (olds : List Seen) (now : List P) (d : P) → i < length now → FirstParts i fact start olds (map seen now) → get_or olds i (seen d) ≡ seen (get_or now i d)
  next_is i start olds [] d lt first = absurd (omega arith)
  next_is zero start [] (x ∷ xs) d lt first = cc
  next_is zero start (p ∷ ps) (x ∷ xs) d lt first = sym (head_of first)
  next_is (suc i) start [] (x ∷ xs) d lt first = cc
  next_is (suc i) start (p ∷ ps) (x ∷ xs) d lt first = next_is i (start + p.sectors) ps xs d (omega arith) first.1

pub all_parts : (fact : ℕ → Seen → Seen → Type 0) (i start : ℕ) (olds news : List Seen) → length olds ≤ i → FirstParts i fact start olds news → EachPart fact start olds news
all_parts fact zero start [] [] le first = tt
all_parts fact zero start [] (q ∷ qs) le first = cc
all_parts fact zero start (p ∷ ps) news le first = absurd (omega arith)
all_parts fact (suc i) start [] [] le first = tt
all_parts fact (suc i) start [] (q ∷ qs) le first = cc
all_parts fact (suc i) start (p ∷ ps) [] le first = absurd first
all_parts fact (suc i) start (p ∷ ps) (q ∷ qs) le first = (first.0, all_parts fact i (start + p.sectors) ps qs (omega arith) first.1)

-- ---- where the pieces lie

pub before_next : (i : ℕ) (ps : List Seen) (d : Seen) → i < length ps → sectors_before (suc i) ps ≡ sectors_before i ps + (get_or ps i d).sectors
before_next i [] d lt = absurd (omega arith)
before_next zero (p ∷ ps) d lt = omega arith
before_next (suc i) (p ∷ ps) d lt = let e = before_next i ps d (omega arith) in omega (arith, e)

pub inside_run : (i : ℕ) (ps : List Seen) (d : Seen) → i < length ps → sectors_before i ps + (get_or ps i d).sectors ≤ run_sectors ps
inside_run i [] d lt = absurd (omega arith)
inside_run zero (p ∷ ps) d lt = omega arith
inside_run (suc i) (p ∷ ps) d lt = let e = inside_run i ps d (omega arith) in omega (arith, e)

pub all_sectors : (i : ℕ) (ps : List Seen) → length ps ≤ i → sectors_before i ps ≡ run_sectors ps
all_sectors zero [] le = refl
all_sectors (suc i) [] le = refl
all_sectors zero (p ∷ ps) le = absurd (omega arith)
all_sectors (suc i) (p ∷ ps) le = let e = all_sectors i ps (omega arith) in omega (arith, e)

pub contents_in : (i : ℕ) (ps : List Seen) (d : Seen) (k : ℕ) → i < length ps → sectors_before i ps ≤ k → k < sectors_before i ps + (get_or ps i d).sectors →
    run_contents ps k ≡ told_or (get_or ps i d).told (k - sectors_before i ps)
contents_in i [] d k lt le high = absurd (omega arith)
contents_in zero (p ∷ ps) d k lt le high = cond-true _ _ _ (lt-ltb k p.sectors (omega (arith, high))) ∙ ap (told_or p.told) (no_shift k)
  where
    no_shift : (k : ℕ) → k ≡ k - 0
    no_shift k = omega arith
contents_in (suc i) (p ∷ ps) d k lt le high =
    cond-false _ _ _ (le-ltb k p.sectors (omega (arith, le)))
    ∙ contents_in i ps d (k - p.sectors) (omega arith) (omega (arith, le)) (omega (arith, le, high))
    ∙ ap (told_or (get_or ps i d).told) (two_shifts k p.sectors (sectors_before i ps))
  where
    two_shifts : (k a b : ℕ) → (k - a) - b ≡ k - (a + b)
    two_shifts k a b = omega arith

pub tells_at : (i : ℕ) (ps : List Seen) (d : Seen) → i < length ps → RunTells ps → Tells (get_or ps i d).told
tells_at i [] d lt t = absurd (omega arith)
tells_at zero (p ∷ ps) d lt t = t.0
tells_at (suc i) (p ∷ ps) d lt t = tells_at i ps d (omega arith) t.1

pub contents_beyond : (ps : List Seen) (k : ℕ) → run_sectors ps ≤ k → run_contents ps k ≡ []
contents_beyond [] k le = refl
contents_beyond (p ∷ ps) k le = cond-false _ _ _ (le-ltb k p.sectors (omega (arith, le))) ∙ contents_beyond ps (k - p.sectors) (omega (arith, le))

-- ---- what has become of the run

pub each_same : (fact : Seen → Seen → Type 0) → ((p : Seen) → fact p p) → (ps qs : List Seen) → qs ≡ ps → EachPiece fact ps qs
each_same fact same ps qs e = subst (λ (xs : List Seen). EachPiece fact ps xs) (sym e) (all ps)
  where
    all : (xs : List Seen) → EachPiece fact xs xs
    all [] = tt
    all (x ∷ xs) = (same x, all xs)

pub keeps_itself : (p : Seen) → Keeps p p
keeps_itself p = record { device = refl; start = refl; sectors = refl; stop = refl; faults = omega arith; cut = λ c. c }

module _ (fact : ℕ → Seen → Seen → Type 0) (what : Seen → Seen → Type 0) (from : (start : ℕ) (p q : Seen) → fact start p q → what p q) where
  pub each_part : (start : ℕ) (ps qs : List Seen) → EachPart fact start ps qs → EachPiece what ps qs
  each_part start [] [] h = tt
  each_part start [] (q ∷ qs) h = absurd h
  each_part start (p ∷ ps) [] h = absurd h
  each_part start (p ∷ ps) (q ∷ qs) h = (from start p q h.0, each_part (start + p.sectors) ps qs h.1)

  pub each_stop : (fails : ℕ → Seen → Seen → Type 0) → ((start : ℕ) (p q : Seen) → fails start p q → what p q) → ((p : Seen) → what p p) →
      (i start : ℕ) (ps qs : List Seen) → StopsAt i fact fails start ps qs → EachPiece what ps qs
  each_stop fails other same zero start [] qs h = absurd h
  each_stop fails other same zero start (p ∷ ps) [] h = absurd h
  each_stop fails other same zero start (p ∷ ps) (q ∷ qs) h = (other start p q h.0, each_same what same ps qs h.1)
  each_stop fails other same (suc i) start [] qs h = absurd h
  each_stop fails other same (suc i) start (p ∷ ps) [] h = absurd h
  each_stop fails other same (suc i) start (p ∷ ps) (q ∷ qs) h = (from start p q h.0, each_stop fails other same i (start + p.sectors) ps qs h.1)

-- the piece that stopped a call is the one whose count rose
pub stopped_failed : (fact fails : ℕ → Seen → Seen → Type 0) → ((start : ℕ) (p q : Seen) → fact start p q → SameFaults p q) → ((start : ℕ) (p q : Seen) → fails start p q → Keeps p q × Rose p.faults q.faults) →
    (i start device : ℕ) (ps qs : List Seen) (d : Seen) → (get_or qs i d).device ≡ device → StopsAt i fact fails start ps qs → FailedAt i device ps qs
stopped_failed fact fails quiet rises zero start device [] qs d is h = absurd h
stopped_failed fact fails quiet rises zero start device (p ∷ ps) [] d is h = absurd h
stopped_failed fact fails quiet rises zero start device (p ∷ ps) (q ∷ qs) d is h =
    let r = rises start p q h.0 in (sym r.0.device ∙ is, r.1, each_same SameFaults (λ x. refl) ps qs h.1)
stopped_failed fact fails quiet rises (suc i) start device [] qs d is h = absurd h
stopped_failed fact fails quiet rises (suc i) start device (p ∷ ps) [] d is h = absurd h
stopped_failed fact fails quiet rises (suc i) start device (p ∷ ps) (q ∷ qs) d is h =
    (quiet start p q h.0, stopped_failed fact fails quiet rises i (start + p.sectors) device ps qs d is h.1)

pub stopped_cut : (fact fails : ℕ → Seen → Seen → Type 0) → ((start : ℕ) (p q : Seen) → fails start p q → IsTrue q.cut) → (i start : ℕ) (ps qs : List Seen) → StopsAt i fact fails start ps qs → SomeCut qs
stopped_cut fact fails cuts zero start [] qs h = absurd h
stopped_cut fact fails cuts zero start (p ∷ ps) [] h = absurd h
stopped_cut fact fails cuts zero start (p ∷ ps) (q ∷ qs) h = inl (cuts start p q h.0)
stopped_cut fact fails cuts (suc i) start [] qs h = absurd h
stopped_cut fact fails cuts (suc i) start (p ∷ ps) [] h = absurd h
stopped_cut fact fails cuts (suc i) start (p ∷ ps) (q ∷ qs) h = inr (stopped_cut fact fails cuts i (start + p.sectors) ps qs h.1)

-- ---- a write

-- what is told of a piece goes on being told, and this holds of each of its blocks
pub record PartGoes (block : ℕ → List ℕ → List ℕ → Type 0) (start : ℕ) (p q : Seen) : Type 0 where
  pub kept : Keeps p q
  pub tells : Tells p.told → Tells q.told
  pub blocks : Tells p.told → (k : ℕ) → k < p.sectors → block (start + k) (told_or p.told k) (told_or q.told k)

pub parts_tell : (block : ℕ → List ℕ → List ℕ → Type 0) (start : ℕ) (ps qs : List Seen) → EachPart (PartGoes block) start ps qs → RunTells ps → RunTells qs
parts_tell block start [] [] h t = tt
parts_tell block start [] (q ∷ qs) h t = absurd h
parts_tell block start (p ∷ ps) [] h t = absurd h
parts_tell block start (p ∷ ps) (q ∷ qs) h t = (h.0.tells t.0, parts_tell block (start + p.sectors) ps qs h.1 t.1)

pub parts_sectors : (block : ℕ → List ℕ → List ℕ → Type 0) (start : ℕ) (ps qs : List Seen) → EachPart (PartGoes block) start ps qs → run_sectors qs ≡ run_sectors ps
parts_sectors block start [] [] h = refl
parts_sectors block start [] (q ∷ qs) h = absurd h
parts_sectors block start (p ∷ ps) [] h = absurd h
parts_sectors block start (p ∷ ps) (q ∷ qs) h = let e = parts_sectors block (start + p.sectors) ps qs h.1 in let f = h.0.kept.sectors in omega (arith, e, f)

pub parts_blocks : (block : ℕ → List ℕ → List ℕ → Type 0) (start : ℕ) (ps qs : List Seen) → EachPart (PartGoes block) start ps qs → RunTells ps → (k : ℕ) → k < run_sectors ps →
    block (start + k) (run_contents ps k) (run_contents qs k)
parts_blocks block start [] [] h t k lt = absurd (omega arith)
parts_blocks block start [] (q ∷ qs) h t k lt = absurd h
parts_blocks block start (p ∷ ps) [] h t k lt = absurd h
parts_blocks block start (p ∷ ps) (q ∷ qs) h t k lt =
    let f = h.0.kept.sectors in
    elim (cases_lt k p.sectors) [
      | inl low ↦
          let old : run_contents (p ∷ ps) k ≡ told_or p.told k = cond-true _ _ _ (lt-ltb k p.sectors low) in
          let new : run_contents (q ∷ qs) k ≡ told_or q.told k = cond-true _ _ _ (lt-ltb k q.sectors (omega (arith, f, low))) in
          subst (λ (x : List ℕ). block (start + k) x (run_contents (q ∷ qs) k)) (sym old) (subst (λ (y : List ℕ). block (start + k) (told_or p.told k) y) (sym new) (h.0.blocks t.0 k low))
      | inr high ↦
          let old : run_contents (p ∷ ps) k ≡ run_contents ps (k - p.sectors) = cond-false _ _ _ (le-ltb k p.sectors high) in
          let new : run_contents (q ∷ qs) k ≡ run_contents qs (k - p.sectors) = cond-false _ _ _ (le-ltb k q.sectors (omega (arith, f, high))) ∙ ap (λ (n : ℕ). run_contents qs (k - n)) f in
          let rest : block ((start + p.sectors) + (k - p.sectors)) (run_contents ps (k - p.sectors)) (run_contents qs (k - p.sectors)) =
          parts_blocks block (start + p.sectors) ps qs h.1 t.1 (k - p.sectors) (omega (arith, lt, high)) in
          let here : (start + p.sectors) + (k - p.sectors) ≡ start + k = omega (arith, high) in
          subst (λ (x : List ℕ). block (start + k) x (run_contents (q ∷ qs) k)) (sym old)
          (subst (λ (y : List ℕ). block (start + k) (run_contents ps (k - p.sectors)) y) (sym new)
          (subst (λ (n : ℕ). block n (run_contents ps (k - p.sectors)) (run_contents qs (k - p.sectors))) here rest))
    ]

-- where a call stopped, each piece has gone so, or is as it was
pub stopped_parts : (fact fails what : ℕ → Seen → Seen → Type 0) → ((start : ℕ) (p q : Seen) → fact start p q → what start p q) → ((start : ℕ) (p q : Seen) → fails start p q → what start p q) →
    ((start : ℕ) (p : Seen) → what start p p) → (i start : ℕ) (ps qs : List Seen) → StopsAt i fact fails start ps qs → EachPart what start ps qs
stopped_parts fact fails what from other same zero start [] qs h = absurd h
stopped_parts fact fails what from other same zero start (p ∷ ps) [] h = absurd h
stopped_parts fact fails what from other same zero start (p ∷ ps) (q ∷ qs) h =
    (other start p q h.0, subst (λ (xs : List Seen). EachPart what (start + p.sectors) ps xs) (sym h.1) (all (start + p.sectors) ps))
  where
    all : (n : ℕ) (xs : List Seen) → EachPart what n xs xs
    all n [] = tt
    all n (x ∷ xs) = (same n x, all (n + x.sectors) xs)
stopped_parts fact fails what from other same (suc i) start [] qs h = absurd h
stopped_parts fact fails what from other same (suc i) start (p ∷ ps) [] h = absurd h
stopped_parts fact fails what from other same (suc i) start (p ∷ ps) (q ∷ qs) h = (from start p q h.0, stopped_parts fact fails what from other same i (start + p.sectors) ps qs h.1)

pub map_parts : (fact what : ℕ → Seen → Seen → Type 0) → ((start : ℕ) (p q : Seen) → fact start p q → what start p q) → (start : ℕ) (ps qs : List Seen) → EachPart fact start ps qs → EachPart what start ps qs
map_parts fact what from start [] [] h = tt
map_parts fact what from start [] (q ∷ qs) h = absurd h
map_parts fact what from start (p ∷ ps) [] h = absurd h
map_parts fact what from start (p ∷ ps) (q ∷ qs) h = (from start p q h.0, map_parts fact what from (start + p.sectors) ps qs h.1)

-- ---- in a loop over the pieces

pub next_number : (i : ℕ) → suc i ≡ i + 1
next_number i = omega arith

pub part_range : (i at bytes start : ℕ) (olds : List Seen) (d p : Seen) → IsRunRange at bytes olds → start ≡ sectors_before i olds → i < length olds → get_or olds i d ≡ p → IsPartRange start at bytes p
part_range i at bytes start olds d p range is lt same =
    let inside : start + (get_or olds i d).sectors ≤ run_sectors olds = let e = inside_run i olds d lt in omega (arith, is, e) in
    let here : start + p.sectors ≤ run_sectors olds = subst (λ (x : Seen). start + x.sectors ≤ run_sectors olds) same inside in
    record { some = range.some; whole = range.whole; starts = omega (arith, here, range.fits); ends = omega (arith, range.inside, range.fits) }

pub next_start : (i start sectors : ℕ) (olds : List Seen) (d p : Seen) → start ≡ sectors_before i olds → i < length olds → get_or olds i d ≡ p → sectors ≡ p.sectors → start + sectors ≡ sectors_before (i + 1) olds
next_start i start sectors olds d p is lt same size =
    let e : sectors_before (suc i) olds ≡ sectors_before i olds + p.sectors = before_next i olds d lt ∙ ap (λ (x : Seen). sectors_before i olds + x.sectors) same in
    let f : sectors_before (i + 1) olds ≡ sectors_before (suc i) olds = ap (λ (n : ℕ). sectors_before n olds) (sym (next_number i)) in
    omega (arith, e, f, is, size)

pub start_fits : (i start sectors : ℕ) (olds : List Seen) (d p : Seen) → run_sectors olds < 2 ^ 64 → start ≡ sectors_before i olds → i < length olds → get_or olds i d ≡ p → sectors ≡ p.sectors → start + sectors < 2 ^ 64
start_fits i start sectors olds d p fits is lt same size =
    let e = inside_run i olds d lt in
    let f : (get_or olds i d).sectors ≡ p.sectors = ap (λ (x : Seen). x.sectors) same in
    omega (arith, e, f, fits, is, size)

-- the piece that was put at the index
pub at_set : {P : Type 0} (seen : P → Seen) (now : List P) (i : ℕ) (q d : P) → i < length now → get_or (map seen (set now i q)) i (seen d) ≡ seen q
at_set seen [] i q d lt = absurd (omega arith)
at_set seen (x ∷ xs) zero q d lt = refl
at_set seen (x ∷ xs) (suc i) q d lt = at_set seen xs i q d (omega arith)

same_length : {P : Type 0} (seen : P → Seen) (xs : List P) → length (map seen xs) ≡ length xs
same_length seen xs = length-map xs seen

-- a loop over the pieces `old`, which are now these; it stands before the piece at `i`, which is d
module _ {P : Type 0} (seen : P → Seen) (fact : ℕ → Seen → Seen → Type 0) (old now : List P) (i end start : ℕ) (d : P) (all : end ≡ length old) (size : length now ≡ length old) (lt : i < end)
    (is : start ≡ sectors_before i (map seen old)) (done : FirstParts i fact 0 (map seen old) (map seen now)) (value : d ≡ get_or now i d) where
  here : i < length now
  here = omega (arith, all, size, lt)

  there : i < length (map seen old)
  there = let e = same_length seen old in omega (arith, all, lt, e)

  same : get_or (map seen old) i (seen d) ≡ seen d
  same = next_is seen fact i 0 (map seen old) now d here done ∙ ap seen (sym value)

  pub step_same : (i < length (map seen old)) × (get_or (map seen old) i (seen d) ≡ seen d)
  step_same = (there, same)

  pub step_range : (at bytes : ℕ) → IsRunRange at bytes (map seen old) → IsPartRange start at bytes (seen d)
  step_range at bytes range = part_range i at bytes start (map seen old) (seen d) (seen d) range is there same

  pub step_fits : (at bytes sectors : ℕ) → IsRunRange at bytes (map seen old) → sectors ≡ (seen d).sectors → start + sectors < 2 ^ 64
  step_fits at bytes sectors range e = start_fits i start sectors (map seen old) (seen d) (seen d) range.fits is there same e

  pub step_start : (sectors : ℕ) → sectors ≡ (seen d).sectors → start + sectors ≡ sectors_before (i + 1) (map seen old)
  step_start sectors e = next_start i start sectors (map seen old) (seen d) (seen d) is there same e

  at_start : (what : ℕ → Seen → Seen → Type 0) (q : P) → what start (seen d) (seen q) → what (0 + sectors_before i (map seen old)) (seen (get_or now i d)) (seen q)
  at_start what q h = subst (λ (x : P). what (0 + sectors_before i (map seen old)) (seen x) (seen q)) value (subst (λ (n : ℕ). what n (seen d) (seen q)) (is ∙ none_before (sectors_before i (map seen old))) h)
    where
      none_before : (n : ℕ) → n ≡ 0 + n
      none_before n = omega arith

  pub step_next : (q : P) → fact start (seen d) (seen q) → FirstParts (i + 1) fact 0 (map seen old) (map seen (set now i q))
  step_next q h = subst (λ (n : ℕ). FirstParts n fact 0 (map seen old) (map seen (set now i q))) (next_number i) (go_on seen fact i 0 (map seen old) now q d here done (at_start fact q h))

  pub step_stop : (fails : ℕ → Seen → Seen → Type 0) (q : P) → fails start (seen d) (seen q) → StopsAt i fact fails 0 (map seen old) (map seen (set now i q))
  step_stop fails q h = stop seen fact fails i 0 (map seen old) now q d here done (at_start fails q h)

  pub step_device : (q x : P) (device : ℕ) → x ≡ get_or (set now i q) i x → device ≡ (seen x).device → (get_or (map seen (set now i q)) i (seen x)).device ≡ device
  step_device q x device is_x on =
      ap (λ (s : Seen). s.device) (at_set seen now i q x here ∙ ap seen (sym (is_x ∙ set_there now i q x here))) ∙ sym on
    where
      set_there : (xs : List P) (j : ℕ) (y z : P) → j < length xs → get_or (set xs j y) j z ≡ y
      set_there [] j y z low = absurd (omega arith)
      set_there (w ∷ ws) zero y z low = refl
      set_there (w ∷ ws) (suc j) y z low = set_there ws j y z (omega arith)

-- the loop has ended
pub step_end : {P : Type 0} (seen : P → Seen) (fact : ℕ → Seen → Seen → Type 0) (old now : List P) (i end : ℕ) → end ≡ length old → end ≤ i → FirstParts i fact 0 (map seen old) (map seen now) →
    EachPart fact 0 (map seen old) (map seen now)
step_end seen fact old now i end all le done = all_parts fact i 0 (map seen old) (map seen now) (let e = same_length seen old in omega (arith, all, le, e)) done
