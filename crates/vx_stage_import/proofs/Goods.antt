-- The devices that were found whose slot is good.
use Rattle.std.proofs.Common.{◌≡◌, ◌≢◌, ◌∙◌, ◌&&◌, ◌||◌, ◌==◌, ℕ, ◌<◌, ◌≤◌, Bool, true, false, cond, List, [], ◌∷◌, length, map, refl, sym, ap, subst, arith}
use Rattle.std.proofs.lemmas.Bool.{ne_eqb}
use Rattle.vx_mask.specs.Mask.{has}
use Rattle.vx_copies.specs.Lists.{AllOf}
use Rattle.vx_import.specs.Looks.{Looked}
use Rattle.vx_import.specs.Naming.{is_readable_slot, AllThere}
use Rattle.vx_stages.specs.Finding.{good_ones}
use Rattle.vx_stage_import.specs.Places.{ArePlaced}
use Rattle.vx_stage_import.specs.Finds.{candidate_of, candidates_of}
use Rattle.vx_stage_import.specs.Giving.{good_looks}

module _ (good : ℕ) where
  pub are_good : (fs : List Looked) → AllOf (λ f. has good f.label.slot ≡ true) (good_looks good fs)
  are_good [] = tt
  are_good (f ∷ fs) = by (has good f.label.slot) refl (are_good fs)
    where
      by : (b : Bool) → has good f.label.slot ≡ b → AllOf (λ f. has good f.label.slot ≡ true) (good_looks good fs) → AllOf (λ f. has good f.label.slot ≡ true) (cond b (f ∷ good_looks good fs) (good_looks good fs))
      by true e rest = (e, rest)
      by false e rest = rest

  -- what holds of all holds of the good ones
  pub all_good : (Q : Looked → Type 0) (fs : List Looked) → AllOf Q fs → AllOf Q (good_looks good fs)
  all_good Q [] all = tt
  all_good Q (f ∷ fs) all = by (has good f.label.slot) (all_good Q fs all.1)
    where
      by : (b : Bool) → AllOf Q (good_looks good fs) → AllOf Q (cond b (f ∷ good_looks good fs) (good_looks good fs))
      by true rest = (all.0, rest)
      by false rest = rest

  pub good_few : (fs : List Looked) → length (good_looks good fs) ≤ length fs
  good_few [] = omega arith
  good_few (f ∷ fs) = by (has good f.label.slot) (good_few fs)
    where
      by : (b : Bool) → length (good_looks good fs) ≤ length fs → length (cond b (f ∷ good_looks good fs) (good_looks good fs)) ≤ length (f ∷ fs)
      by true rest = omega (arith, rest)
      by false rest = omega (arith, rest)

  pub good_candidates : (fs : List Looked) → good_ones good (candidates_of fs) ≡ candidates_of (good_looks good fs)
  good_candidates [] = refl
  good_candidates (f ∷ fs) = by (has good f.label.slot) (good_candidates fs)
    where
      by : (b : Bool) → good_ones good (candidates_of fs) ≡ candidates_of (good_looks good fs) → cond b (candidate_of f ∷ good_ones good (candidates_of fs)) (good_ones good (candidates_of fs)) ≡ candidates_of (cond b (f ∷ good_looks good fs) (good_looks good fs))
      by true rest = ap (λ cs. candidate_of f ∷ cs) rest
      by false rest = rest

  above_good : (slot : ℕ) (fs : List Looked) → AllOf (λ n. slot < n) (map (λ f. f.label.slot) fs) → AllOf (λ n. slot < n) (map (λ f. f.label.slot) (good_looks good fs))
  above_good slot [] all = tt
  above_good slot (f ∷ fs) all = by (has good f.label.slot) (above_good slot fs all.1)
    where
      by : (b : Bool) → AllOf (λ n. slot < n) (map (λ f. f.label.slot) (good_looks good fs)) → AllOf (λ n. slot < n) (map (λ f. f.label.slot) (cond b (f ∷ good_looks good fs) (good_looks good fs)))
      by true rest = (all.0, rest)
      by false rest = rest

  -- the slots of the good ones rise
  pub good_placed : (fs : List Looked) → ArePlaced (map (λ f. f.label.slot) fs) → ArePlaced (map (λ f. f.label.slot) (good_looks good fs))
  good_placed [] placed = tt
  good_placed (f ∷ fs) placed = by (has good f.label.slot) (good_placed fs placed.1)
    where
      by : (b : Bool) → ArePlaced (map (λ f. f.label.slot) (good_looks good fs)) → ArePlaced (map (λ f. f.label.slot) (cond b (f ∷ good_looks good fs) (good_looks good fs)))
      by true rest = (above_good f.label.slot fs placed.0, rest)
      by false rest = rest

-- where the slots rise, the device of a readable slot can be read
above_differs : (slot : ℕ) (fs : List Looked) → AllOf (λ n. slot < n) (map (λ f. f.label.slot) fs) → AllOf (λ f. slot ≢ f.label.slot) fs
above_differs slot [] all = tt
above_differs slot (f ∷ fs) all = ((λ e. let lt = all.0 in absurd (omega (arith, lt, e))), above_differs slot fs all.1)

no_readable : (slot : ℕ) (fs : List Looked) → AllOf (λ f. slot ≢ f.label.slot) fs → is_readable_slot slot (fs) ≡ false
no_readable slot [] away = refl
no_readable slot (f ∷ fs) away = by f.readable (f.label.slot == slot) (ne_eqb f.label.slot slot (λ e. away.0 (sym e))) (no_readable slot fs away.1)
  where
    by : (r b : Bool) → b ≡ false → is_readable_slot slot (fs) ≡ false → ((r && b) || is_readable_slot slot (fs)) ≡ false
    by true b e rest = ap (λ x. x || is_readable_slot slot (fs)) e ∙ rest
    by false b e rest = rest

first_readable : (r b rest : Bool) → ((r && b) || rest) ≡ true → rest ≡ false → r ≡ true
first_readable true b rest e none = refl
first_readable false b rest e none = cc

later_readable : (r b rest : Bool) → ((r && b) || rest) ≡ true → b ≡ false → rest ≡ true
later_readable true b rest e none = let x : (b || rest) ≡ true = e in subst (λ y. (y || rest) ≡ true) none x
later_readable false b rest e none = e

all_with : {X : Type 0} (P Q R : X → Type 0) → ((x : X) → P x → Q x → R x) → (xs : List X) → AllOf P xs → AllOf Q xs → AllOf R xs
all_with P Q R f [] p q = tt
all_with P Q R f (x ∷ xs) p q = (f x p.0 q.0, all_with P Q R f xs p.1 q.1)

readable_here : (fs : List Looked) → ArePlaced (map (λ f. f.label.slot) fs) → AllOf (λ f. is_readable_slot f.label.slot (fs) ≡ true → f.readable ≡ true) fs
readable_here [] placed = tt
readable_here (f ∷ fs) placed =
    let away = above_differs f.label.slot fs placed.0 in (
      λ is. first_readable f.readable (f.label.slot == f.label.slot) (is_readable_slot f.label.slot (fs)) is (no_readable f.label.slot fs away),
      all_with (λ g. f.label.slot ≢ g.label.slot) (λ g. is_readable_slot g.label.slot (fs) ≡ true → g.readable ≡ true) (λ g. is_readable_slot g.label.slot ((f ∷ fs)) ≡ true → g.readable ≡ true)
          (λ g other rest is. rest (later_readable f.readable (f.label.slot == g.label.slot) (is_readable_slot g.label.slot (fs)) is (ne_eqb f.label.slot g.label.slot other)))
          fs away (readable_here fs placed.1),
    )

-- where each good slot has a device that can be read, each good one can be read
pub good_readable : (good : ℕ) (fs : List Looked) → ArePlaced (map (λ f. f.label.slot) fs) → AllOf (λ f. f.label.slot < 32) fs → AllThere 32 good (fs) → AllOf (λ f. f.readable ≡ true) (good_looks good fs)
good_readable good fs placed low there =
    all_with (λ f. has good f.label.slot ≡ true) (λ f. has good f.label.slot ≡ true → f.readable ≡ true) (λ f. f.readable ≡ true) (λ f is on. on is) (good_looks good fs) (are_good good fs)
    (all_good good (λ f. has good f.label.slot ≡ true → f.readable ≡ true) fs
    (all_with (λ f. f.label.slot < 32) (λ f. is_readable_slot f.label.slot (fs) ≡ true → f.readable ≡ true) (λ f. has good f.label.slot ≡ true → f.readable ≡ true)
    (λ f lt on is. on (there f.label.slot lt is)) fs low (readable_here fs placed)))
