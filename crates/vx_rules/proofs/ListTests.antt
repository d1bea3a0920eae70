-- Tests that some element of a list passes.
use Rattle.std.proofs.Common.{◌≡◌, ℕ, ◌+◌, ◌<◌, Bool, true, false, cond, not, nat_lt, List, [], ◌∷◌, length, get_or, refl, sym, ap, ◌∙◌, inl, inr, arith, ◌&&◌, ◌||◌}
use Rattle.std.specs.List.{list_any, list_all, count_by}
use Rattle.std.proofs.lemmas.List.Sums.{sum_by-cons}
use Rattle.std.proofs.lemmas.List.Folds.{list_all_at}
use Rattle.std.proofs.lemmas.Bool.{and_parts, and_from, or_from, lt-ltb, ltb-false, false≢true, false_from_ne_true, true_from_ne_false, or_cases, or_left, or_right}

-- what passes the one passes the other
pub any_weaker : {X : Type 0} (p q : X → Bool) (xs : List X) → ((x : X) → p x ≡ true → q x ≡ true) → list_any p xs ≡ true → list_any q xs ≡ true
any_weaker p q [] w h = absurd (false≢true h)
any_weaker p q (x ∷ xs) w h =
    elim (or_cases (p x) (list_any p xs) h) [
      | inl here ↦ or_left _ _ (w x here)
      | inr later ↦ or_right _ _ (any_weaker p q xs w later)
    ]

-- none passes the one where none passes the other
pub none_weaker : {X : Type 0} (p q : X → Bool) (xs : List X) → ((x : X) → p x ≡ true → q x ≡ true) → list_any q xs ≡ false → list_any p xs ≡ false
none_weaker p q xs w none = false_from_ne_true _ (λ h. false≢true (sym none ∙ any_weaker p q xs w h))

-- each passes what all pass
pub all_at : {X : Type 0} (p : X → Bool) (xs : List X) (i : ℕ) (d : X) → i < length xs → list_all p xs ≡ true → p (get_or xs i d) ≡ true
all_at p xs i d lt all = true_from_ne_false _ (λ f. false≢true (sym (list_all_at p xs i d lt f) ∙ all))

-- one that passes, and a test that it passes for itself
pub any_witness : {X : Type 0} (p : X → Bool) (r : X → X → Bool) (xs : List X) → ((x : X) → p x ≡ true → r x x ≡ true) → list_any p xs ≡ true → (x : X) × (p x ≡ true) × (list_any (r x) xs ≡ true)
any_witness p r [] w h = absurd (false≢true h)
any_witness p r (x ∷ xs) w h =
    elim (or_cases (p x) (list_any p xs) h) [
      | inl here ↦ (x, here, or_left _ _ (w x here))
      | inr later ↦ let found = any_witness p r xs w later in (found.0, found.1, or_right _ _ found.2)
    ]

-- what passes both tests passes the third
pub all_both : {X : Type 0} (p q r : X → Bool) (xs : List X) → ((x : X) → p x ≡ true → q x ≡ true → r x ≡ true) → list_all p xs ≡ true → list_all q xs ≡ true → list_all r xs ≡ true
all_both p q r [] w h k = refl
all_both p q r (x ∷ xs) w h k =
    let first = and_parts (p x) (list_all p xs) h in
    let second = and_parts (q x) (list_all q xs) k in
    and_from _ _ (w x first.0 second.0) (all_both p q r xs w first.1 second.1)

pub all_weaker : {X : Type 0} (p q : X → Bool) (xs : List X) → ((x : X) → p x ≡ true → q x ≡ true) → list_all p xs ≡ true → list_all q xs ≡ true
all_weaker p q xs w h = all_both p p q xs (λ x k k'. w x k) h h

-- where each passes the one, none passes the other
pub none_of_all : {X : Type 0} (p q : X → Bool) (xs : List X) → ((x : X) → p x ≡ true → q x ≡ false) → list_all p xs ≡ true → list_any q xs ≡ false
none_of_all p q [] w h = refl
none_of_all p q (x ∷ xs) w h = let parts = and_parts (p x) (list_all p xs) h in or_from _ _ (w x parts.0) (none_of_all p q xs w parts.1)

-- all pass where none fails
pub all_is_none : {X : Type 0} (p : X → Bool) (xs : List X) → list_all p xs ≡ not (list_any (λ x. not (p x)) xs)
all_is_none p [] = refl
all_is_none p (x ∷ xs) = by (p x) (list_any (λ y. not (p y)) xs) (all_is_none p xs)
  where
    by : (b c : Bool) → list_all p xs ≡ not c → (b && list_all p xs) ≡ not (not b || c)
    by true c h = h
    by false c h = refl

pub all_agree : {X : Type 0} (p q : X → Bool) (xs : List X) → ((x : X) → p x ≡ q x) → list_all p xs ≡ list_all q xs
all_agree p q [] e = refl
all_agree p q (x ∷ xs) e = ap (λ b. b && list_all p xs) (e x) ∙ ap (λ b. q x && b) (all_agree p q xs e)

pub same_truth : (a b : Bool) → (a ≡ true → b ≡ true) → (b ≡ true → a ≡ true) → a ≡ b
same_truth true b h k = sym (h refl)
same_truth false true h k = k refl
same_truth false false h k = refl

-- how many pass, with one more in front
pub count_more : {X : Type 0} (p : X → Bool) (x : X) (xs : List X) → count_by p (x ∷ xs) ≡ cond (p x) 1 0 + count_by p xs
count_more p x xs = sum_by-cons (λ y. cond (p y) 1 0) x xs

-- some pass where their number is not 0
pub any_count : {X : Type 0} (p : X → Bool) (xs : List X) → list_any p xs ≡ nat_lt 0 (count_by p xs)
any_count p [] = refl
any_count p (x ∷ xs) = by (p x) (any_count p xs) ∙ ap (λ n. nat_lt 0 n) (sym (count_more p x xs))
  where
    zero_add : (n : ℕ) → 0 + n ≡ n
    zero_add n = omega arith

    by : (b : Bool) → list_any p xs ≡ nat_lt 0 (count_by p xs) → (b || list_any p xs) ≡ nat_lt 0 (cond b 1 0 + count_by p xs)
    by true h = sym (lt-ltb 0 (1 + count_by p xs) (omega arith))
    by false h = h ∙ ap (λ n. nat_lt 0 n) (sym (zero_add (count_by p xs)))

pub count_none : {X : Type 0} (p : X → Bool) (xs : List X) → list_any p xs ≡ false → count_by p xs ≡ 0
count_none p xs none = let le = ltb-false 0 (count_by p xs) (sym (any_count p xs) ∙ none) in omega (arith, le)
