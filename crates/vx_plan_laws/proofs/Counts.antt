-- How many members of a list pass a test, and what follows for each.
use Rattle.std.proofs.Common.{◌≡◌, ℕ, ◌+◌, ◌<◌, ◌≤◌, Bool, true, false, not, cond, ◌&&◌, ◌||◌, nat_lt, List, [], ◌∷◌, ◌++◌, Option, Some, None, refl, sym, ◌∙◌, ap, inl, inr, arith, zero-add}
use Rattle.std.specs.List.{list_any, count_by, filter_map, cons_option}
use Rattle.std.proofs.lemmas.Bool.{or_parts, or_left, or_right, or_cases, cases_order}
use Rattle.std.proofs.lemmas.Bool.Decides.{nat_tests}
use Rattle.std.proofs.lemmas.List.Sums.{sum_by-cons, sum_by-append, sum_by-le-sum_by}
use Rattle.vx_copies.specs.Lists.{AllOf}
use Rattle.vx_rules.proofs.Lookups.{passes}

-- ---- tests

pub and_kept : (a b c d : Bool) → (a ≡ true → c ≡ true) → (b ≡ true → d ≡ true) → (a && b) ≡ true → (c && d) ≡ true
and_kept true true c d f g e = ap (λ (x : Bool). x && d) (f refl) ∙ g refl
and_kept true false c d f g e = cc
and_kept false b c d f g e = cc

pub first_of_two : (a b : Bool) → (a && b) ≡ true → a ≡ true
first_of_two true b e = refl
first_of_two false b e = cc

pub second_of_two : (a b : Bool) → (a && b) ≡ true → b ≡ true
second_of_two true b e = e
second_of_two false b e = cc

pub first_of_three : (a b c : Bool) → ((a && b) && c) ≡ true → a ≡ true
first_of_three a b c e = first_of_two a b (first_of_two (a && b) c e)

pub and_never : (a : Bool) → (a && false) ≡ false
and_never true = refl
and_never false = refl

pub or_never : (a : Bool) → (a || false) ≡ a
or_never true = refl
or_never false = refl

pub not_true : (b : Bool) → not b ≡ true → b ≡ false
not_true true e = cc
not_true false e = refl

-- what passes the one test passes the other, and so what fails the other fails the one
pub turned : (a b : Bool) → (a ≡ true → b ≡ true) → b ≡ false → a ≡ false
turned true true f e = cc
turned true false f e = sym (f refl)
turned false b f e = refl

one_more : (n : ℕ) → true ≡ nat_lt 0 (1 + n)
one_more n = grind (arith, nat_tests)

below_zero : (n : ℕ) → nat_lt 0 n ≡ false → n ≡ 0
below_zero n e = grind (arith, nat_tests)

one_le : (a b : Bool) → (a ≡ true → b ≡ true) → cond a 1 0 ≤ cond b 1 0
one_le true true f = omega arith
one_le true false f = absurd (let e : false ≡ true = f refl in cc)
one_le false b f = omega arith

least : (a b : ℕ) → a < b → nat_lt a a ≡ nat_lt a b → ⊥
least a b low e = grind (arith, nat_tests)

-- two numbers with the same numbers below them
pub same_number : (a b : ℕ) → ((n : ℕ) → nat_lt n a ≡ nat_lt n b) → a ≡ b
same_number a b same = elim (cases_order a b) [ inl is ↦ is | inr (inl low) ↦ absurd (least a b low (same a)) | inr (inr low) ↦ absurd (least b a low (sym (same b))) ]

-- ---- counts

module _ {X : Type 0} where
  pub count_cons : (t : X → Bool) (x : X) (xs : List X) → count_by t (x ∷ xs) ≡ cond (t x) 1 0 + count_by t xs
  count_cons t x xs = sum_by-cons (λ y. cond (t y) 1 0) x xs

  pub count_append : (t : X → Bool) (xs ys : List X) → count_by t (xs ++ ys) ≡ count_by t xs + count_by t ys
  count_append t xs ys = sum_by-append (λ y. cond (t y) 1 0) xs ys

  pub count_like : (t u : X → Bool) (xs : List X) → ((x : X) → t x ≡ u x) → count_by t xs ≡ count_by u xs
  count_like t u xs like = λ i. count_by (λ x. like x i) xs

  pub any_like : (t u : X → Bool) (xs : List X) → ((x : X) → t x ≡ u x) → list_any t xs ≡ list_any u xs
  any_like t u xs like = λ i. list_any (λ x. like x i) xs

  pub count_le : (t u : X → Bool) (xs : List X) → ((x : X) → t x ≡ true → u x ≡ true) → count_by t xs ≤ count_by u xs
  count_le t u xs on = sum_by-le-sum_by (λ x. cond (t x) 1 0) (λ x. cond (u x) 1 0) xs (λ x. one_le (t x) (u x) (on x))

  pub any_counts : (t : X → Bool) (xs : List X) → list_any t xs ≡ nat_lt 0 (count_by t xs)
  any_counts t [] = refl
  any_counts t (x ∷ xs) = by (t x) (any_counts t xs) ∙ ap (λ (n : ℕ). nat_lt 0 n) (sym (count_cons t x xs))
    where
      by : (b : Bool) → list_any t xs ≡ nat_lt 0 (count_by t xs) → (b || list_any t xs) ≡ nat_lt 0 (cond b 1 0 + count_by t xs)
      by true e = one_more (count_by t xs)
      by false e = e ∙ ap (λ (n : ℕ). nat_lt 0 n) (sym (zero-add (count_by t xs)))

  pub none_counted : (t : X → Bool) (xs : List X) → list_any t xs ≡ false → count_by t xs ≡ 0
  none_counted t xs e = below_zero (count_by t xs) (sym (any_counts t xs) ∙ e)

  pub any_kept : (t u : X → Bool) (xs : List X) → ((x : X) → t x ≡ true → u x ≡ true) → list_any t xs ≡ true → list_any u xs ≡ true
  any_kept t u [] on e = cc
  any_kept t u (x ∷ xs) on e = elim (or_cases (t x) (list_any t xs) e) [ inl here ↦ or_left (u x) (list_any u xs) (on x here) | inr more ↦ or_right (u x) (list_any u xs) (any_kept t u xs on more) ]

  -- where no member passes the one test, two others that agree on the rest count the same
  pub count_without : (bad t u : X → Bool) (xs : List X) → list_any bad xs ≡ false → ((x : X) → bad x ≡ false → t x ≡ u x) → count_by t xs ≡ count_by u xs
  count_without bad t u [] none like = refl
  count_without bad t u (x ∷ xs) none like =
      let parts = or_parts (bad x) (list_any bad xs) none in
      count_cons t x xs ∙ (λ i. cond (like x parts.0 i) 1 0 + count_without bad t u xs parts.1 like i) ∙ sym (count_cons u x xs)

pub count_filter_map : {X Y : Type 0} (t : Y → Bool) (h : X → Option Y) (xs : List X) → count_by t (filter_map h xs) ≡ count_by (λ x. passes t (h x)) xs
count_filter_map t h [] = refl
count_filter_map {Y = Y} t h (x ∷ xs) = by (h x) (count_filter_map t h xs) ∙ sym (count_cons (λ x. passes t (h x)) x xs)
  where
    by : (o : Option Y) → count_by t (filter_map h xs) ≡ count_by (λ x. passes t (h x)) xs → count_by t (cons_option o (filter_map h xs)) ≡ cond (passes t o) 1 0 + count_by (λ x. passes t (h x)) xs
    by None e = e ∙ sym (zero-add (count_by (λ x. passes t (h x)) xs))
    by (Some y) e = count_cons t y (filter_map h xs) ∙ ap (λ (n : ℕ). cond (t y) 1 0 + n) e

-- ---- what holds of each member

module _ {X : Type 0} where
  pub all_map : (P Q : X → Type 0) (xs : List X) → ((x : X) → P x → Q x) → AllOf P xs → AllOf Q xs
  all_map P Q [] on all = tt
  all_map P Q (x ∷ xs) on all = (on x all.0, all_map P Q xs on all.1)

  pub all_both : (P Q : X → Type 0) (xs : List X) → AllOf P xs → AllOf Q xs → AllOf (λ x. P x × Q x) xs
  all_both P Q [] all more = tt
  all_both P Q (x ∷ xs) all more = ((all.0, more.0), all_both P Q xs all.1 more.1)

  pub all_append : (P : X → Type 0) (xs ys : List X) → AllOf P xs → AllOf P ys → AllOf P (xs ++ ys)
  all_append P [] ys all more = more
  all_append P (x ∷ xs) ys all more = (all.0, all_append P xs ys all.1 more)

  pub all_filter_map : {Y : Type 0} (P : X → Type 0) (Q : Y → Type 0) (h : X → Option Y) (xs : List X) → ((x : X) (y : Y) → h x ≡ Some y → P x → Q y) → AllOf P xs → AllOf Q (filter_map h xs)
  all_filter_map P Q h [] on all = tt
  all_filter_map {Y = Y} P Q h (x ∷ xs) on all = by (h x) refl (all_filter_map P Q h xs on all.1)
    where
      by : (o : Option Y) → h x ≡ o → AllOf Q (filter_map h xs) → AllOf Q (cons_option o (filter_map h xs))
      by None e more = more
      by (Some y) e more = (on x y e all.0, more)

  -- a test that the thing passes is passed by one of the list
  abbrev pub IsAmong : List X → X → Type 0
  IsAmong xs x = (t : X → Bool) → t x ≡ true → list_any t xs ≡ true

  pub each_among : (xs : List X) → AllOf (IsAmong xs) xs
  each_among [] = tt
  each_among (x ∷ xs) = (
    λ t is. or_left (t x) (list_any t xs) is,
    all_map (IsAmong xs) (IsAmong (x ∷ xs)) xs (λ y among t is. or_right (t x) (list_any t xs) (among t is)) (each_among xs),
  )
