-- Lists that were changed element by element, and what is found in them still.
use Rattle.std.proofs.Common.{◌≡◌, ◌+◌, ◌≤◌, Bool, true, false, cond, Option, Some, None, List, [], ◌∷◌, ◌++◌, length, refl, sym, ◌∙◌, ap, inl, inr, arith}
use Rattle.std.specs.List.{AllZip, filter, filter_map, cons_option, find, count_by, list_all}
use Rattle.std.proofs.lemmas.Bool.{false≢true}
use Rattle.std.proofs.lemmas.List.Elements.{filter_map-append}
use Rattle.std.proofs.lemmas.List.{append-nil}
use Rattle.std.proofs.lemmas.List.Sums.{length-filter, count_by-le-length}
use Rattle.vx_rules.proofs.ListTests.{count_more}
use Rattle.vx_state_edits.specs.Laws.{IsAmong}
use Rattle.vx_image.proofs.PlexMembers.{IsIn}

same_some : {A : Type 0} (a b : A) → Some a ≡ Some b → b ≡ a
same_some a b e = cc

pub among : {A : Type 0} (xs : List A) (x : A) → IsIn xs x → IsAmong xs x
among [] x h = h
among (y ∷ xs) x (inl h) = inl h
among (y ∷ xs) x (inr h) = inr (among xs x h)

pub only_in : {A : Type 0} (x y : A) → IsIn (y ∷ []) x → x ≡ y
only_in x y (inl same) = same
only_in x y (inr none) = absurd none

-- what is found is there, and passes
pub found_in : {A : Type 0} (test : A → Bool) (xs : List A) (x : A) → find test xs ≡ Some x → IsIn xs x × (test x ≡ true)
found_in test [] x e = absurd cc
found_in test (y ∷ xs) x e = by (found_in test xs x) (test y) refl e
  where
    by : (find test xs ≡ Some x → IsIn xs x × (test x ≡ true)) → (b : Bool) → test y ≡ b → cond b (Some y) (find test xs) ≡ Some x → IsIn (y ∷ xs) x × (test x ≡ true)
    by on true t e = let same = same_some y x e in (inl same, ap test same ∙ t)
    by on false t e = let r = on e in (inr r.0, r.1)

-- ---- lists that are filtered

pub filter_all : {A : Type 0} (xs : List A) → filter (λ x. true) xs ≡ xs
filter_all [] = refl
filter_all (x ∷ xs) = ap (λ ys. x ∷ ys) (filter_all xs)

pub filter_append : {A : Type 0} (t : A → Bool) (xs ys : List A) → filter t (xs ++ ys) ≡ filter t xs ++ filter t ys
filter_append t [] ys = refl
filter_append t (x ∷ xs) ys = by (t x) (filter_append t xs ys)
  where
    by : (b : Bool) → filter t (xs ++ ys) ≡ filter t xs ++ filter t ys → cond b (x ∷ filter t (xs ++ ys)) (filter t (xs ++ ys)) ≡ cond b (x ∷ filter t xs) (filter t xs) ++ filter t ys
    by true e = ap (λ zs. x ∷ zs) e
    by false e = e

-- where each passes the whole list is left, and where none passes nothing is
pub filter_passed : {A : Type 0} (t : A → Bool) (xs : List A) → ((x : A) → IsIn xs x → t x ≡ true) → filter t xs ≡ xs
filter_passed t [] passes = refl
filter_passed t (x ∷ xs) passes = ap (λ b. cond b (x ∷ filter t xs) (filter t xs)) (passes x (inl refl)) ∙ ap (λ ys. x ∷ ys) (filter_passed t xs (λ y there. passes y (inr there)))

pub filter_none : {A : Type 0} (t : A → Bool) (xs : List A) → ((x : A) → IsIn xs x → t x ≡ false) → filter t xs ≡ []
filter_none t [] none = refl
filter_none t (x ∷ xs) none = rw (none x (inl refl)) (filter_none t xs (λ y there. none y (inr there)))

-- a test that asks more than another finds the same among what passes the other
pub filter_narrow : {A : Type 0} (r t : A → Bool) → ((x : A) → r x ≡ true → t x ≡ true) → (xs : List A) → filter r xs ≡ filter r (filter t xs)
filter_narrow r t narrow [] = refl
filter_narrow r t narrow (x ∷ xs) = by (r x) (t x) refl refl (filter_narrow r t narrow xs)
  where
    by : (a b : Bool) → r x ≡ a → t x ≡ b → filter r xs ≡ filter r (filter t xs) → cond a (x ∷ filter r xs) (filter r xs) ≡ filter r (cond b (x ∷ filter t xs) (filter t xs))
    by true true p q e = ap (λ ys. x ∷ ys) e ∙ ap (λ c. cond c (x ∷ filter r (filter t xs)) (filter r (filter t xs))) (sym p)
    by true false p q e = absurd (false≢true (sym q ∙ narrow x p))
    by false true p q e = e ∙ ap (λ c. cond c (x ∷ filter r (filter t xs)) (filter r (filter t xs))) (sym p)
    by false false p q e = e

pub find_narrow : {A : Type 0} (r t : A → Bool) → ((x : A) → r x ≡ true → t x ≡ true) → (xs : List A) → find r xs ≡ find r (filter t xs)
find_narrow r t narrow [] = refl
find_narrow r t narrow (x ∷ xs) = by (r x) (t x) refl refl (find_narrow r t narrow xs)
  where
    by : (a b : Bool) → r x ≡ a → t x ≡ b → find r xs ≡ find r (filter t xs) → cond a (Some x) (find r xs) ≡ find r (cond b (x ∷ filter t xs) (filter t xs))
    by true true p q e = ap (λ c. cond c (Some x) (find r (filter t xs))) (sym p)
    by true false p q e = absurd (false≢true (sym q ∙ narrow x p))
    by false true p q e = e ∙ ap (λ c. cond c (Some x) (find r (filter t xs))) (sym p)
    by false false p q e = e

pub filter_short : {A : Type 0} (t : A → Bool) (xs : List A) → length (filter t xs) ≤ length xs
filter_short t xs = let e = length-filter t xs in let few = count_by-le-length t xs in omega (arith, e, few)

pub all_each : {A : Type 0} (t : A → Bool) (xs : List A) → ((x : A) → IsIn xs x → t x ≡ true) → list_all t xs ≡ true
all_each t [] each = refl
all_each t (x ∷ xs) each = rw (each x (inl refl)) (all_each t xs (λ y there. each y (inr there)))

pub zip_each : {A : Type 0} (R : A → A → Type 0) (xs : List A) → ((x : A) → IsIn xs x → R x x) → AllZip R xs xs
zip_each R [] each = tt
zip_each R (x ∷ xs) each = (each x (inl refl), zip_each R xs (λ y there. each y (inr there)))

-- ---- counts

count_weaker : {A : Type 0} (p q : A → Bool) (xs : List A) → ((y : A) → p y ≡ true → q y ≡ true) → count_by p xs ≤ count_by q xs
count_weaker p q [] w = omega arith
count_weaker p q (y ∷ xs) w = by (count_weaker p q xs w) (p y) (q y) refl refl (count_more p y xs) (count_more q y xs) where
  by : count_by p xs ≤ count_by q xs → (a b : Bool) → p y ≡ a → q y ≡ b → count_by p (y ∷ xs) ≡ cond a 1 0 + count_by p xs → count_by q (y ∷ xs) ≡ cond b 1 0 + count_by q xs → count_by p (y ∷ xs) ≤ count_by q (y ∷ xs)
  by r true true h k e f = omega (arith, r, e, f)
  by r true false h k e f = absurd (false≢true (sym k ∙ w y h))
  by r false true h k e f = omega (arith, r, e, f)
  by r false false h k e f = omega (arith, r, e, f)

-- a test that one element fails, which passes a weaker one, counts fewer
pub count_less : {A : Type 0} (p q : A → Bool) (xs : List A) (x : A) → ((y : A) → p y ≡ true → q y ≡ true) → IsIn xs x → p x ≡ false → q x ≡ true → count_by p xs + 1 ≤ count_by q xs
count_less p q [] x w h no_p is_q = absurd h
count_less p q (y ∷ xs) x w (inl h) no_p is_q = by (p y) (q y) (sym (ap p h) ∙ no_p) (sym (ap q h) ∙ is_q) (count_more p y xs) (count_more q y xs) where
  by : (a b : Bool) → a ≡ false → b ≡ true → count_by p (y ∷ xs) ≡ cond a 1 0 + count_by p xs → count_by q (y ∷ xs) ≡ cond b 1 0 + count_by q xs → count_by p (y ∷ xs) + 1 ≤ count_by q (y ∷ xs)
  by true b h k e f = absurd (false≢true (sym h))
  by false false h k e f = absurd (false≢true k)
  by false true h k e f = let r = count_weaker p q xs w in omega (arith, r, e, f)
count_less p q (y ∷ xs) x w (inr h) no_p is_q = by (count_less p q xs x w h no_p is_q) (p y) (q y) refl refl (count_more p y xs) (count_more q y xs) where
  by : count_by p xs + 1 ≤ count_by q xs → (a b : Bool) → p y ≡ a → q y ≡ b → count_by p (y ∷ xs) ≡ cond a 1 0 + count_by p xs → count_by q (y ∷ xs) ≡ cond b 1 0 + count_by q xs → count_by p (y ∷ xs) + 1 ≤ count_by q (y ∷ xs)
  by r true true t k e f = omega (arith, r, e, f)
  by r true false t k e f = absurd (false≢true (sym k ∙ w y t))
  by r false true t k e f = omega (arith, r, e, f)
  by r false false t k e f = omega (arith, r, e, f)

-- ---- lists of which elements are changed or go

module _ {O A : Type 0} (t : A → Bool) (pick : O → Option A) where
  -- what is picked of one element, where it passes the test
  abbrev pub picked : Option A → List A
  picked None = []
  picked (Some x) = cond (t x) (x ∷ []) []

  abbrev pub seen : Option O → List A
  seen None = []
  seen (Some o) = picked (pick o)

  -- one that fails the test is not picked
  pub not_picked : (x : A) → t x ≡ false → picked (Some x) ≡ []
  not_picked x e = ap (λ b. cond b (x ∷ []) []) e

  picked_then : (a : Option A) (xs : List A) → filter t (cons_option a xs) ≡ picked a ++ filter t xs
  picked_then None xs = refl
  picked_then (Some x) xs = by (t x)
    where
      by : (b : Bool) → cond b (x ∷ filter t xs) (filter t xs) ≡ cond b (x ∷ []) [] ++ filter t xs
      by true = refl
      by false = refl

  seen_then : (h : O → Option O) (os : List O) (o : Option O) → filter t (filter_map pick (cons_option o (filter_map h os))) ≡ seen o ++ filter t (filter_map pick (filter_map h os))
  seen_then h os None = refl
  seen_then h os (Some o) = picked_then (pick o) (filter_map pick (filter_map h os))

  -- where of each element the same is seen, what is picked and passes stays
  pub same_seen : (h : O → Option O) (os : List O) → ((o : O) → IsIn os o → seen (h o) ≡ picked (pick o)) → filter t (filter_map pick (filter_map h os)) ≡ filter t (filter_map pick os)
  same_seen h [] same = refl
  same_seen h (o ∷ os) same =
      seen_then h os (h o)
      ∙ ap (λ xs. xs ++ filter t (filter_map pick (filter_map h os))) (same o (inl refl))
      ∙ ap (λ xs. picked (pick o) ++ xs) (same_seen h os (λ p there. same p (inr there)))
      ∙ sym (picked_then (pick o) (filter_map pick os))

  -- where of no element anything is seen, nothing is picked that passes
  pub none_seen : (os : List O) → ((o : O) → IsIn os o → picked (pick o) ≡ []) → filter t (filter_map pick os) ≡ []
  none_seen [] none = refl
  none_seen (o ∷ os) none =
      picked_then (pick o) (filter_map pick os)
      ∙ ap (λ xs. xs ++ filter t (filter_map pick os)) (none o (inl refl))
      ∙ none_seen os (λ p there. none p (inr there))

  -- an element that goes where nothing is seen of it, or stays
  pub kept_seen : (b : Bool) (o : O) → (b ≡ false → picked (pick o) ≡ []) → seen (cond b (Some o) None) ≡ picked (pick o)
  kept_seen true o none = refl
  kept_seen false o none = sym (none refl)

  -- .. or goes by a test
  pub gone_seen : (b : Bool) (o : O) → picked (pick o) ≡ [] → seen (cond b None (Some o)) ≡ picked (pick o)
  gone_seen true o none = sym none
  gone_seen false o none = refl

  -- .. and more stands behind the list
  pub seen_with : (h : O → Option O) (os more : List O) → ((o : O) → IsIn os o → seen (h o) ≡ picked (pick o)) →
      filter t (filter_map pick (filter_map h os ++ more)) ≡ filter t (filter_map pick os) ++ filter t (filter_map pick more)
  seen_with h os more same =
      ap (λ xs. filter t xs) (filter_map-append pick (filter_map h os) more)
      ∙ filter_append t (filter_map pick (filter_map h os)) (filter_map pick more)
      ∙ ap (λ xs. xs ++ filter t (filter_map pick more)) (same_seen h os same)

  -- .. that has nothing
  pub same_with : (h : O → Option O) (os more : List O) → ((o : O) → IsIn os o → seen (h o) ≡ picked (pick o)) → filter t (filter_map pick more) ≡ [] →
      filter t (filter_map pick (filter_map h os ++ more)) ≡ filter t (filter_map pick os)
  same_with h os more same none = seen_with h os more same ∙ ap (λ xs. filter t (filter_map pick os) ++ xs) none ∙ append-nil (filter t (filter_map pick os))

-- an element that stays is there
some_in : {B : Type 0} (o : Option B) (y : B) (ys : List B) → o ≡ Some y → IsIn (cons_option o ys) y
some_in None y ys e = cc
some_in (Some w) y ys e = inl (same_some w y e)

rest_in : {B : Type 0} (o : Option B) (y : B) (ys : List B) → IsIn ys y → IsIn (cons_option o ys) y
rest_in None y ys there = there
rest_in (Some w) y ys there = inr there

pub in_filter_map : {A B : Type 0} (h : A → Option B) (xs : List A) (x : A) (y : B) → IsIn xs x → h x ≡ Some y → IsIn (filter_map h xs) y
in_filter_map h [] x y there is = absurd there
in_filter_map h (z ∷ xs) x y (inl same) is = some_in (h z) y (filter_map h xs) (sym (ap h same) ∙ is)
in_filter_map h (z ∷ xs) x y (inr there) is = rest_in (h z) y (filter_map h xs) (in_filter_map h xs x y there is)
