-- Lists in another order, what is found in them, and what is picked of them; functions that are the same.
use Rattle.std.proofs.Common.{◌≡◌, ◌⊎◌, inl, inr, ℕ, ◌+◌, Bool, true, false, not, cond, ◌&&◌, ◌||◌, Option, Some, None, List, [], ◌∷◌, ◌++◌, map, length, get_or, set, swap, refl, sym, ◌∙◌, ap, subst, arith}
use Rattle.std.specs.List.{cons_option, filter_map, find, list_all, list_any, sum_by}
use Rattle.std.specs.List.Sorted.{IsPermutation, SwapsInRange, apply_swaps}
use Rattle.std.proofs.lemmas.Bool.{false≢true}
use Rattle.std.proofs.lemmas.List.{length-map}
use Rattle.std.proofs.lemmas.List.Sorted.{IsPermutation-append_left, IsPermutation-cons, IsPermutation-refl, IsPermutation-to_front, IsPermutation-trans, list_any-IsPermutation, sum_by-IsPermutation}
use Rattle.std.proofs.lemmas.List.Sums.{sum_by-cons}
use lib.ListN.{get_or-map}
use lib.Seq.{map-set}
use Rattle.vx_image.proofs.PlexMembers.{IsIn}

-- ---- one more element

-- an element in front of others may stand in front of the last of them
behind : {A : Type 0} (x : A) (xs ys zs : List A) → IsPermutation (x ∷ ys) zs → IsPermutation (x ∷ (xs ++ ys)) (xs ++ zs)
behind x [] ys zs p = p
behind x (a ∷ xs) ys zs p =
    IsPermutation-trans (x ∷ a ∷ (xs ++ ys)) (a ∷ x ∷ (xs ++ ys)) (a ∷ (xs ++ zs)) (IsPermutation-append_left (xs ++ ys) (x ∷ a ∷ []) (a ∷ x ∷ []) (IsPermutation-to_front (x ∷ []) a)) (IsPermutation-cons a (x ∷ (xs ++ ys)) (xs ++ zs) (behind x xs ys zs p))

-- lists one behind the other, and the rest behind them
abbrev pub joined : {A : Type 0} → List (List A) → List A → List A
joined [] rest = rest
joined (front ∷ fronts) rest = front ++ joined fronts rest

pub spread : {A : Type 0} (x : A) (fronts : List (List A)) (rest : List A) → IsPermutation (x ∷ joined fronts rest) (joined fronts (x ∷ rest))
spread x [] rest = IsPermutation-refl (x ∷ rest)
spread x (front ∷ fronts) rest = behind x front (joined fronts rest) (joined fronts (x ∷ rest)) (spread x fronts rest)

-- ---- a permutation of what a function gives

map_swap : {X Y : Type 0} (f : X → Y) (xs : List X) (i j : ℕ) → map f (swap xs i j) ≡ swap (map f xs) i j
map_swap f [] i j = refl
map_swap f (d ∷ ys) i j =
    map-set f (set (d ∷ ys) i (get_or (d ∷ ys) j d)) j (get_or (d ∷ ys) i d)
    ∙ (λ k. set ((map-set f (d ∷ ys) i (get_or (d ∷ ys) j d) ∙ ap (set (map f (d ∷ ys)) i) (sym (get_or-map f (d ∷ ys) j d))) k) j (sym (get_or-map f (d ∷ ys) i d) k))

map_swaps : {X Y : Type 0} (f : X → Y) (xs : List X) (ps : List (ℕ × ℕ)) → map f (apply_swaps xs ps) ≡ apply_swaps (map f xs) ps
map_swaps f xs [] = refl
map_swaps f xs (p ∷ ps) = map_swap f (apply_swaps xs ps) p.0 p.1 ∙ ap (λ l. swap l p.0 p.1) (map_swaps f xs ps)

pub unmapped : {X Y : Type 0} (f : X → Y) (xs : List X) (ys : List Y) → IsPermutation (map f xs) ys → (zs : List X) × IsPermutation xs zs × (map f zs ≡ ys)
unmapped f xs ys p = (apply_swaps xs p.moves, record { moves = p.moves; below = subst (λ (n : ℕ). SwapsInRange n p.moves) (length-map xs f) p.below; is = refl }, map_swaps f xs p.moves ∙ sym p.is)

-- ---- tests of all

all_not_any : {X : Type 0} (p : X → Bool) (xs : List X) → list_all p xs ≡ not (list_any (λ x. not (p x)) xs)
all_not_any p [] = refl
all_not_any p (x ∷ xs) = by (p x) (list_all p xs) (list_any (λ x. not (p x)) xs) (all_not_any p xs)
  where
    by : (a b c : Bool) → b ≡ not c → (a && b) ≡ not (not a || c)
    by true b c e = e
    by false b c e = refl

pub all_permuted : {X : Type 0} (p : X → Bool) (xs ys : List X) → IsPermutation xs ys → list_all p xs ≡ true → list_all p ys ≡ true
all_permuted p xs ys same h = all_not_any p ys ∙ ap not (sym (list_any-IsPermutation (λ x. not (p x)) xs ys same)) ∙ sym (all_not_any p xs) ∙ h

-- ---- what is found

some_same : {A : Type 0} (a b : A) → Some a ≡ Some b → a ≡ b
some_same a b e = cc

pub found_in : {A : Type 0} (test : A → Bool) (xs : List A) (x : A) → find test xs ≡ Some x → IsIn xs x × (test x ≡ true)
found_in test [] x e = absurd cc
found_in test (y ∷ xs) x e = by (found_in test xs x) (test y) refl e
  where
    by : (find test xs ≡ Some x → IsIn xs x × (test x ≡ true)) → (b : Bool) → test y ≡ b → cond b (Some y) (find test xs) ≡ Some x → IsIn (y ∷ xs) x × (test x ≡ true)
    by on true t e = let same = some_same y x e in (inl (sym same), subst (λ z. test z ≡ true) same t)
    by on false t e = let r = on e in (inr r.0, r.1)

none_in : {A : Type 0} (test : A → Bool) (xs : List A) (x : A) → find test xs ≡ None → IsIn xs x → test x ≡ true → ⊥
none_in test [] x e one t = one
none_in test (y ∷ xs) x e one t = by (λ n m. none_in test xs x n m t) (test y) refl e one
  where
    by : (find test xs ≡ None → IsIn xs x → ⊥) → (b : Bool) → test y ≡ b → cond b (Some y) (find test xs) ≡ None → IsIn (y ∷ xs) x → ⊥
    by on true is e one = absurd cc
    by on false is e (inl here) = false≢true (sym is ∙ (sym (ap test here) ∙ t))
    by on false is e (inr there) = on e there

-- of two lists with the same elements, of which one passes at most, the same is found
module _ {A : Type 0} (test : A → Bool) (xs ys : List A) (into : (x : A) → IsIn xs x → IsIn ys x) (back : (x : A) → IsIn ys x → IsIn xs x) (only : (x y : A) → IsIn xs x → IsIn xs y → test x ≡ true → test y ≡ true → x ≡ y) where
  pub found_same : find test ys ≡ find test xs
  found_same = by (find test xs) (find test ys) refl refl
    where
      by : (x y : Option A) → find test xs ≡ x → find test ys ≡ y → y ≡ x
      by None None e f = refl
      by None (Some y) e f = let r = found_in test ys y f in absurd (none_in test xs y e (back y r.0) r.1)
      by (Some x) None e f = let r = found_in test xs x e in absurd (none_in test ys x f (into x r.0) r.1)
      by (Some x) (Some y) e f =
          let r = found_in test xs x e in
          let s = found_in test ys y f in
          ap Some (only y x (back y s.0) r.0 s.1 r.1)

-- ---- what is picked of a list

module _ {A B : Type 0} (pick : A → Option B) where
  from_first : (o : Option B) (bs : List B) (b : B) → IsIn (cons_option o bs) b → (o ≡ Some b) ⊎ IsIn bs b
  from_first None bs b one = inr one
  from_first (Some x) bs b (inl here) = inl (ap Some (sym here))
  from_first (Some x) bs b (inr one) = inr one

  into_first : (o : Option B) (bs : List B) (b : B) → o ≡ Some b → IsIn (cons_option o bs) b
  into_first o bs b is = subst (λ x. IsIn (cons_option x bs) b) (sym is) (inl refl)

  into_rest : (o : Option B) (bs : List B) (b : B) → IsIn bs b → IsIn (cons_option o bs) b
  into_rest None bs b one = one
  into_rest (Some x) bs b one = inr one

  picked_from : (xs : List A) (b : B) → IsIn (filter_map pick xs) b → (x : A) × IsIn xs x × (pick x ≡ Some b)
  picked_from [] b one = absurd one
  picked_from (x ∷ xs) b one = elim (from_first (pick x) (filter_map pick xs) b one) [
    | inl is ↦ (x, inl refl, is)
    | inr there ↦ let r = picked_from xs b there in (r.0, inr r.1, r.2)
  ]

  picked_into : (xs : List A) (x : A) (b : B) → IsIn xs x → pick x ≡ Some b → IsIn (filter_map pick xs) b
  picked_into [] x b one is = absurd one
  picked_into (y ∷ xs) x b (inl here) is = into_first (pick y) (filter_map pick xs) b (ap pick (sym here) ∙ is)
  picked_into (y ∷ xs) x b (inr one) is = into_rest (pick y) (filter_map pick xs) b (picked_into xs x b one is)

  -- what is picked of some is picked of more
  pub picked_more : (xs ys : List A) → ((x : A) → IsIn xs x → IsIn ys x) → (b : B) → IsIn (filter_map pick xs) b → IsIn (filter_map pick ys) b
  picked_more xs ys more b one = let r = picked_from xs b one in picked_into ys r.0 b (more r.0 r.1) r.2

  abbrev number_of : Option B → ℕ
  number_of None = 0
  number_of (Some b) = 1

  one_more : (o : Option B) (bs : List B) → length (cons_option o bs) ≡ number_of o + length bs
  one_more None bs = omega arith
  one_more (Some b) bs = omega arith

  how_many : (xs : List A) → length (filter_map pick xs) ≡ sum_by (λ x. number_of (pick x)) xs
  how_many [] = refl
  how_many (x ∷ xs) = one_more (pick x) (filter_map pick xs) ∙ ap (λ n. number_of (pick x) + n) (how_many xs) ∙ sym (sum_by-cons (λ x. number_of (pick x)) x xs)

  pub as_many : (xs ys : List A) → IsPermutation xs ys → length (filter_map pick ys) ≡ length (filter_map pick xs)
  as_many xs ys same = how_many ys ∙ sum_by-IsPermutation (λ x. number_of (pick x)) xs ys same ∙ sym (how_many xs)

-- ---- functions

pub same_functions : {A B : Type 0} (f g : A → B) → ((x : A) → f x ≡ g x) → f ≡ g
same_functions f g each = λ i x. each x i
