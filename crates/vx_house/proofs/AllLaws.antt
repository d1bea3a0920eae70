-- What holds of each of some devices that are held, and of each started volume.
use Rattle.std.proofs.Common.{◌≡◌, ◌∙◌, Bool, true, false, cond, List, [], ◌∷◌, ◌++◌, map, Option, Some, refl, sym, ap}
use Rattle.std.specs.Str.{bytes_eq}
use Rattle.std.specs.List.{AllByRecursion}
use Rattle.std.specs.List.Sorted.{IsStrictlySortedBy}
use Rattle.std.specs.declared.cmp.Ordering.TheVariants.{Less}
use Rattle.std.specs.Ordering.{is_eq, nat_cmp}
use Rattle.std.specs.Cmp.Lexicographic.{slice_cmp}
use Rattle.std.specs.BTreeMap.{is_at}
use Rattle.std.specs.Map.{lookup, keys_of}
use Rattle.std.proofs.lemmas.Bool.{cond-true, cond-false}
use Rattle.std.proofs.lemmas.Map.Text.{is_eq-slice_cmp}
use Rattle.vx_base.specs.Named.{Word}
use Rattle.vx_base.proofs.NamedLemmas.{bytes_eq_self, bytes_eq_same}
use Rattle.vx_piece.specs.Seen.{Seen}
use Rattle.vx_copies.specs.Lists.{AllOf}
use Rattle.vx_house.specs.Holders.{Holder, held_as, AreApart}
use Rattle.vx_house.proofs.Holders.{apart_turned, IsApart}

pub all_append : {X : Type 0} (Q : X → Type 0) (xs ys : List X) → AllOf Q xs → AllOf Q ys → AllOf Q (xs ++ ys)
all_append Q [] ys one two = two
all_append Q (x ∷ xs) ys one two = (one.0, all_append Q xs ys one.1 two)

pub all_front : {X : Type 0} (Q : X → Type 0) (xs ys : List X) → AllOf Q (xs ++ ys) → AllOf Q xs
all_front Q [] ys all = tt
all_front Q (x ∷ xs) ys all = (all.0, all_front Q xs ys all.1)

pub all_back : {X : Type 0} (Q : X → Type 0) (xs ys : List X) → AllOf Q (xs ++ ys) → AllOf Q ys
all_back Q [] ys all = all
all_back Q (x ∷ xs) ys all = all_back Q xs ys all.1

pub all_mapped : {X Y : Type 0} (Q : Y → Type 0) (f : X → Y) (xs : List X) → AllOf (λ x. Q (f x)) xs → AllOf Q (map f xs)
all_mapped Q f [] all = tt
all_mapped Q f (x ∷ xs) all = (all.0, all_mapped Q f xs all.1)

pub all_unmapped : {X Y : Type 0} (Q : Y → Type 0) (f : X → Y) (xs : List X) → AllOf Q (map f xs) → AllOf (λ x. Q (f x)) xs
all_unmapped Q f [] all = tt
all_unmapped Q f (x ∷ xs) all = (all.0, all_unmapped Q f xs all.1)

pub all_each : {X : Type 0} (P Q : X → Type 0) → ((x : X) → P x → Q x) → (xs : List X) → AllOf P xs → AllOf Q xs
all_each P Q f [] all = tt
all_each P Q f (x ∷ xs) all = (f x all.0, all_each P Q f xs all.1)

pub all_two : {X : Type 0} (P Q R : X → Type 0) → ((x : X) → P x → Q x → R x) → (xs : List X) → AllOf P xs → AllOf Q xs → AllOf R xs
all_two P Q R f [] p q = tt
all_two P Q R f (x ∷ xs) p q = (f x p.0 q.0, all_two P Q R f xs p.1 q.1)

-- each one is held under its own name
pub held_each : (hs : List Holder) → AreApart hs → AllOf (λ h. held_as hs h.name ≡ Some h.seen) hs
held_each [] apart = tt
held_each (h ∷ hs) apart = (
  cond-true _ _ _ (bytes_eq_self h.name),
  all_two (IsApart h) (λ o. held_as hs o.name ≡ Some o.seen) (λ o. held_as (h ∷ hs) o.name ≡ Some o.seen) (λ o away at. cond-false _ _ _ away ∙ at) hs apart.0 (held_each hs apart.1),
)

-- what is held under a name is of one of them
pub held_by_one : {R : Type 0} (Q : Holder → Type 0) (hs : List Holder) (name : Word) (seen : Seen) → held_as hs name ≡ Some seen → AllOf Q hs → ((h : Holder) → h.name ≡ name → h.seen ≡ seen → Q h → R) → R
held_by_one Q [] name seen is all f = cc
held_by_one {R = R} Q (h ∷ hs) name seen is all f = by_test (bytes_eq h.name name) refl is (λ rest. held_by_one Q hs name seen rest all.1 f)
  where
    by_test : (b : Bool) → bytes_eq h.name name ≡ b → cond b (Some h.seen) (held_as hs name) ≡ Some seen → (held_as hs name ≡ Some seen → R) → R
    by_test true e here rest = f h (bytes_eq_same h.name name e) (let same : h.seen ≡ seen = cc in same) all.0
    by_test false e here rest = rest here

-- the value of a key in a list of entries
abbrev pub found_in : {X : Type 0} → List (Word × X) → Word → Option X
found_in es key = lookup (is_at (slice_cmp nat_cmp key)) es

less_each : {X : Type 0} (key : Word) (es : List (Word × X)) → AllByRecursion (λ k. slice_cmp nat_cmp key k ≡ Less) (keys_of es) → AllOf (λ e. slice_cmp nat_cmp key e.0 ≡ Less) es
less_each key [] all = tt
less_each key (e ∷ es) all = (all.0, less_each key es all.1)

not_equal : (key other : Word) → slice_cmp nat_cmp key other ≡ Less → bytes_eq key other ≡ false
not_equal key other less = sym (is_eq-slice_cmp key other) ∙ ap is_eq less

-- each entry is found under its key
-- the first is found by its own name
pub found_first : {X : Type 0} (e : Word × X) (es : List (Word × X)) → found_in (e ∷ es) e.0 ≡ Some e.1
found_first e es = cond-true _ _ _ (is_eq-slice_cmp e.0 e.0 ∙ bytes_eq_self e.0)

pub found_each : {X : Type 0} (es : List (Word × X)) → IsStrictlySortedBy (slice_cmp nat_cmp) (keys_of es) → AllOf (λ e. found_in es e.0 ≡ Some e.1) es
unfolding IsStrictlySortedBy
found_each [] ordered = tt
found_each (e ∷ es) ordered = (
  cond-true _ _ _ (is_eq-slice_cmp e.0 e.0 ∙ bytes_eq_self e.0),
  all_two (λ x. slice_cmp nat_cmp e.0 x.0 ≡ Less) (λ x. found_in es x.0 ≡ Some x.1) (λ x. found_in (e ∷ es) x.0 ≡ Some x.1)
      (λ x less at. cond-false _ _ _ (is_eq-slice_cmp x.0 e.0 ∙ apart_turned e.0 x.0 (not_equal e.0 x.0 less)) ∙ at)
      es (less_each e.0 es ordered.0) (found_each es ordered.1),
)

-- what is found under a key is its entry's
pub found_by_one : {X R : Type 0} (Q : Word × X → Type 0) (es : List (Word × X)) (key : Word) (x : X) → found_in es key ≡ Some x → AllOf Q es → ((e : Word × X) → e.0 ≡ key → e.1 ≡ x → Q e → R) → R
found_by_one Q [] key x is all f = cc
found_by_one {X = X} {R = R} Q (e ∷ es) key x is all f = by_test (is_at (slice_cmp nat_cmp key) e.0) refl is (λ rest. found_by_one Q es key x rest all.1 f)
  where
    by_test : (b : Bool) → is_at (slice_cmp nat_cmp key) e.0 ≡ b → cond b (Some e.1) (found_in es key) ≡ Some x → (found_in es key ≡ Some x → R) → R
    by_test true t here rest = f e (sym (bytes_eq_same key e.0 (sym (is_eq-slice_cmp key e.0) ∙ t))) (let same : e.1 ≡ x = cc in same) all.0
    by_test false t here rest = rest here
