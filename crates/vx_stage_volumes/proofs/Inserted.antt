-- An entry is put into a list where there was none of its key.
use Rattle.std.proofs.Common.{◌≡◌, ◌∙◌, cond, List, [], ◌∷◌, ◌++◌, Some, None, refl, ap}
use Rattle.std.specs.List.{flat_map}
use Rattle.std.specs.BTreeMap.{insert_entry, is_at}
use Rattle.std.specs.Cmp.Lexicographic.{slice_cmp}
use Rattle.std.specs.Map.{lookup}
use Rattle.std.specs.Ordering.{nat_cmp, is_eq, match_ordering}
use Rattle.std.specs.declared.cmp.Ordering.{Ordering}
use Rattle.std.specs.declared.cmp.Ordering.TheVariants.{Less, Equal, Greater}
use Rattle.std.proofs.lemmas.Grind.{flat_map-append}
use Rattle.std.proofs.lemmas.List.{append-nil}
use Rattle.vx_base.specs.Named.{Word}
use Rattle.vx_copies.specs.Lists.{AllOf}

-- the entry stands between those before it and those behind
pub record IsInserted {X : Type 0} (es es' : List (Word × X)) (key : Word) (x : X) : Type 0 where
  pub before : List (Word × X)
  pub behind : List (Word × X)
  pub was : es ≡ before ++ behind
  pub is : es' ≡ before ++ (key, x) ∷ behind

pub inserted : {X : Type 0} (es : List (Word × X)) (key : Word) (x : X) → lookup (is_at (slice_cmp nat_cmp key)) es ≡ None → IsInserted es (insert_entry (slice_cmp nat_cmp) es key x) key x
inserted [] key x none = record { before = []; behind = []; was = refl; is = refl }
inserted {X = X} (e ∷ es) key x none = by (slice_cmp nat_cmp key e.0) none (inserted es key x)
  where
    by : (o : Ordering) → cond (is_eq o) (Some e.1) (lookup (is_at (slice_cmp nat_cmp key)) es) ≡ None →
        (lookup (is_at (slice_cmp nat_cmp key)) es ≡ None → IsInserted es (insert_entry (slice_cmp nat_cmp) es key x) key x) →
        IsInserted (e ∷ es) (match_ordering o ((key, x) ∷ e ∷ es) ((e.0, x) ∷ es) (e ∷ insert_entry (slice_cmp nat_cmp) es key x)) key x
    by Less none rest = record { before = []; behind = e ∷ es; was = refl; is = refl }
    by Equal none rest = cc
    by Greater none rest = let r = rest none in record { before = e ∷ r.before; behind = r.behind; was = ap (λ xs. e ∷ xs) r.was; is = ap (λ xs. e ∷ xs) r.is }

-- what holds of all others and of it holds of all
pub all_between : {X : Type 0} (Q : X → Type 0) (xs : List X) (x : X) (ys : List X) → AllOf Q (xs ++ ys) → Q x → AllOf Q (xs ++ x ∷ ys)
all_between Q [] x ys all one = (one, all)
all_between Q (y ∷ xs) x ys all one = (all.0, all_between Q xs x ys all.1 one)

-- what all entries have, about the one
pub flat_between : {X A : Type 0} (f : X → List A) (xs : List X) (x : X) (ys : List X) → flat_map f (xs ++ x ∷ ys) ≡ flat_map f xs ++ (f x ++ flat_map f ys)
flat_between f xs x ys = flat_map-append f xs (x ∷ ys)

pub flat_last : {X A : Type 0} (f : X → List A) (xs : List X) (x : X) → flat_map f (xs ++ x ∷ []) ≡ flat_map f xs ++ f x
flat_last f xs x = flat_map-append f xs (x ∷ []) ∙ ap (λ ys. flat_map f xs ++ ys) (append-nil (f x))
