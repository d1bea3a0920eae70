-- The started volumes as a list, once one more is put among them.
use Rattle.std.proofs.Common.{◌≡◌, ◌∙◌, ◌||◌, Bool, true, false, cond, List, [], ◌∷◌, ◌++◌, Some, None, refl, ap}
use Rattle.std.specs.List.{list_any}
use Rattle.std.specs.BTreeMap.{BTreeMap, get, is_at, insert_entry}
use Rattle.std.specs.Cmp.Lexicographic.{slice_cmp}
use Rattle.std.specs.Map.{lookup}
use Rattle.std.specs.Ordering.{nat_cmp, is_eq, match_ordering}
use Rattle.std.specs.declared.cmp.Ordering.{Ordering}
use Rattle.std.specs.declared.cmp.Ordering.TheVariants.{Less, Equal, Greater}
use Rattle.std.proofs.lemmas.Map.Text.{is_eq-slice_cmp}
use Rattle.vx_base.specs.Named.{Word, put, SameUnder}

-- the entry of a new key
pub record IsPutAt {X : Type 0} (es es' : List (Word × X)) (key : Word) (new : X) : Type 0 where
  pub before : List (Word × X)
  pub behind : List (Word × X)
  pub was : es ≡ before ++ behind
  pub is : es' ≡ before ++ (key, new) ∷ behind

module _ {X : Type 0} (key : Word) (new : X) where
  put_by : (o : Ordering) (e : Word × X) (es : List (Word × X)) → (lookup (is_at (slice_cmp nat_cmp key)) es ≡ None → IsPutAt es (insert_entry (slice_cmp nat_cmp) es key new) key new)
      → cond (is_eq o) (Some e.1) (lookup (is_at (slice_cmp nat_cmp key)) es) ≡ None → IsPutAt (e ∷ es) (match_ordering o ((key, new) ∷ e ∷ es) ((e.0, new) ∷ es) (e ∷ insert_entry (slice_cmp nat_cmp) es key new)) key new
  put_by Less e es more none = record { before = []; behind = e ∷ es; was = refl; is = refl }
  put_by Equal e es more none = cc
  put_by Greater e es more none = let m = more none in record { before = e ∷ m.before; behind = m.behind; was = ap (λ xs. e ∷ xs) m.was; is = ap (λ xs. e ∷ xs) m.is }

  pub put_at : (es : List (Word × X)) → lookup (is_at (slice_cmp nat_cmp key)) es ≡ None → IsPutAt es (insert_entry (slice_cmp nat_cmp) es key new) key new
  put_at [] none = record { before = []; behind = []; was = refl; is = refl }
  put_at (e ∷ es) none = put_by (slice_cmp nat_cmp key e.0) e es (put_at es) none

-- what stands under each name once one is put
pub puts_as : {X : Type 0} (old new : BTreeMap Word X) (key : Word) (x : X) → ((q : Word) → get (slice_cmp nat_cmp) new q ≡ cond (is_eq (slice_cmp nat_cmp key q)) (Some x) (get (slice_cmp nat_cmp) old q)) → SameUnder (put key (Some x) (get (slice_cmp nat_cmp) old)) (get (slice_cmp nat_cmp) new)
puts_as old new key x puts q = puts q ∙ ap (λ b. cond b (Some x) (get (slice_cmp nat_cmp) old q)) (is_eq-slice_cmp key q)

-- a test that none passes is passed by none of fewer
either : (a b c : Bool) → (b ≡ false → c ≡ false) → (a || b) ≡ false → (a || c) ≡ false
either true b c f e = e
either false b c f e = f e

second : (a b : Bool) → (a || b) ≡ false → b ≡ false
second true b e = cc
second false b e = e

pub any_less : {X : Type 0} (test : X → Bool) (xs : List X) (e : X) (ys : List X) → list_any test (xs ++ e ∷ ys) ≡ false → list_any test (xs ++ ys) ≡ false
any_less test [] e ys none = second (test e) (list_any test ys) none
any_less test (x ∷ xs) e ys none = either (test x) (list_any test (xs ++ e ∷ ys)) (list_any test (xs ++ ys)) (any_less test xs e ys) none
