-- Running volumes under their names.
use Rattle.std.proofs.Common.{◌≡◌, ◌∙◌, Bool, true, false, cond, List, [], ◌∷◌, Option, Some, None, Result, Ok, refl, sym, ap, subst}
use Rattle.std.specs.Prelude.{IfOk}
use Rattle.std.specs.BTreeMap.{BTreeMap, get, insert_entry, is_at}
use Rattle.std.specs.Cmp.Lexicographic.{slice_cmp}
use Rattle.std.specs.Map.{lookup}
use Rattle.std.specs.Str.{bytes_eq}
use Rattle.std.specs.Ordering.{nat_cmp, is_eq, match_ordering}
use Rattle.std.specs.declared.cmp.Ordering.{Ordering}
use Rattle.std.specs.declared.cmp.Ordering.TheVariants.{Less, Equal, Greater}
use Rattle.std.proofs.lemmas.Map.Text.{is_eq-slice_cmp}
use Rattle.vx_base.specs.Named.{Word, put, SameUnder}
use Rattle.vx_base.proofs.NamedLemmas.{bytes_eq_same}
use Rattle.vx_copies.specs.Lists.{AllOf}

-- what stands under each name once one is put
pub puts_as : {X : Type 0} (old new : BTreeMap Word X) (key : Word) (x : X) → ((q : Word) → get (slice_cmp nat_cmp) new q ≡ cond (is_eq (slice_cmp nat_cmp key q)) (Some x) (get (slice_cmp nat_cmp) old q)) → SameUnder (put key (Some x) (get (slice_cmp nat_cmp) old)) (get (slice_cmp nat_cmp) new)
puts_as old new key x puts q = puts q ∙ ap (λ b. cond b (Some x) (get (slice_cmp nat_cmp) old q)) (is_eq-slice_cmp key q)

-- .. under one name
pub put_under : {X : Type 0} (key q : Word) (x : X) (was is : Option X) → is ≡ cond (is_eq (slice_cmp nat_cmp key q)) (Some x) was → is ≡ cond (bytes_eq key q) (Some x) was
put_under key q x was is e = e ∙ ap (λ b. cond b (Some x) was) (is_eq-slice_cmp key q)

-- what holds of each entry holds of the one that is found
pub at_found : {X : Type 0} (Q : X → Type 0) (test : Word → Bool) (es : List (Word × X)) (x : X) → AllOf (λ (e : Word × X). Q e.1) es → lookup test es ≡ Some x → Q x
at_found Q test [] x all is = absurd (let no : None ≡ Some x = is in cc)
at_found {X = X} Q test (e ∷ es) x all is = by (test e.0) is (at_found Q test es x all.1)
  where
    by : (b : Bool) → cond b (Some e.1) (lookup test es) ≡ Some x → (lookup test es ≡ Some x → Q x) → Q x
    by true here rest = let same : e.1 ≡ x = cc in subst Q same all.0
    by false here rest = rest here

-- what holds of an answer that is done
pub of_ok : {X E : Type 0} (Q : X → Type 0) (r : Result X E) → IfOk r Q → (x : X) → r ≡ Ok x → Q x
of_ok Q r holds x is = subst (λ s. IfOk s Q) is holds

-- the same with its name
pub entry_found : {X : Type 0} (Q : Word → X → Type 0) (name : Word) (es : List (Word × X)) (x : X) → AllOf (λ (e : Word × X). Q e.0 e.1) es → lookup (is_at (slice_cmp nat_cmp name)) es ≡ Some x → Q name x
entry_found Q name [] x all is = absurd (let no : None ≡ Some x = is in cc)
entry_found {X = X} Q name (e ∷ es) x all is = by (is_at (slice_cmp nat_cmp name) e.0) refl is (entry_found Q name es x all.1)
  where
    by : (b : Bool) → is_at (slice_cmp nat_cmp name) e.0 ≡ b → cond b (Some e.1) (lookup (is_at (slice_cmp nat_cmp name)) es) ≡ Some x → (lookup (is_at (slice_cmp nat_cmp name)) es ≡ Some x → Q name x) → Q name x
    by true at here rest =
        let same : e.1 ≡ x = cc in
        let named : name ≡ e.0 = bytes_eq_same name e.0 (sym (is_eq-slice_cmp name e.0) ∙ at) in
        subst (λ n. Q n x) (sym named) (subst (Q e.0) same all.0)
    by false at here rest = rest here

-- what stands under each name in a map that is the one in which this was put
pub puts_in : {X : Type 0} (old new other : BTreeMap Word X) (key : Word) (w x : X) → new ≡ other → ((q : Word) → get (slice_cmp nat_cmp) other q ≡ cond (is_eq (slice_cmp nat_cmp key q)) (Some w) (get (slice_cmp nat_cmp) old q)) → w ≡ x →
    SameUnder (put key (Some x) (get (slice_cmp nat_cmp) old)) (get (slice_cmp nat_cmp) new)
puts_in old new other key w x same puts e q = ap (λ m. get (slice_cmp nat_cmp) m q) same ∙ puts q ∙ ap (λ y. cond (is_eq (slice_cmp nat_cmp key q)) (Some y) (get (slice_cmp nat_cmp) old q)) e ∙ ap (λ b. cond b (Some x) (get (slice_cmp nat_cmp) old q)) (is_eq-slice_cmp key q)

-- what holds of each entry, and of one that is put, holds of each one then
pub all_inserted : {X : Type 0} (Q : X → Type 0) (key : Word) (x : X) (es : List (Word × X)) → AllOf (λ (e : Word × X). Q e.1) es → Q x → AllOf (λ (e : Word × X). Q e.1) (insert_entry (slice_cmp nat_cmp) es key x)
all_inserted Q key x [] all here = (here, tt)
all_inserted {X = X} Q key x (e ∷ es) all here = by (slice_cmp nat_cmp key e.0) (all_inserted Q key x es all.1 here)
  where
    by : (o : Ordering) → AllOf (λ (e : Word × X). Q e.1) (insert_entry (slice_cmp nat_cmp) es key x) →
        AllOf (λ (e : Word × X). Q e.1) (match_ordering o ((key, x) ∷ e ∷ es) ((e.0, x) ∷ es) (e ∷ insert_entry (slice_cmp nat_cmp) es key x))
    by Less rest = (here, all)
    by Equal rest = (here, all.1)
    by Greater rest = (all.0, rest)
