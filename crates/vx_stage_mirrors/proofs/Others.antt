-- One entry of the running volumes is put: what holds of it, and of all others.
use Rattle.std.proofs.Common.{◌≡◌, ◌≢◌, ◌∙◌, Bool, true, false, cond, List, [], ◌∷◌, refl, sym, ap, subst}
use Rattle.std.specs.BTreeMap.{is_at}
use Rattle.std.specs.Cmp.Lexicographic.{slice_cmp}
use Rattle.std.specs.List.{AllByRecursion}
use Rattle.std.specs.List.Sorted.{IsStrictlySortedBy}
use Rattle.std.specs.Map.{keys_of, set_value}
use Rattle.std.specs.Ordering.{is_eq, nat_cmp}
use Rattle.std.specs.Str.{bytes_eq}
use Rattle.std.specs.declared.cmp.Ordering.TheVariants.{Less}
use Rattle.std.proofs.lemmas.Bool.{false≢true}
use Rattle.std.proofs.lemmas.Map.Text.{is_eq-slice_cmp}
use Rattle.vx_base.specs.Named.{Word}
use Rattle.vx_base.proofs.NamedLemmas.{bytes_eq_same, bytes_eq_self}
use Rattle.vx_copies.specs.Lists.{AllOf}

-- words that differ
differ : (name other : Word) → bytes_eq name other ≡ false → other ≢ name
differ name other not same = false≢true (sym not ∙ ap (bytes_eq name) same ∙ bytes_eq_self name)

module _ {X : Type 0} (Q R : Word → X → Type 0) (name : Word) (others : (key : Word) (x : X) → key ≢ name → Q key x → R key x) where
  -- no key behind the one of the name is that
  behind : (key : Word) → key ≡ name → (es : List (Word × X)) → AllByRecursion (λ k. slice_cmp nat_cmp key k ≡ Less) (keys_of es) → AllOf (λ (e : Word × X). Q e.0 e.1) es → AllOf (λ (e : Word × X). R e.0 e.1) es
  behind key is [] less all = tt
  behind key is (e ∷ es) less all = (
    others e.0 e.1 (subst (λ n. e.0 ≢ n) is (differ key e.0 (sym (is_eq-slice_cmp key e.0) ∙ ap is_eq less.0))) all.0,
    behind key is es less.1 all.1,
  )

  -- each of them is so, once this one is put
  pub all_put : (es : List (Word × X)) (after : X) → IsStrictlySortedBy (slice_cmp nat_cmp) (keys_of es) → AllOf (λ (e : Word × X). Q e.0 e.1) es → R name after → AllOf (λ (e : Word × X). R e.0 e.1) (set_value (is_at (slice_cmp nat_cmp name)) es after)
  unfolding IsStrictlySortedBy
  all_put [] after sorted all here = tt
  all_put (e ∷ es) after sorted all here = by (is_at (slice_cmp nat_cmp name) e.0) refl (all_put es after sorted.1 all.1 here)
    where
      by : (b : Bool) → is_at (slice_cmp nat_cmp name) e.0 ≡ b → AllOf (λ (e : Word × X). R e.0 e.1) (set_value (is_at (slice_cmp nat_cmp name)) es after) →
          AllOf (λ (e : Word × X). R e.0 e.1) (cond b ((e.0, after) ∷ es) (e ∷ set_value (is_at (slice_cmp nat_cmp name)) es after))
      by true at rest =
          let named : name ≡ e.0 = bytes_eq_same name e.0 (sym (is_eq-slice_cmp name e.0) ∙ at) in
          (subst (λ n. R n after) named here, behind e.0 (sym named) es sorted.0 all.1)
      by false at rest = (others e.0 e.1 (differ name e.0 (sym (is_eq-slice_cmp name e.0) ∙ at)) all.0, rest)
