-- The numbers of the devices that are known, once one is known otherwise.
use Rattle.std.proofs.Common.{◌≡◌, ◌∙◌, ◌+◌, ◌<◌, ℕ, Bool, true, false, cond, Option, Some, None, is_some, if◌then◌else◌, ap, refl, sym, subst, arith}
use Rattle.std.specs.BTreeMap.{BTreeMap, get, btree_map_len}
use Rattle.std.specs.Cmp.Lexicographic.{slice_cmp}
use Rattle.std.specs.Ordering.{nat_cmp, is_eq}
use Rattle.std.specs.Str.{bytes_eq}
use Rattle.std.proofs.lemmas.Map.Text.{is_eq-slice_cmp}
use Rattle.std.proofs.lemmas.Option.{same_Some}
use Rattle.vx_base.specs.Named.{Word}
use Rattle.vx_base.proofs.NamedLemmas.{bytes_eq_same}
use Rattle.vx_files.specs.Known.{number_by, number_in, IsNumbered, AreNumbered}
use Rattle.vx_files.specs.declared.known.Known.{Known}

module _ (known more : Word → Option Known) (count : ℕ) (name : Word) (one : Known) (updates : (q : Word) → more q ≡ cond (bytes_eq name q) (Some one) (known q)) (numbered : IsNumbered count known) (number : one.device ≡ number_by (known name) count) where
  -- only the device of the name has its number
  its_name : (q : Word) (x : Known) → known q ≡ Some x → x.device ≡ one.device → name ≡ q
  its_name q x at same = by_case (known name) refl
    where
      by_case : (o : Option Known) → known name ≡ o → name ≡ q
      by_case None e =
          let lt = numbered.below q x at in
          let next : one.device ≡ count = number ∙ ap (λ o. number_by o count) e in
          absurd (omega (arith, lt, next, same))
      by_case (Some k) e = numbered.apart name q k x e at (sym (same ∙ number ∙ ap (λ o. number_by o count) e))

  number_below : one.device < count + (if is_some (known name) then 0 else 1)
  number_below = by_case (known name) refl
    where
      by_case : (o : Option Known) → known name ≡ o → one.device < count + (if is_some o then 0 else 1)
      by_case None e =
          let next : one.device ≡ count = number ∙ ap (λ o. number_by o count) e in
          omega (arith, next)
      by_case (Some k) e =
          let lt = numbered.below name k e in
          let same : one.device ≡ k.device = number ∙ ap (λ o. number_by o count) e in
          omega (arith, lt, same)

  -- the device keeps its number, or has the next
  pub numbered_put : IsNumbered (count + (if is_some (known name) then 0 else 1)) more
  numbered_put = record { below = below; apart = apart }
    where
      more_count : (b : Bool) (n : ℕ) → n < count → n < count + (if b then 0 else 1)
      more_count true n lt = omega (arith, lt)
      more_count false n lt = omega (arith, lt)

      below_by : (q : Word) (k : Known) (b : Bool) → cond b (Some one) (known q) ≡ Some k → k.device < count + (if is_some (known name) then 0 else 1)
      below_by q k true at = subst (λ (o : Known). o.device < count + (if is_some (known name) then 0 else 1)) (same_Some one k at) number_below
      below_by q k false at = more_count (is_some (known name)) k.device (numbered.below q k at)

      below : (q : Word) (k : Known) → more q ≡ Some k → k.device < count + (if is_some (known name) then 0 else 1)
      below q k at = below_by q k (bytes_eq name q) (sym (updates q) ∙ at)

      apart_by : (a b : Word) (x y : Known) (c d : Bool) → bytes_eq name a ≡ c → bytes_eq name b ≡ d → cond c (Some one) (known a) ≡ Some x → cond d (Some one) (known b) ≡ Some y → x.device ≡ y.device → a ≡ b
      apart_by a b x y true true e f at_a at_b same = sym (bytes_eq_same name a e) ∙ bytes_eq_same name b f
      apart_by a b x y true false e f at_a at_b same = sym (bytes_eq_same name a e) ∙ its_name b y at_b (sym (ap (λ k. k.device) (same_Some one x at_a) ∙ same))
      apart_by a b x y false true e f at_a at_b same = sym (its_name a x at_a (same ∙ sym (ap (λ k. k.device) (same_Some one y at_b)))) ∙ bytes_eq_same name b f
      apart_by a b x y false false e f at_a at_b same = numbered.apart a b x y at_a at_b same

      apart : (a b : Word) (x y : Known) → more a ≡ Some x → more b ≡ Some y → x.device ≡ y.device → a ≡ b
      apart a b x y at_a at_b same = apart_by a b x y (bytes_eq name a) (bytes_eq name b) refl refl (sym (updates a) ∙ at_a) (sym (updates b) ∙ at_b) same

-- one device is known with the number that it had, or with the next
pub numbered_known : (old new : BTreeMap Word Known) (name : Word) (one : Known) (before : Option Known) → before ≡ get (slice_cmp nat_cmp) old name → ((q : Word) → get (slice_cmp nat_cmp) new q ≡ cond (is_eq (slice_cmp nat_cmp name q)) (Some one) (get (slice_cmp nat_cmp) old q)) → btree_map_len new ≡ btree_map_len old + (if is_some before then 0 else 1) → one.device ≡ number_in old name → AreNumbered old → AreNumbered new
numbered_known old new name one before was updates count number numbered =
    subst (λ n. IsNumbered n (get (slice_cmp nat_cmp) new))
    (sym (count ∙ ap (λ o. btree_map_len old + (if is_some o then 0 else 1)) was))
    (numbered_put (get (slice_cmp nat_cmp) old) (get (slice_cmp nat_cmp) new) (btree_map_len old) name one
    (λ q. updates q ∙ ap (λ b. cond b (Some one) (get (slice_cmp nat_cmp) old q)) (is_eq-slice_cmp name q)) numbered number)
