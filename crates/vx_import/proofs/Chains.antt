-- With chained copies, what the readable devices give is the newest, or it names a device that could not be read.
use Rattle.std.proofs.Common.{◌≡◌, ◌⊎◌, ℕ, ◌<◌, ◌≤◌, Bool, true, false, cond, List, [], ◌∷◌, ◌++◌, map, Option, Some, None, refl, sym, subst, arith, ltb, inl, inr}
use Rattle.std.specs.Prelude.{MatchOption}
use Rattle.std.proofs.lemmas.Bool.{ltb-true, ltb-false}
use Rattle.vx_base.specs.Named.{Word}
use Rattle.vx_mask.specs.Mask.{has}
use Rattle.vx_copies.specs.Lists.{AllOf, AnyOf}
use Rattle.vx_copies.specs.Image.{Offer, offer_told, higher}
use Rattle.vx_copies.specs.Chain.{Copy, AllUpTo, NamesNewer, NamesMissing, IsChained}
use Rattle.vx_import.specs.Looks.{Looked}
use Rattle.vx_import.specs.Choice.{given}
use Rattle.vx_import.specs.Newest.{copy_of, copies_with, NamesUnread, IsNewestOrNames}

abbrev UpTo : ℕ → Option Offer → Type 0
UpTo m o = MatchOption o (Unit {0}) (λ p. p.sequence ≤ m)

abbrev Above : ℕ → Option Offer → Type 0
Above m o = MatchOption o ⊥ (λ p. m < p.sequence)

-- neither of two offers passes the higher one
both_up : (m : ℕ) (a b : Option Offer) → UpTo m (higher a b) → UpTo m a × UpTo m b
both_up m None b le = (tt, le)
both_up m (Some a) None le = (le, tt)
both_up m (Some a) (Some b) le = by (ltb a.sequence b.sequence) refl le
  where
    by : (x : Bool) → ltb a.sequence b.sequence ≡ x → UpTo m (cond x (Some b) (Some a)) → UpTo m (Some a) × UpTo m (Some b)
    by true less is = let lt : a.sequence < b.sequence = ltb-true _ _ less in let one : a.sequence ≤ m = omega (arith, lt, is) in (one, is)
    by false not_less is = let ge : b.sequence ≤ a.sequence = ltb-false _ _ not_less in let two : b.sequence ≤ m = omega (arith, ge, is) in (is, two)

-- the higher of two offers is one of them
one_of : (a b : Option Offer) (o : Offer) → higher a b ≡ Some o → (a ≡ Some o) ⊎ (b ≡ Some o)
one_of None b o e = inr e
one_of (Some a) None o e = inl e
one_of (Some a) (Some b) o e = by (ltb a.sequence b.sequence) e
  where
    by : (x : Bool) → cond x (Some b) (Some a) ≡ Some o → (Some a ≡ Some o) ⊎ (Some b ≡ Some o)
    by true is = inr is
    by false is = inl is

not_above : (m : ℕ) (o : Option Offer) → UpTo m o → Above m o → ⊥
not_above m None le lt = lt
not_above m (Some p) le lt = omega (arith, le, lt)

module _ (group : Word) where
  abbrev offer_here : Looked → Option Offer
  offer_here f = cond f.readable (offer_told group f.seen.told) None

  all_up : (m : ℕ) (fs : List Looked) → UpTo m (given group fs) → AllOf (λ f. UpTo m (offer_here f)) fs
  all_up m [] le = tt
  all_up m (f ∷ fs) le = let both = both_up m (offer_here f) (given group fs) le in (both.0, all_up m fs both.1)

  told_of : (f : Looked) (o : Offer) → offer_here f ≡ Some o → offer_told group f.seen.told ≡ Some o
  told_of f o e = by f.readable e
    where
      by : (b : Bool) → cond b (offer_told group f.seen.told) None ≡ Some o → offer_told group f.seen.told ≡ Some o
      by true is = is
      by false is = cc

  any_given : (o : Offer) (fs : List Looked) → given group fs ≡ Some o → AnyOf (λ c. c.offer ≡ Some o) (map (copy_of group) fs)
  any_given o [] e = cc
  any_given o (f ∷ fs) e = elim (one_of (offer_here f) (given group fs) o e) [
    | inl here ↦ inl (told_of f o here)
    | inr behind ↦ inr (any_given o fs behind)
  ]

  any_more : (Q : Copy → Type 0) (others cs : List Copy) → AnyOf Q cs → AnyOf Q (others ++ cs)
  any_more Q [] cs any = any
  any_more Q (c ∷ others) cs any = inr (any_more Q others cs any)

  any_part : (Q : Copy → Type 0) (others cs : List Copy) → AnyOf Q (others ++ cs) → AnyOf Q others ⊎ AnyOf Q cs
  any_part Q [] cs any = inr any
  any_part Q (c ∷ others) cs (inl is) = inl (inl is)
  any_part Q (c ∷ others) cs (inr any) = elim (any_part Q others cs any) [ inl a ↦ inl (inr a) | inr b ↦ inr b ]

  linked_at : (missing : ℕ) (o : Offer) (all cs : List Copy) → AllOf (λ c. MatchOption c.offer (Unit {0}) (λ p. AllUpTo p.sequence all ⊎ (NamesNewer p all ⊎ NamesMissing missing p))) cs → AnyOf (λ c. c.offer ≡ Some o) cs → AllUpTo o.sequence all ⊎ (NamesNewer o all ⊎ NamesMissing missing o)
  linked_at missing o all [] links any = absurd any
  linked_at missing o all (c ∷ cs) links (inl is) = subst (λ x. MatchOption x (Unit {0}) (λ p. AllUpTo p.sequence all ⊎ (NamesNewer p all ⊎ NamesMissing missing p))) is links.0
  linked_at missing o all (c ∷ cs) links (inr any) = linked_at missing o all cs links.1 any

  unread : (o : Offer) (fs : List Looked) → AllOf (λ f. UpTo o.sequence (offer_here f)) fs → NamesNewer o (map (copy_of group) fs) → NamesUnread o fs
  unread o [] up any = absurd any
  unread o (f ∷ fs) up (inr any) = inr (unread o fs up.1 any)
  unread o (f ∷ fs) up (inl is) = inl (by f.readable up.0, is.0)
    where
      by : (b : Bool) → UpTo o.sequence (cond b (offer_told group f.seen.told) None) → b ≡ false
      by true le = absurd (not_above o.sequence (offer_told group f.seen.told) le is.1)
      by false le = refl

  pub newest_or_names : (missing : ℕ) (others : List Copy) (fs : List Looked) (o : Offer) → IsChained missing (copies_with group others fs) → given group fs ≡ Some o → IsNewestOrNames group missing o others fs
  newest_or_names missing others fs o chained e =
      let at_most : o.sequence ≤ o.sequence = omega arith in
      let up = all_up o.sequence fs (subst (UpTo o.sequence) (sym e) at_most) in
      let any = any_more (λ c. c.offer ≡ Some o) others (map (copy_of group) fs) (any_given o fs e) in
      elim (linked_at missing o (copies_with group others fs) (copies_with group others fs) chained any) [
        | inl top ↦ inl top
        | inr (inl newer) ↦ inr (elim (any_part (λ c. (has o.good c.slot ≡ true) × MatchOption c.offer ⊥ (λ p. o.sequence < p.sequence)) others (map (copy_of group) fs) newer) [ inl a ↦ inl a | inr b ↦ inr (inl (unread o fs up b)) ])
        | inr (inr gone) ↦ inr (inr (inr gone))
      ]
