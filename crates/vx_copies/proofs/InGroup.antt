-- What a device offers in a group, where its header stays.
use Rattle.std.proofs.Common.{◌≡◌, ◌⊎◌, ℕ, Bool, true, false, List, Option, Some, None, refl, sym, ap, ◌∙◌, subst, inl, inr}
use Rattle.std.specs.Prelude.{MatchOption}
use Rattle.vx_base.specs.Blocks.{Contents}
use Rattle.vx_base.specs.Named.{Word}
use Rattle.vx_header.specs.Named.{header_of}
use Rattle.vx_copies.specs.Image.{Offer, offer_of, names_group, offer_if, offer_in, offer_told}
use Rattle.vx_copies.specs.Disks.{IsNew}

module _ (group : Word) where
  abbrev named : Contents → Bool
  named c = names_group group (header_of (c 0))

  pub in_same : (c d : Contents) → d 0 ≡ c 0 → offer_of d ≡ offer_of c → offer_in group d ≡ offer_in group c
  unfolding offer_in
  in_same c d header same = ap (λ s. offer_if (names_group group (header_of s)) (offer_of d)) header ∙ ap (offer_if (named c)) same

  pub in_member : (c : Contents) → names_group group (header_of (c 0)) ≡ true → offer_in group c ≡ offer_of c
  unfolding offer_in
  in_member c is = ap (λ b. offer_if b (offer_of c)) is

  -- a device whose header is none, or names another group, offers nothing
  pub in_other : (c : Contents) → names_group group (header_of (c 0)) ≡ false → offer_in group c ≡ None
  unfolding offer_in
  in_other c is = ap (λ b. offer_if b (offer_of c)) is

  pub told_none : (t : Option Contents) → MatchOption t (Unit {0}) (λ c. header_of (c 0) ≡ None) → offer_told group t ≡ None
  told_none None is = refl
  told_none (Some c) is = in_other c (ap (names_group group) is)

  by_name : (d : Contents) (b : Bool) (old : Option Offer) (f l : ℕ) (text : List ℕ) → IsNew f l text (offer_of d) → (offer_if b (offer_of d) ≡ offer_if b old) ⊎ IsNew f l text (offer_if b (offer_of d))
  by_name d true old f l text is = inr is
  by_name d false old f l text is = inl refl

  pub in_goes : (f l : ℕ) (text : List ℕ) (c d : Contents) → d 0 ≡ c 0 → (offer_of d ≡ offer_of c) ⊎ IsNew f l text (offer_of d) → (offer_in group d ≡ offer_in group c) ⊎ IsNew f l text (offer_in group d)
  unfolding offer_in
  in_goes f l text c d header (inl same) = inl (in_same c d header same)
  in_goes f l text c d header (inr new) =
      let here : offer_if (named d) (offer_of d) ≡ offer_if (named c) (offer_of d) = ap (λ s. offer_if (names_group group (header_of s)) (offer_of d)) header in
      elim (by_name d (named c) (offer_of c) f l text new) [ inl same ↦ inl (here ∙ same) | inr is ↦ inr (subst (IsNew f l text) (sym here) is) ]

  just_by : (b : Bool) (o : Option Offer) (old : Option Offer) (new : Offer) → o ≡ Some new → (offer_if b o ≡ offer_if b old) ⊎ (offer_if b o ≡ Some new)
  just_by true o old new is = inr is
  just_by false o old new is = inl refl

  pub in_just : (c d : Contents) (new : Offer) → d 0 ≡ c 0 → offer_of d ≡ Some new → (offer_in group d ≡ offer_in group c) ⊎ (offer_in group d ≡ Some new)
  unfolding offer_in
  in_just c d new header is =
      let here : offer_if (named d) (offer_of d) ≡ offer_if (named c) (offer_of d) = ap (λ s. offer_if (names_group group (header_of s)) (offer_of d)) header in
      elim (just_by (named c) (offer_of d) (offer_of c) new is) [ inl same ↦ inl (here ∙ same) | inr e ↦ inr (here ∙ e) ]
