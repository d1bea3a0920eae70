-- The configuration that some disks give, where each offers what it did or the new text.
use Rattle.std.proofs.Common.{◌≡◌, ◌⊎◌, ℕ, ◌+◌, ◌≤◌, Bool, true, false, cond, List, [], ◌∷◌, Option, Some, None, refl, sym, ap, ◌∙◌, subst, arith, inl, inr, ltb}
use Rattle.std.specs.Prelude.{MatchOption}
use Rattle.std.proofs.lemmas.Bool.{cond-true, cond-false, lt-ltb, le-ltb}
use Rattle.vx_base.specs.Blocks.{Contents}
use Rattle.vx_copies.specs.Image.{Offer, offer_told, higher}
use Rattle.vx_base.specs.Named.{Word}
use Rattle.vx_copies.specs.Lists.{Each, AllOf}
use Rattle.vx_copies.specs.Disks.{DiskSeen, CommitGoes, Offers, IsNew, IsBelow}
use Rattle.vx_copies.proofs.InGroup.{in_goes}
use Rattle.vx_copies.specs.Config.{configuration, GivesOldOrNew}

higher_under : (last : ℕ) (a b : Option Offer) → MatchOption a (Unit {0}) (λ x. x.sequence ≤ last) → MatchOption b (Unit {0}) (λ x. x.sequence ≤ last) → MatchOption (higher a b) (Unit {0}) (λ x. x.sequence ≤ last)
higher_under last None b p q = q
higher_under last (Some a) None p q = p
higher_under last (Some a) (Some b) p q = by (ltb a.sequence b.sequence)
  where
    by : (t : Bool) → MatchOption (cond t (Some b) (Some a)) (Unit {0}) (λ x. x.sequence ≤ last)
    by true = q
    by false = p

module _ (group : Word) (old last : ℕ) (text : List ℕ) where
  -- of two offers of which each is the old one or new, the higher is the old higher one or new
  higher_goes : (a a' b b' : Option Offer)
      → MatchOption a (Unit {0}) (λ x. x.sequence ≤ old) → MatchOption b (Unit {0}) (λ x. x.sequence ≤ old)
      → (a' ≡ a) ⊎ IsNew (old + 1) last text a' → (b' ≡ b) ⊎ IsNew (old + 1) last text b'
      → (higher a' b' ≡ higher a b) ⊎ IsNew (old + 1) last text (higher a' b')
  higher_goes a a' b b' ua ub (inl e) (inl f) = inl (cc)
  higher_goes a None b b' ua ub (inr new) q = absurd new
  higher_goes a a' b None ua ub p (inr new) = absurd new
  higher_goes a (Some x) b None ua ub (inr new) q = inr new
  higher_goes a (Some x) b (Some y) ua ub (inr new) (inr other) = inr (by (ltb x.sequence y.sequence))
    where
      by : (t : Bool) → IsNew (old + 1) last text (cond t (Some y) (Some x))
      by true = other
      by false = new
  higher_goes a (Some x) b (Some y) ua ub (inr new) (inl f) =
      let under : y.sequence ≤ old = subst (λ o. MatchOption o (Unit {0}) (λ z. z.sequence ≤ old)) (sym f) ub in
      inr (subst (IsNew (old + 1) last text) (sym (cond-false _ _ _ (le-ltb x.sequence y.sequence (omega (arith, new.0, under))))) new)
  higher_goes a None b (Some y) ua ub p (inr new) = inr new
  higher_goes a (Some x) b (Some y) ua ub (inl e) (inr new) =
      let under : x.sequence ≤ old = subst (λ o. MatchOption o (Unit {0}) (λ z. z.sequence ≤ old)) (sym e) ua in
      inr (subst (IsNew (old + 1) last text) (sym (cond-true _ _ _ (lt-ltb x.sequence y.sequence (omega (arith, new.0, under))))) new)

  told_goes : (a b : Option Contents) → Offers (old + 1) last text a b → (offer_told group b ≡ offer_told group a) ⊎ IsNew (old + 1) last text (offer_told group b)
  told_goes None None is = inl refl
  told_goes None (Some b) is = absurd is
  told_goes (Some a) None is = absurd is
  told_goes (Some a) (Some b) (header, inl same, rest) = in_goes group (old + 1) last text a b header (inl same.1)
  told_goes (Some a) (Some b) (header, inr new, rest) = in_goes group (old + 1) last text a b header (inr new)

  mask_goes : (r : Bool) (a b : Option Offer) → (b ≡ a) ⊎ IsNew (old + 1) last text b → (cond r b None ≡ cond r a None) ⊎ IsNew (old + 1) last text (cond r b None)
  mask_goes true a b is = is
  mask_goes false a b is = inl refl

  mask_under : (r : Bool) (a : Option Offer) → MatchOption a (Unit {0}) (λ x. x.sequence ≤ old) → MatchOption (cond r a None) (Unit {0}) (λ x. x.sequence ≤ old)
  mask_under true a is = is
  mask_under false a is = tt

  pub under_all : (readable : ℕ → Bool) (hs : List DiskSeen) → AllOf (IsBelow group old) hs → MatchOption (configuration group readable hs) (Unit {0}) (λ x. x.sequence ≤ old)
  under_all readable [] is = tt
  under_all readable (a ∷ hs) is = higher_under old _ _ (mask_under (readable a.slot) (offer_told group a.seen.told) is.0) (under_all readable hs is.1)

  pub gives : (hs bs : List DiskSeen) → AllOf (IsBelow group old) hs → Each (CommitGoes (old + 1) last text) hs bs → GivesOldOrNew group (old + 1) last text hs bs
  gives [] [] below goes readable = inl refl
  gives [] (b ∷ bs) below goes readable = absurd goes
  gives (a ∷ hs) [] below goes readable = absurd goes
  gives (a ∷ hs) (b ∷ bs) below goes readable =
      let here = mask_goes (readable a.slot) (offer_told group a.seen.told) (offer_told group b.seen.told) (told_goes a.seen.told b.seen.told goes.0.offers) in
      let same : cond (readable b.slot) (offer_told group b.seen.told) None ≡ cond (readable a.slot) (offer_told group b.seen.told) None = ap (λ s. cond (readable s) (offer_told group b.seen.told) None) goes.0.slot in
      let one = higher_goes _ _ _ _ (mask_under (readable a.slot) (offer_told group a.seen.told) below.0) (under_all readable hs below.1) here (gives hs bs below.1 goes.1 readable) in
      let whole : higher (cond (readable b.slot) (offer_told group b.seen.told) None) (configuration group readable bs) ≡ higher (cond (readable a.slot) (offer_told group b.seen.told) None) (configuration group readable bs) = ap (λ o. higher o (configuration group readable bs)) same in
      elim one [ inl e ↦ inl (whole ∙ e) | inr new ↦ inr (subst (IsNew (old + 1) last text) (sym whole) new) ]

  below_one : (a b : Option Offer) → MatchOption a (Unit {0}) (λ x. x.sequence ≤ old) → (b ≡ a) ⊎ IsNew (old + 1) last text b → old ≤ last → MatchOption b (Unit {0}) (λ x. x.sequence ≤ last)
  below_one a None under is le = tt
  below_one a (Some b) under (inl e) le =
      let u : b.sequence ≤ old = subst (λ o. MatchOption o (Unit {0}) (λ z. z.sequence ≤ old)) (sym e) under in omega (arith, u)
  below_one a (Some b) under (inr new) le = new.1

  pub below_all : (hs bs : List DiskSeen) → old ≤ last → AllOf (IsBelow group old) hs → Each (CommitGoes (old + 1) last text) hs bs → AllOf (IsBelow group last) bs
  below_all [] [] le below goes = tt
  below_all [] (b ∷ bs) le below goes = absurd goes
  below_all (a ∷ hs) [] le below goes = absurd goes
  below_all (a ∷ hs) (b ∷ bs) le below goes = (below_one _ _ below.0 (told_goes a.seen.told b.seen.told goes.0.offers) le, below_all hs bs le below.1 goes.1)
