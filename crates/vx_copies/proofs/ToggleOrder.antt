-- The offers of a commit are in order: an attempt's mask names every disk that was good, and only those are written.
use Rattle.std.proofs.Common.{◌≡◌, ◌⊎◌, ℕ, ◌<◌, ◌≤◌, true, List, [], ◌∷◌, Option, Some, None, refl, sym, ap, ◌∙◌, subst, arith, inl, inr}
use Rattle.std.specs.Prelude.{IsTrue, MatchOption}
use Rattle.vx_base.specs.Blocks.{Contents}
use Rattle.vx_base.specs.Named.{Word}
use Rattle.vx_mask.specs.Mask.{has}
use Rattle.vx_copies.specs.Lists.{Each, AllOf}
use Rattle.vx_copies.specs.Image.{Offer, offer_told}
use Rattle.vx_copies.specs.Disks.{DiskSeen, Stays, Stamps, OffersJust, IsBelow}
use Rattle.vx_copies.specs.Chain.{OffersSince, IsInOrder, AreInOrder, GoesOnBeside, IsOrdered}
use Rattle.vx_copies.proofs.InGroup.{in_same, in_just}
use Rattle.vx_copies.proofs.StepLaws.{each_map, each_then, each_from}
use Rattle.vx_copies.proofs.Chains.{told_same, was_good}

-- what holds of all, and of any two
pub all_one : {X : Type 0} (P Q : X → Type 0) → ((a : X) → P a → Q a) → (hs : List X) → AllOf P hs → AllOf Q hs
all_one P Q one [] all = tt
all_one P Q one (a ∷ hs) all = (one a all.0, all_one P Q one hs all.1)

pub all_pair : {X : Type 0} (R S : X → X → Type 0) → ((a b : X) → R a b → S a b) → (hs : List X) → AllOf (λ a. AllOf (R a) hs) hs → AllOf (λ a. AllOf (S a) hs) hs
all_pair R S one hs all = all_one (λ a. AllOf (R a) hs) (λ a. AllOf (S a) hs) (λ a row. all_one (R a) (S a) (one a) hs row) hs all

pub each_all : {X : Type 0} (T : X → X → Type 0) (P Q : X → Type 0) → ((a c : X) → T a c → P a → Q c) → (hs bs : List X) → Each T hs bs → AllOf P hs → AllOf Q bs
each_all T P Q one [] [] is all = tt
each_all T P Q one [] (b ∷ bs) is all = absurd is
each_all T P Q one (a ∷ hs) [] is all = absurd is
each_all T P Q one (a ∷ hs) (b ∷ bs) is all = (one a b is.0 all.0, each_all T P Q one hs bs is.1 all.1)

pub each_pair : {X : Type 0} (T : X → X → Type 0) (R S : X → X → Type 0) → ((a b c d : X) → T a c → T b d → R a b → S c d) → (hs bs : List X) → Each T hs bs → AllOf (λ a. AllOf (R a) hs) hs → AllOf (λ c. AllOf (S c) bs) bs
each_pair T R S one hs bs is all = each_all T (λ a. AllOf (R a) hs) (λ c. AllOf (S c) bs) (λ a c t row. each_all T (R a) (S c) (λ b d u r. one a b c d t u r) hs bs is row) hs bs is all

same_some : (x : Option Offer) (o p : Offer) → x ≡ Some o → x ≡ Some p → o ≡ p
same_some x o p e f = cc

module _ (group : Word) (before : ℕ) where
  pub below_none : (h : DiskSeen) → IsBelow group before h → (o : Offer) → OffersSince group before h o → ⊥
  below_none h is o since =
      let le : o.sequence ≤ before = subst (λ x. MatchOption x (Unit {0}) (λ y. y.sequence ≤ before)) since.is is in
      let lt = since.newer in
      omega (arith, le, lt)

  -- where no offer is newer, all are in order
  pub order_below : (last : ℕ) (hs : List DiskSeen) → AllOf (IsBelow group before) hs → IsOrdered group before last hs
  order_below last hs below = record {
    up_to = all_one (IsBelow group before) _ (λ h is o since. absurd (below_none h is o since)) hs below;
    beside = all_one (IsBelow group before) _ (λ a is. all_one (IsBelow group before) _ (λ b _ o since. absurd (below_none a is o since)) hs below) hs below;
  }

  pub in_order : (last : ℕ) (hs : List DiskSeen) → IsOrdered group before last hs → AreInOrder group before hs
  in_order last hs is = all_pair _ _ (λ a b beside o p f g. (beside o f).order p g) hs is.beside

  pub none_newer : (hs : List DiskSeen) → AllOf (IsBelow group before) hs → AreInOrder group before hs
  none_newer hs below = in_order before hs (order_below before hs below)

module _ (group : Word) (sequence mask : ℕ) (text : List ℕ) where
  -- the disk offers what it did, or it was good and offers this
  abbrev Turned : DiskSeen → DiskSeen → Type 0
  Turned a b = (offer_told group b.seen.told ≡ offer_told group a.seen.told) ⊎ (IsTrue a.good × (offer_told group b.seen.told ≡ Some (record { sequence = sequence; good = mask; text = text })))

  -- what an attempt does to a disk
  pub record Attempted (a b : DiskSeen) : Type 0 where
    pub slot : b.slot ≡ a.slot
    pub was : IsTrue b.good → IsTrue a.good
    pub turned : (offer_told group b.seen.told ≡ offer_told group a.seen.told) ⊎ (IsTrue a.good × (offer_told group b.seen.told ≡ Some (record { sequence = sequence; good = mask; text = text })))

  stay_attempted : (a b : DiskSeen) → Stays a b → Attempted a b
  stay_attempted a b is = record { slot = is.slot; was = was_good a.good b.good a.seen b.seen is.good; turned = inl (told_same group a.seen.told b.seen.told is.told) }

  stamp_turned : (a b : DiskSeen) → Stamps sequence mask text a b → Turned a b
  stamp_turned a b is = by a.seen.told b.seen.told is.offers
    where
      by : (t u : Option Contents) → OffersJust sequence mask text a.good t u → (offer_told group u ≡ offer_told group t) ⊎ (IsTrue a.good × (offer_told group u ≡ Some (record { sequence = sequence; good = mask; text = text })))
      by None None is = inl refl
      by None (Some u) is = absurd is
      by (Some t) None is = absurd is
      by (Some t) (Some u) (header, inl same, rest) = inl (in_same group t u header same.1)
      by (Some t) (Some u) (header, inr just, rest) = elim (in_just group t u (record { sequence = sequence; good = mask; text = text }) header just.1) [ inl same ↦ inl same | inr is ↦ inr (just.0, is) ]

  both_attempted : (a b c : DiskSeen) → Stays a b → Stamps sequence mask text b c → Attempted a c
  both_attempted a b c p q = record {
    slot = q.slot ∙ p.slot;
    was = λ good. was_good a.good b.good a.seen b.seen p.good (was_good b.good c.good b.seen c.seen q.good good);
    turned = elim (stamp_turned b c q) [ inl same ↦ inl (same ∙ told_same group a.seen.told b.seen.told p.told) | inr new ↦ inr (was_good a.good b.good a.seen b.seen p.good new.0, new.1) ];
  }

  pub all_stay : (hs bs : List DiskSeen) → Each Stays hs bs → Each Attempted hs bs
  all_stay hs bs is = each_map Stays Attempted stay_attempted hs bs is

  pub all_attempted : (hs ms bs : List DiskSeen) → Each Stays hs ms → Each (Stamps sequence mask text) ms bs → Each Attempted hs bs
  all_attempted hs ms bs p q = each_then Stays (Stamps sequence mask text) Attempted both_attempted hs ms bs p q

  module _ (before last : ℕ) (later : last < sequence) where
    -- a disk that the mask names where it is good, and whose newer offer is of an attempt so far, goes through an attempt
    record Goes (a b : DiskSeen) : Type 0 where
      pub attempted : Attempted a b
      pub named : IsTrue a.good → has mask a.slot ≡ true
      pub up_to : (o : Offer) → OffersSince group before a o → o.sequence ≤ last

    since : (a c : DiskSeen) (o : Offer) → offer_told group c.seen.told ≡ offer_told group a.seen.told → OffersSince group before c o → OffersSince group before a o
    since a c o same f = record { is = sym same ∙ f.is; newer = f.newer }

    old_or_new : (a c : DiskSeen) (o : Offer) → Goes a c → OffersSince group before c o → OffersSince group before a o ⊎ (IsTrue a.good × (o ≡ record { sequence = sequence; good = mask; text = text }))
    old_or_new a c o go f = elim go.attempted.turned [
      | inl same ↦ inl (since a c o same f)
      | inr new ↦ inr (new.0, same_some (offer_told group c.seen.told) o _ f.is new.1)
    ]

    up_to_one : (a c : DiskSeen) → Goes a c → (o : Offer) → OffersSince group before c o → o.sequence ≤ sequence
    up_to_one a c go o f = elim (old_or_new a c o go f) [
      | inl old ↦ let le = go.up_to o old in omega (arith, le, later)
      | inr new ↦ let same : o.sequence ≡ sequence = ap (λ (x : Offer). x.sequence) new.1 in omega (arith, same)
    ]

    -- an offer that was there, beside one that was or a new one
    old_beside : (b d : DiskSeen) (o : Offer) → Goes b d → o.sequence ≤ last → GoesOnBeside group before o b → GoesOnBeside group before o d
    old_beside b d o go le is = record {
      names = λ good. ap (has o.good) go.attempted.slot ∙ is.names (go.attempted.was good);
      order = λ p g. elim (old_or_new b d p go g) [
        | inl old ↦ subst (IsInOrder o p) (sym go.attempted.slot) (is.order p old)
        | inr new ↦ record { names = λ le. ap (has o.good) go.attempted.slot ∙ is.names new.0; one = λ same. let s : p.sequence ≡ sequence = ap (λ (x : Offer). x.sequence) new.1 in absurd (omega (arith, same, s, le, later)) }
      ];
    }

    -- a new offer
    new_beside : (b d : DiskSeen) (o : Offer) → Goes b d → o ≡ record { sequence = sequence; good = mask; text = text } → GoesOnBeside group before o d
    new_beside b d o go is =
        let s : o.sequence ≡ sequence = ap (λ (x : Offer). x.sequence) is in
        let m : o.good ≡ mask = ap (λ (x : Offer). x.good) is in
        let names : IsTrue b.good → has o.good d.slot ≡ true = λ good. ap (λ k. has k d.slot) m ∙ ap (has mask) go.attempted.slot ∙ go.named good in
        record {
          names = λ good. names (go.attempted.was good);
          order = λ p g. elim (old_or_new b d p go g) [
            | inl old ↦ let low = go.up_to p old in record { names = λ le. absurd (omega (arith, le, s, low, later)); one = λ same. absurd (omega (arith, same, s, low, later)) }
            | inr new ↦ record { names = λ le. names new.0; one = λ same. m ∙ sym (ap (λ (x : Offer). x.good) new.1) }
          ];
        }

    beside_one : (a b c d : DiskSeen) → Goes a c → Goes b d → ((o : Offer) → OffersSince group before a o → GoesOnBeside group before o b) → (o : Offer) → OffersSince group before c o → GoesOnBeside group before o d
    beside_one a b c d go come is o f = elim (old_or_new a c o go f) [
      | inl old ↦ old_beside b d o come (go.up_to o old) (is o old)
      | inr new ↦ new_beside b d o come new.1
    ]

    pub order_on : (hs bs : List DiskSeen) → Each Attempted hs bs → AllOf (λ h. IsTrue h.good → has mask h.slot ≡ true) hs → IsOrdered group before last hs → IsOrdered group before sequence bs
    order_on hs bs attempted named is =
        let go : Each Goes hs bs = each_map _ Goes (λ a b x. record { attempted = x.1.1; named = x.0; up_to = x.1.0 }) hs bs (each_from _ _ hs bs named (each_from _ Attempted hs bs is.up_to attempted)) in
        record {
          up_to = each_all Goes _ _ (λ a c go up. up_to_one a c go) hs bs go is.up_to;
          beside = each_pair Goes _ _ beside_one hs bs go is.beside;
        }
