-- A commit is led by a carrier: of the disks that an attempt turns the first is one.
use Rattle.std.proofs.Common.{◌≡◌, ℕ, zero, suc, ◌<◌, List, [], ◌∷◌, take, Option, Some, None, sym, ◌∙◌, arith, inl, inr}
use Rattle.vx_base.specs.Blocks.{Contents}
use Rattle.vx_base.specs.Named.{Word}
use Rattle.vx_copies.specs.Lists.{Each, AllOf, AnyOf}
use Rattle.vx_copies.specs.Image.{Offer, offer_told}
use Rattle.vx_copies.specs.Disks.{DiskSeen, CommitGoes, Offers, Stays, Stamps, IsBelow, good_count}
use Rattle.vx_copies.specs.Chain.{IsGoodMember, OffersSince, OneOffersSince, IsLed}
use Rattle.vx_copies.specs.Pass.{FirstTurned, TurnsFirst}
use Rattle.vx_copies.proofs.StepLaws.{each_first, each_map}
use Rattle.vx_copies.proofs.Turns.{good_behind}
use Rattle.vx_copies.proofs.Chains.{was_good, told_same, told_kept, HeaderStays, member_stays, just_header, now_in}
use Rattle.vx_copies.proofs.ToggleOrder.{each_all, below_none}

-- what holds of one
pub any_each : {X : Type 0} (T : X → X → Type 0) (P Q : X → Type 0) → ((a c : X) → T a c → P a → Q c) → (hs bs : List X) → Each T hs bs → AnyOf P hs → AnyOf Q bs
any_each T P Q one [] bs is any = absurd any
any_each T P Q one (a ∷ hs) [] is any = absurd is
any_each T P Q one (a ∷ hs) (b ∷ bs) is (inl here) = inl (one a b is.0 here)
any_each T P Q one (a ∷ hs) (b ∷ bs) is (inr there) = inr (any_each T P Q one hs bs is.1 there)

pub any_back : {X : Type 0} (T : X → X → Type 0) (P Q : X → Type 0) → ((a c : X) → T a c → Q c → P a) → (hs bs : List X) → Each T hs bs → AnyOf Q bs → AnyOf P hs
any_back T P Q one hs [] is any = absurd any
any_back T P Q one [] (b ∷ bs) is any = absurd is
any_back T P Q one (a ∷ hs) (b ∷ bs) is (inl here) = inl (one a b is.0 here)
any_back T P Q one (a ∷ hs) (b ∷ bs) is (inr there) = inr (any_back T P Q one hs bs is.1 there)

-- good members stay members
goes_header : (f l : ℕ) (text : List ℕ) (t u : Option Contents) → Offers f l text t u → HeaderStays t u
goes_header f l text None None is = tt
goes_header f l text None (Some u) is = absurd is
goes_header f l text (Some t) None is = absurd is
goes_header f l text (Some t) (Some u) is = is.0

pub members_go : (group : Word) (f l : ℕ) (text : List ℕ) (hs bs : List DiskSeen) → Each (CommitGoes f l text) hs bs → AllOf (IsGoodMember group) hs → AllOf (IsGoodMember group) bs
members_go group f l text hs bs goes members =
    each_all (CommitGoes f l text) (IsGoodMember group) (IsGoodMember group)
    (λ a b go member good. member_stays group a.seen.told b.seen.told (goes_header f l text a.seen.told b.seen.told go.offers) (member (was_good a.good b.good a.seen b.seen go.good good))) hs bs goes members

module _ (group : Word) (before : ℕ) where
  abbrev Since : DiskSeen → Type 0
  Since h = (o : Offer) × OffersSince group before h o

  none_since : (hs : List DiskSeen) → AllOf (IsBelow group before) hs → OneOffersSince group before hs → ⊥
  none_since [] below any = any
  none_since (h ∷ hs) below (inl here) = below_none group before h below.0 here.0 here.1
  none_since (h ∷ hs) below (inr there) = none_since hs below.1 there

  -- where no offer is newer, none is to be led
  pub led_below : (n : ℕ) (hs : List DiskSeen) → AllOf (IsBelow group before) hs → IsLed group before n hs
  led_below n hs below = λ any. absurd (none_since hs below any)

  -- the disk offers what it did
  abbrev Same : DiskSeen → DiskSeen → Type 0
  Same a b = offer_told group b.seen.told ≡ offer_told group a.seen.told

  was_since : (a b : DiskSeen) → Same a b → Since b → Since a
  was_since a b same is = (is.0, record { is = sym same ∙ is.1.is; newer = is.1.newer })

  still_since : (a b : DiskSeen) → Same a b → Since a → Since b
  still_since a b same is = (is.0, record { is = same ∙ is.1.is; newer = is.1.newer })

  led_same : (n : ℕ) (hs bs : List DiskSeen) → Each Same hs bs → IsLed group before n hs → IsLed group before n bs
  led_same n hs bs same led = λ any. any_each Same Since Since still_since (take n hs) (take n bs) (each_first Same n hs bs same) (led (any_back Same Since Since was_since hs bs same any))

  pub led_stays : (n : ℕ) (hs bs : List DiskSeen) → Each Stays hs bs → IsLed group before n hs → IsLed group before n bs
  led_stays n hs bs stays = led_same n hs bs (each_map Stays Same (λ a b is. told_same group a.seen.told b.seen.told is.told) hs bs stays)

  module _ (sequence mask : ℕ) (text : List ℕ) (later : before < sequence) where
    -- the first good disk has turned, and is one of these
    turned_since : (n : ℕ) (hs bs : List DiskSeen) → Each (Stamps sequence mask text) hs bs → FirstTurned sequence mask text hs bs → 0 < good_count (take n hs) → AllOf (IsGoodMember group) (take n hs) → OneOffersSince group before (take n bs)
    turned_since n [] bs stamps first some members = absurd first
    turned_since n (a ∷ hs) [] stamps first some members = absurd first
    turned_since zero (a ∷ hs) (b ∷ bs) stamps first some members = absurd (omega (arith, some))
    turned_since (suc n) (a ∷ hs) (b ∷ bs) stamps (inl is) some members =
        let member = member_stays group a.seen.told b.seen.told (just_header sequence mask text a.good a.seen.told b.seen.told stamps.0.offers) (members.0 is.0) in
        inl (record { sequence = sequence; good = mask; text = text }, record { is = now_in group sequence mask text b.seen.told member is.1; newer = later })
    turned_since (suc n) (a ∷ hs) (b ∷ bs) stamps (inr is) some members = inr (turned_since n hs bs stamps.1 is.1 (good_behind a.good (good_count (take n hs)) is.0 some) members.1)

    pub led_stamps : (n : ℕ) (hs bs : List DiskSeen) → Each (Stamps sequence mask text) hs bs → TurnsFirst sequence mask text hs bs → 0 < good_count (take n hs) → AllOf (IsGoodMember group) (take n hs) → IsLed group before n hs → IsLed group before n bs
    led_stamps n hs bs stamps (inl first) some members led = λ any. turned_since n hs bs stamps first some members
    led_stamps n hs bs stamps (inr keeps) some members led = led_same n hs bs (each_map _ Same (λ a b. told_kept group a.seen.told b.seen.told) hs bs keeps) led
