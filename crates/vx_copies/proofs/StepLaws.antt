-- What a commit does to a disk, one step after another.
use Rattle.std.proofs.Common.{◌≡◌, ℕ, zero, suc, ◌+◌, ◌<◌, ◌≤◌, Bool, true, false, List, [], ◌∷◌, take, Option, Some, None, refl, sym, ap, ◌∙◌, subst, arith, inl, inr}
use Rattle.std.specs.Prelude.{IsTrue, MatchOption}
use Rattle.vx_base.specs.Blocks.{Contents}
use Rattle.vx_base.specs.Counts.{Rose}
use Rattle.vx_piece.specs.Seen.{Seen, Keeps}
use Rattle.vx_copies.specs.Lists.{Each, AllOf}
use Rattle.vx_header.specs.Said.{Said, toggle_of}
use Rattle.vx_copies.specs.Image.{Offer, half_start, toggle_at, offer_of}
use Rattle.vx_copies.specs.Disks.{DiskSeen, CommitGoes, Stays, Stamps, Drops, Offers, OffersJust, StaysTold, IsNew, KeepsNamed, SameOffer, RestStays}
use Rattle.vx_copies.specs.Commit.{HasRisen}

pub keeps_trans : (a b c : Seen) → Keeps a b → Keeps b c → Keeps a c
keeps_trans a b c p q = record {
  device = q.device ∙ p.device;
  start = q.start ∙ p.start;
  sectors = q.sectors ∙ p.sectors;
  stop = q.stop ∙ p.stop;
  faults = omega (arith, p.faults, q.faults);
  cut = λ is. q.cut (p.cut is);
}

pub keeps_refl : (a : Seen) → Keeps a a
keeps_refl a = record { device = refl; start = refl; sectors = refl; stop = refl; faults = omega arith; cut = λ is. is }

pub drops_trans : (x y z : Bool) (a b c : Seen) → Keeps a b → Keeps b c → Drops x y a b → Drops y z b c → Drops x z a c
drops_trans true true true a b c p q d e = refl
drops_trans true true false a b c p q d e = let f = p.faults in omega (arith, e, f)
drops_trans true false true a b c p q d e = cc
drops_trans true false false a b c p q d e = let f = q.faults in omega (arith, d, f)
drops_trans false true z a b c p q d e = cc
drops_trans false false true a b c p q d e = cc
drops_trans false false false a b c p q d e = tt

pub drops_refl : (x : Bool) (a : Seen) → Drops x x a a
drops_refl true a = refl
drops_refl false a = tt

-- an offer that stays, and what is behind the halves
abbrev HalfStays : ℕ → Contents → Contents → Type 0
HalfStays half a b = (k : ℕ) → half_start half ≤ k → k < half_start half + 1020 → b k ≡ a k

named_refl : (a : Contents) → KeepsNamed a a
named_refl a = by (toggle_at a)
  where
    by : (o : Option Said) → MatchOption o (Unit {0}) (λ t. HalfStays t.half a a)
    by None = tt
    by (Some t) = λ k le lt. refl

pub same_toggle : (a b : Contents) → b 1 ≡ a 1 → toggle_at b ≡ toggle_at a
unfolding toggle_at
same_toggle a b e = ap toggle_of e

named_trans : (a b c : Contents) → b 1 ≡ a 1 → KeepsNamed a b → KeepsNamed b c → KeepsNamed a c
named_trans a b c e p q = by (toggle_at a) p (subst (λ o. MatchOption o (Unit {0}) (λ t. HalfStays t.half b c)) (same_toggle a b e) q)
  where
    by : (o : Option Said) → MatchOption o (Unit {0}) (λ t. HalfStays t.half a b) → MatchOption o (Unit {0}) (λ t. HalfStays t.half b c) → MatchOption o (Unit {0}) (λ t. HalfStays t.half a c)
    by None f g = tt
    by (Some t) f g = λ k le lt. g k le lt ∙ f k le lt

pub same_offer_refl : (a : Contents) → SameOffer a a
same_offer_refl a = (refl, refl, named_refl a)

same_offer_trans : (a b c : Contents) → SameOffer a b → SameOffer b c → SameOffer a c
same_offer_trans a b c p q = (q.0 ∙ p.0, q.1 ∙ p.1, named_trans a b c p.0 p.2 q.2)

pub rest_refl : (a : Contents) → RestStays a a
rest_refl a = λ k le. refl

pub rest_trans : (a b c : Contents) → RestStays a b → RestStays b c → RestStays a c
rest_trans a b c p q = λ k le. q k le ∙ p k le

-- a disk that is not good is let alone
idle_trans : (x y : Bool) (a b c : Seen) → Drops x y a b → (x ≡ false → b ≡ a) → (y ≡ false → c ≡ b) → x ≡ false → c ≡ a
idle_trans true y a b c d p q e = cc
idle_trans false true a b c d p q e = cc
idle_trans false false a b c d p q e = q refl ∙ p refl

new_wider : (f f' l l' : ℕ) (text : List ℕ) (o : Option Offer) → f' ≤ f → l ≤ l' → IsNew f l text o → IsNew f' l' text o
new_wider f f' l l' text None p q is = absurd is
new_wider f f' l l' text (Some o) p q is = (omega (arith, is.0), omega (arith, is.1), is.2)

offers_wider : (f f' l l' : ℕ) (text : List ℕ) (a b : Option Contents) → f' ≤ f → l ≤ l' → Offers f l text a b → Offers f' l' text a b
offers_wider f f' l l' text None None p q is = tt
offers_wider f f' l l' text None (Some b) p q is = absurd is
offers_wider f f' l l' text (Some a) None p q is = absurd is
offers_wider f f' l l' text (Some a) (Some b) p q (header, inl same, rest) = (header, inl same, rest)
offers_wider f f' l l' text (Some a) (Some b) p q (header, inr new, rest) = (header, inr (new_wider f f' l l' text _ p q new), rest)

offers_trans : (f l : ℕ) (text : List ℕ) (a b c : Option Contents) → Offers f l text a b → Offers f l text b c → Offers f l text a c
offers_trans f l text None None None p q = tt
offers_trans f l text None None (Some c) p q = absurd q
offers_trans f l text None (Some b) c p q = absurd p
offers_trans f l text (Some a) None c p q = absurd p
offers_trans f l text (Some a) (Some b) None p q = absurd q
offers_trans f l text (Some a) (Some b) (Some c) (h, p, r) (k, inr new, t) = (k ∙ h, inr new, rest_trans a b c r t)
offers_trans f l text (Some a) (Some b) (Some c) (h, inl same, r) (k, inl e, t) = (k ∙ h, inl (same_offer_trans a b c same e), rest_trans a b c r t)
offers_trans f l text (Some a) (Some b) (Some c) (h, inr new, r) (k, inl e, t) = (k ∙ h, inr (subst (IsNew f l text) (sym e.1) new), rest_trans a b c r t)

offers_refl : (f l : ℕ) (text : List ℕ) (a : Option Contents) → Offers f l text a a
offers_refl f l text None = tt
offers_refl f l text (Some a) = (refl, inl (same_offer_refl a), rest_refl a)

stays_offers : (f l : ℕ) (text : List ℕ) (a b : Option Contents) → StaysTold a b → Offers f l text a b
stays_offers f l text None None is = tt
stays_offers f l text None (Some b) is = absurd is
stays_offers f l text (Some a) None is = absurd is
stays_offers f l text (Some a) (Some b) is = (is.0, inl is.1, is.2)

pub goes_trans : (f l : ℕ) (text : List ℕ) (a b c : DiskSeen) → CommitGoes f l text a b → CommitGoes f l text b c → CommitGoes f l text a c
goes_trans f l text a b c p q = record {
  slot = q.slot ∙ p.slot;
  name = q.name ∙ p.name;
  device = q.device ∙ p.device;
  size = q.size ∙ p.size;
  kept = keeps_trans _ _ _ p.kept q.kept;
  good = drops_trans a.good b.good c.good a.seen b.seen c.seen p.kept q.kept p.good q.good;
  offers = offers_trans f l text _ _ _ p.offers q.offers;
  idle = idle_trans a.good b.good a.seen b.seen c.seen p.good p.idle q.idle;
}

pub goes_wider : (f f' l l' : ℕ) (text : List ℕ) (a b : DiskSeen) → f' ≤ f → l ≤ l' → CommitGoes f l text a b → CommitGoes f' l' text a b
goes_wider f f' l l' text a b p q is = record { slot = is.slot; name = is.name; device = is.device; size = is.size; kept = is.kept; good = is.good; offers = offers_wider f f' l l' text _ _ p q is.offers; idle = is.idle }

pub stays_goes : (f l : ℕ) (text : List ℕ) (a b : DiskSeen) → Stays a b → CommitGoes f l text a b
stays_goes f l text a b is = record { slot = is.slot; name = is.name; device = is.device; size = is.size; kept = is.kept; good = is.good; offers = stays_offers f l text _ _ is.told; idle = is.idle }

goes_refl : (f l : ℕ) (text : List ℕ) (a : DiskSeen) → CommitGoes f l text a a
goes_refl f l text a = record { slot = refl; name = refl; device = refl; size = refl; kept = keeps_refl a.seen; good = drops_refl a.good a.seen; offers = offers_refl f l text a.seen.told; idle = λ e. refl }

-- a disk that stays
told_trans : (a b c : Option Contents) → StaysTold a b → StaysTold b c → StaysTold a c
told_trans None None None p q = tt
told_trans None None (Some c) p q = absurd q
told_trans None (Some b) c p q = absurd p
told_trans (Some a) None c p q = absurd p
told_trans (Some a) (Some b) None p q = absurd q
told_trans (Some a) (Some b) (Some c) p q = (q.0 ∙ p.0, same_offer_trans a b c p.1 q.1, rest_trans a b c p.2 q.2)

told_refl : (a : Option Contents) → StaysTold a a
told_refl None = tt
told_refl (Some a) = (refl, same_offer_refl a, rest_refl a)

pub stays_trans : (a b c : DiskSeen) → Stays a b → Stays b c → Stays a c
stays_trans a b c p q = record {
  slot = q.slot ∙ p.slot;
  name = q.name ∙ p.name;
  device = q.device ∙ p.device;
  size = q.size ∙ p.size;
  half = q.half ∙ p.half;
  kept = keeps_trans _ _ _ p.kept q.kept;
  good = drops_trans a.good b.good c.good a.seen b.seen c.seen p.kept q.kept p.good q.good;
  told = told_trans _ _ _ p.told q.told;
  idle = idle_trans a.good b.good a.seen b.seen c.seen p.good p.idle q.idle;
}

pub stays_refl : (a : DiskSeen) → Stays a a
stays_refl a = record { slot = refl; name = refl; device = refl; size = refl; half = refl; kept = keeps_refl a.seen; good = drops_refl a.good a.seen; told = told_refl a.seen.told; idle = λ e. refl }

-- a disk that may get a toggle
was_good : (x y : Bool) (a b : Seen) → Drops x y a b → IsTrue y → IsTrue x
was_good x true a b d is = d
was_good x false a b d is = cc

just_trans : (s m : ℕ) (text : List ℕ) (x y : Bool) (a b c : Option Contents) → (IsTrue y → IsTrue x) → OffersJust s m text x a b → OffersJust s m text y b c → OffersJust s m text x a c
just_trans s m text x y None None None was p q = tt
just_trans s m text x y None None (Some c) was p q = absurd q
just_trans s m text x y None (Some b) c was p q = absurd p
just_trans s m text x y (Some a) None c was p q = absurd p
just_trans s m text x y (Some a) (Some b) None was p q = absurd q
just_trans s m text x y (Some a) (Some b) (Some c) was (h, p, r) (k, inr just, t) = (k ∙ h, inr (was just.0, just.1), rest_trans a b c r t)
just_trans s m text x y (Some a) (Some b) (Some c) was (h, inl same, r) (k, inl e, t) = (k ∙ h, inl (same_offer_trans a b c same e), rest_trans a b c r t)
just_trans s m text x y (Some a) (Some b) (Some c) was (h, inr just, r) (k, inl e, t) = (k ∙ h, inr (just.0, e.1 ∙ just.1), rest_trans a b c r t)

just_refl : (s m : ℕ) (text : List ℕ) (x : Bool) (a : Option Contents) → OffersJust s m text x a a
just_refl s m text x None = tt
just_refl s m text x (Some a) = (refl, inl (same_offer_refl a), rest_refl a)

just_is_new : (s m : ℕ) (text : List ℕ) (o : Option Offer) → o ≡ Some (record { sequence = s; good = m; text = text }) → IsNew s s text o
just_is_new s m text o e = subst (IsNew s s text) (sym e) (omega arith, omega arith, refl)

just_offers : (s m : ℕ) (text : List ℕ) (x : Bool) (a b : Option Contents) → OffersJust s m text x a b → Offers s s text a b
just_offers s m text x None None is = tt
just_offers s m text x None (Some b) is = absurd is
just_offers s m text x (Some a) None is = absurd is
just_offers s m text x (Some a) (Some b) (h, inl same, r) = (h, inl same, r)
just_offers s m text x (Some a) (Some b) (h, inr just, r) = (h, inr (just_is_new s m text (offer_of b) just.1), r)

-- a disk that was good
pub if_good : (s m : ℕ) (text : List ℕ) (x : Bool) (a b : Option Contents) → IsTrue x → OffersJust s m text true a b → OffersJust s m text x a b
if_good s m text true a b is just = just
if_good s m text false a b is just = cc

pub stamps_trans : (s m : ℕ) (text : List ℕ) (a b c : DiskSeen) → Stamps s m text a b → Stamps s m text b c → Stamps s m text a c
stamps_trans s m text a b c p q = record {
  slot = q.slot ∙ p.slot;
  name = q.name ∙ p.name;
  device = q.device ∙ p.device;
  size = q.size ∙ p.size;
  kept = keeps_trans _ _ _ p.kept q.kept;
  good = drops_trans a.good b.good c.good a.seen b.seen c.seen p.kept q.kept p.good q.good;
  offers = just_trans s m text a.good b.good _ _ _ (was_good a.good b.good a.seen b.seen p.good) p.offers q.offers;
  idle = idle_trans a.good b.good a.seen b.seen c.seen p.good p.idle q.idle;
}

pub stamps_refl : (s m : ℕ) (text : List ℕ) (a : DiskSeen) → Stamps s m text a a
stamps_refl s m text a = record { slot = refl; name = refl; device = refl; size = refl; kept = keeps_refl a.seen; good = drops_refl a.good a.seen; offers = just_refl s m text a.good a.seen.told; idle = λ e. refl }

pub stamps_goes : (s m : ℕ) (text : List ℕ) (a b : DiskSeen) → Stamps s m text a b → CommitGoes s s text a b
stamps_goes s m text a b is = record { slot = is.slot; name = is.name; device = is.device; size = is.size; kept = is.kept; good = is.good; offers = just_offers s m text a.good _ _ is.offers; idle = is.idle }

-- a disk that stays good, or not good
pub same_refl : (a : DiskSeen) → a.good ≡ a.good
same_refl a = refl

pub same_trans : (a b c : DiskSeen) → b.good ≡ a.good → c.good ≡ b.good → c.good ≡ a.good
same_trans a b c p q = q ∙ p

-- what holds disk by disk holds of all
pub each_refl : {X : Type 0} (R : X → X → Type 0) → ((a : X) → R a a) → (hs : List X) → Each R hs hs
each_refl R one [] = tt
each_refl R one (h ∷ hs) = (one h, each_refl R one hs)

pub each_then : {X : Type 0} (R S T : X → X → Type 0) → ((a b c : X) → R a b → S b c → T a c) → (hs bs cs : List X) → Each R hs bs → Each S bs cs → Each T hs cs
each_then R S T one [] [] [] p q = tt
each_then R S T one [] [] (c ∷ cs) p q = absurd q
each_then R S T one [] (b ∷ bs) cs p q = absurd p
each_then R S T one (a ∷ hs) [] cs p q = absurd p
each_then R S T one (a ∷ hs) (b ∷ bs) [] p q = absurd q
each_then R S T one (a ∷ hs) (b ∷ bs) (c ∷ cs) p q = (one a b c p.0 q.0, each_then R S T one hs bs cs p.1 q.1)

pub each_trans : {X : Type 0} (R : X → X → Type 0) → ((a b c : X) → R a b → R b c → R a c) → (hs bs cs : List X) → Each R hs bs → Each R bs cs → Each R hs cs
each_trans R one hs bs cs p q = each_then R R R one hs bs cs p q

-- two of them together, and with what holds of the first
pub each_both : {X : Type 0} (R S : X → X → Type 0) → (hs bs : List X) → Each R hs bs → Each S hs bs → Each (λ a b. R a b × S a b) hs bs
each_both R S [] [] p q = tt
each_both R S [] (b ∷ bs) p q = absurd p
each_both R S (a ∷ hs) [] p q = absurd p
each_both R S (a ∷ hs) (b ∷ bs) p q = ((p.0, q.0), each_both R S hs bs p.1 q.1)

pub each_from : {X : Type 0} (Q : X → Type 0) (R : X → X → Type 0) → (hs bs : List X) → AllOf Q hs → Each R hs bs → Each (λ a b. Q a × R a b) hs bs
each_from Q R [] [] q p = tt
each_from Q R [] (b ∷ bs) q p = absurd p
each_from Q R (a ∷ hs) [] q p = absurd p
each_from Q R (a ∷ hs) (b ∷ bs) q p = ((q.0, p.0), each_from Q R hs bs q.1 p.1)

pub each_map : {X : Type 0} (R S : X → X → Type 0) → ((a b : X) → R a b → S a b) → (hs bs : List X) → Each R hs bs → Each S hs bs
each_map R S one [] [] is = tt
each_map R S one [] (b ∷ bs) is = absurd is
each_map R S one (a ∷ hs) [] is = absurd is
each_map R S one (a ∷ hs) (b ∷ bs) is = (one a b is.0, each_map R S one hs bs is.1)

pub all_trans : (f l : ℕ) (text : List ℕ) (hs bs cs : List DiskSeen) → Each (CommitGoes f l text) hs bs → Each (CommitGoes f l text) bs cs → Each (CommitGoes f l text) hs cs
all_trans f l text hs bs cs p q = each_trans (CommitGoes f l text) (goes_trans f l text) hs bs cs p q

pub all_wider : (f f' l l' : ℕ) (text : List ℕ) (hs bs : List DiskSeen) → f' ≤ f → l ≤ l' → Each (CommitGoes f l text) hs bs → Each (CommitGoes f' l' text) hs bs
all_wider f f' l l' text hs bs p q is = each_map (CommitGoes f l text) (CommitGoes f' l' text) (λ a b. goes_wider f f' l l' text a b p q) hs bs is

pub all_refl : (f l : ℕ) (text : List ℕ) (hs : List DiskSeen) → Each (CommitGoes f l text) hs hs
all_refl f l text hs = each_refl (CommitGoes f l text) (goes_refl f l text) hs

-- where no disk is good any more, the count of each that was has risen
risen_one : (x y : Bool) (a b : Seen) → Drops x y a b → y ≡ false → IsTrue x → Rose a.faults b.faults
risen_one true true a b d e is = cc
risen_one true false a b d e is = d
risen_one false y a b d e is = cc

-- the same of the first ones
pub each_first : {X : Type 0} (R : X → X → Type 0) (n : ℕ) (hs bs : List X) → Each R hs bs → Each R (take n hs) (take n bs)
each_first R zero hs bs is = tt
each_first R (suc n) [] [] is = tt
each_first R (suc n) [] (b ∷ bs) is = absurd is
each_first R (suc n) (a ∷ hs) [] is = absurd is
each_first R (suc n) (a ∷ hs) (b ∷ bs) is = (is.0, each_first R n hs bs is.1)

pub all_risen : (f l : ℕ) (text : List ℕ) (hs bs : List DiskSeen) → Each (CommitGoes f l text) hs bs → AllOf (λ h. h.good ≡ false) bs → Each HasRisen hs bs
all_risen f l text [] [] is none = tt
all_risen f l text [] (b ∷ bs) is none = absurd is
all_risen f l text (a ∷ hs) [] is none = absurd is
all_risen f l text (a ∷ hs) (b ∷ bs) is none = (risen_one a.good b.good a.seen b.seen is.0.good none.0, all_risen f l text hs bs is.1 none.1)

-- a disk's slot stays
pub slots_stay : (f l : ℕ) (text : List ℕ) (hs bs : List DiskSeen) → Each (CommitGoes f l text) hs bs → Each (λ a b. b.slot ≡ a.slot) hs bs
slots_stay f l text hs bs is = each_map (CommitGoes f l text) (λ a b. b.slot ≡ a.slot) (λ a b goes. goes.slot) hs bs is

pub stays_all : (f l : ℕ) (text : List ℕ) (hs bs : List DiskSeen) → Each Stays hs bs → Each (CommitGoes f l text) hs bs
stays_all f l text hs bs is = each_map Stays (CommitGoes f l text) (stays_goes f l text) hs bs is

pub stamps_all : (s m : ℕ) (text : List ℕ) (hs bs : List DiskSeen) → Each (Stamps s m text) hs bs → Each (CommitGoes s s text) hs bs
stamps_all s m text hs bs is = each_map (Stamps s m text) (CommitGoes s s text) (stamps_goes s m text) hs bs is
