-- The chain of a group's copies, where a pass writes toggles that name every disk that was good.
use Rattle.std.proofs.Common.{◌≡◌, ◌⊎◌, ℕ, zero, suc, ◌<◌, ◌≤◌, Bool, true, false, List, [], ◌∷◌, ◌++◌, map, take, Option, Some, None, refl, sym, ap, ◌∙◌, subst, arith, inl, inr}
use Rattle.std.specs.Prelude.{IsTrue, MatchOption}
use Rattle.vx_base.specs.Blocks.{Contents}
use Rattle.vx_base.specs.Named.{Word}
use Rattle.vx_mask.specs.Mask.{has}
use Rattle.vx_piece.specs.Seen.{Seen}
use Rattle.vx_copies.specs.Lists.{Each, AllOf, AnyOf}
use Rattle.vx_copies.specs.Image.{Offer, offer_told, names_group}
use Rattle.vx_copies.specs.Disks.{DiskSeen, Drops, Stays, StaysTold, Stamps, OffersJust, IsMember, good_count}
use Rattle.vx_copies.specs.Pass.{NowOffers, FirstTurned, KeepsOffer, TurnsFirst}
use Rattle.vx_copies.proofs.InGroup.{in_same, in_just, in_member}
use Rattle.vx_copies.proofs.Turns.{good_behind}
use Rattle.vx_header.specs.Named.{header_of}
use Rattle.vx_copies.specs.Chain.{IsGoodMember, Copy, copy_of, AllUpTo, NamesNewer, NamesMissing, IsChained, AgreeIn, AllAgree, NamesGood, IsSound}

abbrev IfOffer : (Offer → Type 0) → Copy → Type 0
IfOffer Q c = MatchOption c.offer (Unit {0}) Q

-- where a copy is one of the newest, it names the slot
abbrev NewestNames : List Copy → ℕ → Copy → Type 0
NewestNames copies x c = IfOffer (λ o. AllUpTo o.sequence copies → has o.good x ≡ true) c

abbrev Linked : ℕ → List Copy → Copy → Type 0
Linked missing copies c = IfOffer (λ o. AllUpTo o.sequence copies ⊎ (NamesNewer o copies ⊎ NamesMissing missing o)) c

if_offer : (Q : Offer → Type 0) (c : Copy) (o : Offer) → c.offer ≡ Some o → MatchOption c.offer (Unit {0}) Q → Q o
if_offer Q c o e is = subst (λ x. MatchOption x (Unit {0}) Q) e is

same_copy : (c d : Copy) → d.slot ≡ c.slot → d.offer ≡ c.offer → d ≡ c
same_copy c d p q = λ i. record { slot = p i; offer = q i }

all_map : {X : Type 0} (Q R : X → Type 0) → ((x : X) → Q x → R x) → (xs : List X) → AllOf Q xs → AllOf R xs
all_map Q R f [] all = tt
all_map Q R f (x ∷ xs) all = (f x all.0, all_map Q R f xs all.1)

module _ (old : List Copy) (last sequence mask : ℕ) (text : List ℕ) (later : last < sequence) where
  the_new : Offer
  the_new = record { sequence = sequence; good = mask; text = text }

  -- a copy is the old one, or the new one
  abbrev Turned : Copy → Copy → Type 0
  Turned c d = (d.slot ≡ c.slot) × ((d.offer ≡ c.offer) ⊎ (d.offer ≡ Some (record { sequence = sequence; good = mask; text = text })))

  -- the new copies go up to the new sequence
  up_to_one : (c d : Copy) → Turned c d → IfOffer (λ o. o.sequence ≤ last) c → IfOffer (λ o. o.sequence ≤ sequence) d
  up_to_one c d (slot, inl same) up = subst (λ x. MatchOption x (Unit {0}) (λ o. o.sequence ≤ sequence)) (sym same) (weaker c.offer up)
    where
      weaker : (x : Option Offer) → MatchOption x (Unit {0}) (λ o. o.sequence ≤ last) → MatchOption x (Unit {0}) (λ o. o.sequence ≤ sequence)
      weaker None is = tt
      weaker (Some o) is = let le : o.sequence ≤ sequence = omega (arith, is, later) in le
  up_to_one c d (slot, inr new) up = subst (λ x. MatchOption x (Unit {0}) (λ o. o.sequence ≤ sequence)) (sym new) (let le : sequence ≤ sequence = omega arith in le)

  pub up_to_all : (cs ds : List Copy) → Each Turned cs ds → AllUpTo last cs → AllUpTo sequence ds
  up_to_all [] [] is up = tt
  up_to_all [] (d ∷ ds) is up = absurd is
  up_to_all (c ∷ cs) [] is up = absurd is
  up_to_all (c ∷ cs) (d ∷ ds) is up = (up_to_one c d is.0 up.0, up_to_all cs ds is.1 up.1)

  -- a new copy among them
  pub record IsTurned (d : Copy) : Type 0 where
    pub offer : d.offer ≡ Some (record { sequence = sequence; good = mask; text = text })
    pub named : AllOf (NewestNames old d.slot) old

  -- what named a newer copy still does
  newer_stays : (o : Offer) → o.sequence ≤ last → (cs ds : List Copy) → Each Turned cs ds → NamesNewer o cs → NamesNewer o ds
  newer_stays o le [] ds is newer = absurd newer
  newer_stays o le (c ∷ cs) [] is newer = absurd is
  newer_stays o le (c ∷ cs) (d ∷ ds) is (inr newer) = inr (newer_stays o le cs ds is.1 newer)
  newer_stays o le (c ∷ cs) (d ∷ ds) is (inl newer) = inl (ap (has o.good) is.0.0 ∙ newer.0, above is.0.1)
    where
      above : ((d.offer ≡ c.offer) ⊎ (d.offer ≡ Some (record { sequence = sequence; good = mask; text = text }))) → MatchOption d.offer ⊥ (λ p. o.sequence < p.sequence)
      above (inl same) = subst (λ x. MatchOption x ⊥ (λ p. o.sequence < p.sequence)) (sym same) newer.1
      above (inr new) = subst (λ x. MatchOption x ⊥ (λ p. o.sequence < p.sequence)) (sym new) (let lt : o.sequence < sequence = omega (arith, le, later) in lt)

  -- one of the newest old ones names a new copy
  names_turned : (o : Offer) (c : Copy) → c.offer ≡ Some o → o.sequence ≤ last → AllUpTo o.sequence old → ((x : ℕ) → AllOf (NewestNames old x) old → NewestNames old x c) → (ds : List Copy) → AnyOf IsTurned ds → NamesNewer o ds
  names_turned o c e le top at [] any = absurd any
  names_turned o c e le top at (d ∷ ds) (inr any) = inr (names_turned o c e le top at ds any)
  names_turned o c e le top at (d ∷ ds) (inl new) = inl (if_offer (λ o. AllUpTo o.sequence old → has o.good d.slot ≡ true) c o e (at d.slot new.named) top, subst (λ x. MatchOption x ⊥ (λ p. o.sequence < p.sequence)) (sym new.offer) (let lt : o.sequence < sequence = omega (arith, le, later) in lt))

  -- what agreed still does, and new ones agree
  low_not_new : (o : Option Offer) → MatchOption o (Unit {0}) (λ p. p.sequence ≤ last) → AgreeIn o (Some (record { sequence = sequence; good = mask; text = text }))
  low_not_new None low = tt
  low_not_new (Some p) low = λ same. absurd (omega (arith, low, later, same))

  new_not_low : (o : Option Offer) → MatchOption o (Unit {0}) (λ p. p.sequence ≤ last) → AgreeIn (Some (record { sequence = sequence; good = mask; text = text })) o
  new_not_low None low = tt
  new_not_low (Some p) low = λ same. absurd (omega (arith, low, later, same))

  agree_by : (a b a' b' : Option Offer) → a' ≡ a → b' ≡ b → AgreeIn a b → AgreeIn a' b'
  agree_by a b a' b' e f is = subst (λ x. AgreeIn x b') (sym e) (subst (AgreeIn a) (sym f) is)

  agree_one : (c d e f : Copy) → Turned c e → Turned d f → IfOffer (λ o. o.sequence ≤ last) c → IfOffer (λ o. o.sequence ≤ last) d → AgreeIn c.offer d.offer → AgreeIn e.offer f.offer
  agree_one c d e f (p, inl same) (q, inl still) low under is = agree_by c.offer d.offer e.offer f.offer same still is
  agree_one c d e f (p, inl same) (q, inr new) low under is = agree_by c.offer (Some (record { sequence = sequence; good = mask; text = text })) e.offer f.offer same new (low_not_new c.offer low)
  agree_one c d e f (p, inr new) (q, inl still) low under is = agree_by (Some (record { sequence = sequence; good = mask; text = text })) d.offer e.offer f.offer new still (new_not_low d.offer under)
  agree_one c d e f (p, inr new) (q, inr also) low under is = agree_by (Some (record { sequence = sequence; good = mask; text = text })) (Some (record { sequence = sequence; good = mask; text = text })) e.offer f.offer new also (λ same. (refl, refl))

  agree_row : (c e : Copy) → Turned c e → IfOffer (λ o. o.sequence ≤ last) c → (ds fs : List Copy) → Each Turned ds fs → AllUpTo last ds → AllOf (λ d. AgreeIn c.offer d.offer) ds → AllOf (λ f. AgreeIn e.offer f.offer) fs
  agree_row c e turned low [] [] is under all = tt
  agree_row c e turned low [] (f ∷ fs) is under all = absurd is
  agree_row c e turned low (d ∷ ds) [] is under all = absurd is
  agree_row c e turned low (d ∷ ds) (f ∷ fs) is under all = (agree_one c d e f turned is.0 low under.0 all.0, agree_row c e turned low ds fs is.1 under.1 all.1)

  module _ (new : List Copy) (turned : Each Turned old new) (low : AllUpTo last old) where
    agree_all : (cs es : List Copy) → Each Turned cs es → AllUpTo last cs → AllOf (λ c. AllOf (λ d. AgreeIn c.offer d.offer) old) cs → AllOf (λ e. AllOf (λ f. AgreeIn e.offer f.offer) new) es
    agree_all [] [] is under all = tt
    agree_all [] (e ∷ es) is under all = absurd is
    agree_all (c ∷ cs) [] is under all = absurd is
    agree_all (c ∷ cs) (e ∷ es) is under all = (agree_row c e is.0 under.0 old new turned low all.0, agree_all cs es is.1 under.1 all.1)

    pub agree_after : AllAgree old → AllAgree new
    agree_after all = agree_all old new turned low all

  module _ (new : List Copy) (turned : Each Turned old new) (any : AnyOf IsTurned new) (up : AllUpTo sequence new) where
    linked_one : (missing : ℕ) (c d : Copy) → Turned c d → ((x : ℕ) → AllOf (NewestNames old x) old → NewestNames old x c) → IfOffer (λ o. o.sequence ≤ last) c → Linked missing old c → Linked missing new d
    linked_one missing c d (slot, inr is) at low link = subst (λ x. MatchOption x (Unit {0}) (λ o. AllUpTo o.sequence new ⊎ (NamesNewer o new ⊎ NamesMissing missing o))) (sym is) (inl up)
    linked_one missing c d (slot, inl same) at low link = subst (λ x. MatchOption x (Unit {0}) (λ o. AllUpTo o.sequence new ⊎ (NamesNewer o new ⊎ NamesMissing missing o))) (sym same) (by c.offer refl low link)
      where
        by : (x : Option Offer) → c.offer ≡ x → MatchOption x (Unit {0}) (λ o. o.sequence ≤ last) → MatchOption x (Unit {0}) (λ o. AllUpTo o.sequence old ⊎ (NamesNewer o old ⊎ NamesMissing missing o)) → MatchOption x (Unit {0}) (λ o. AllUpTo o.sequence new ⊎ (NamesNewer o new ⊎ NamesMissing missing o))
        by None e low link = tt
        by (Some o) e low (inl top) = inr (inl (names_turned o c e low top at new any))
        by (Some o) e low (inr (inl newer)) = inr (inl (newer_stays o low old new turned newer))
        by (Some o) e low (inr (inr gone)) = inr (inr gone)

    -- the copies from some place on
    linked_all : (missing : ℕ) (cs ds : List Copy) → Each Turned cs ds → ((x : ℕ) → AllOf (NewestNames old x) old → AllOf (NewestNames old x) cs) → AllUpTo last cs → AllOf (Linked missing old) cs → AllOf (Linked missing new) ds
    linked_all missing [] [] is at low links = tt
    linked_all missing [] (d ∷ ds) is at low links = absurd is
    linked_all missing (c ∷ cs) [] is at low links = absurd is
    linked_all missing (c ∷ cs) (d ∷ ds) is at low links = (linked_one missing c d is.0 (λ x all. (at x all).0) low.0 links.0, linked_all missing cs ds is.1 (λ x all. (at x all).1) low.1 links.1)

    pub chained_after : (missing : ℕ) → IsChained missing old → AllUpTo last old → IsChained missing new
    chained_after missing chained low = linked_all missing old new turned (λ x all. all) low chained

    -- what is newest now is new
    not_low : (o : Offer) → o.sequence ≤ last → (ds : List Copy) → AnyOf IsTurned ds → AllUpTo o.sequence ds → ⊥
    not_low o low [] any top = any
    not_low o low (d ∷ ds) (inr any) top = not_low o low ds any top.1
    not_low o low (d ∷ ds) (inl new) top = let le : sequence ≤ o.sequence = if_offer (λ p. p.sequence ≤ o.sequence) d (record { sequence = sequence; good = mask; text = text }) new.offer top.0 in omega (arith, le, low, later)

    newest_one : (bs : List DiskSeen) → AllOf (λ h. IsTrue h.good → has mask h.slot ≡ true) bs → (c d : Copy) → Turned c d → IfOffer (λ o. o.sequence ≤ last) c → IfOffer (λ o. AllUpTo o.sequence new → NamesGood o bs) d
    newest_one bs names c d (slot, inr is) low = subst (λ x. MatchOption x (Unit {0}) (λ o. AllUpTo o.sequence new → NamesGood o bs)) (sym is) (λ top. names)
    newest_one bs names c d (slot, inl same) low = subst (λ x. MatchOption x (Unit {0}) (λ o. AllUpTo o.sequence new → NamesGood o bs)) (sym same) (by c.offer low)
      where
        by : (x : Option Offer) → MatchOption x (Unit {0}) (λ o. o.sequence ≤ last) → MatchOption x (Unit {0}) (λ o. AllUpTo o.sequence new → NamesGood o bs)
        by None low = tt
        by (Some o) low = λ top. absurd (not_low o low new any top)

    pub newest_after : (bs : List DiskSeen) → AllOf (λ h. IsTrue h.good → has mask h.slot ≡ true) bs → (cs ds : List Copy) → Each Turned cs ds → AllUpTo last cs → AllOf (IfOffer (λ o. AllUpTo o.sequence new → NamesGood o bs)) ds
    newest_after bs names [] [] is low = tt
    newest_after bs names [] (d ∷ ds) is low = absurd is
    newest_after bs names (c ∷ cs) [] is low = absurd is
    newest_after bs names (c ∷ cs) (d ∷ ds) is low = (newest_one bs names c d is.0 low.0, newest_after bs names cs ds is.1 low.1)

-- members that stay: their copies are the same, and no more of them are good
pub was_good : (x y : Bool) (a b : Seen) → Drops x y a b → IsTrue y → IsTrue x
was_good x true a b d is = d
was_good x false a b d is = cc

pub told_same : (group : Word) (a b : Option Contents) → StaysTold a b → offer_told group b ≡ offer_told group a
told_same group None None is = refl
told_same group None (Some b) is = absurd is
told_same group (Some a) None is = absurd is
told_same group (Some a) (Some b) is = in_same group a b is.0 is.1.1

pub told_kept : (group : Word) (a b : Option Contents) → KeepsOffer a b → offer_told group b ≡ offer_told group a
told_kept group None None is = refl
told_kept group None (Some b) is = absurd is
told_kept group (Some a) None is = absurd is
told_kept group (Some a) (Some b) is = in_same group a b is.0 is.1.1

pub copies_stay : (group : Word) (hs bs : List DiskSeen) → Each Stays hs bs → map (copy_of group) bs ≡ map (copy_of group) hs
copies_stay group [] [] is = refl
copies_stay group [] (b ∷ bs) is = absurd is
copies_stay group (a ∷ hs) [] is = absurd is
copies_stay group (a ∷ hs) (b ∷ bs) is = ap (λ c. c ∷ map (copy_of group) bs) (same_copy (copy_of group a) (copy_of group b) is.0.slot (told_same group a.seen.told b.seen.told is.0.told)) ∙ ap (λ cs. copy_of group a ∷ cs) (copies_stay group hs bs is.1)

-- a disk that is good was good, with its slot
abbrev WasGood : DiskSeen → DiskSeen → Type 0
WasGood a b = (b.slot ≡ a.slot) × (IsTrue b.good → IsTrue a.good)

pub still_named : (m : ℕ) (hs bs : List DiskSeen) → Each WasGood hs bs → AllOf (λ h. IsTrue h.good → has m h.slot ≡ true) hs → AllOf (λ h. IsTrue h.good → has m h.slot ≡ true) bs
still_named m [] [] is names = tt
still_named m [] (b ∷ bs) is names = absurd is
still_named m (a ∷ hs) [] is names = absurd is
still_named m (a ∷ hs) (b ∷ bs) is names = (λ good. ap (has m) is.0.0 ∙ names.0 (is.0.1 good), still_named m hs bs is.1 names.1)

pub stays_was : (hs bs : List DiskSeen) → Each Stays hs bs → Each WasGood hs bs
stays_was [] [] is = tt
stays_was [] (b ∷ bs) is = absurd is
stays_was (a ∷ hs) [] is = absurd is
stays_was (a ∷ hs) (b ∷ bs) is = ((is.0.slot, was_good a.good b.good a.seen b.seen is.0.good), stays_was hs bs is.1)

pub stamps_was : (s m : ℕ) (text : List ℕ) (hs bs : List DiskSeen) → Each (Stamps s m text) hs bs → Each WasGood hs bs
stamps_was s m text [] [] is = tt
stamps_was s m text [] (b ∷ bs) is = absurd is
stamps_was s m text (a ∷ hs) [] is = absurd is
stamps_was s m text (a ∷ hs) (b ∷ bs) is = ((is.0.slot, was_good a.good b.good a.seen b.seen is.0.good), stamps_was s m text hs bs is.1)

-- the newest name the good disks that are left
newest_left : (copies : List Copy) (hs bs : List DiskSeen) → Each WasGood hs bs → (cs : List Copy) → AllOf (IfOffer (λ o. AllUpTo o.sequence copies → NamesGood o hs)) cs → AllOf (IfOffer (λ o. AllUpTo o.sequence copies → NamesGood o bs)) cs
newest_left copies hs bs was cs all = all_map _ _ (λ c. by c.offer) cs all
  where
    by : (x : Option Offer) → MatchOption x (Unit {0}) (λ o. AllUpTo o.sequence copies → NamesGood o hs) → MatchOption x (Unit {0}) (λ o. AllUpTo o.sequence copies → NamesGood o bs)
    by None is = tt
    by (Some o) is = λ top. still_named o.good hs bs was (is top)

-- the same of the first ones
each_first : {X : Type 0} (R : X → X → Type 0) (n : ℕ) (hs bs : List X) → Each R hs bs → Each R (take n hs) (take n bs)
each_first R zero hs bs is = tt
each_first R (suc n) [] [] is = tt
each_first R (suc n) [] (b ∷ bs) is = absurd is
each_first R (suc n) (a ∷ hs) [] is = absurd is
each_first R (suc n) (a ∷ hs) (b ∷ bs) is = (is.0, each_first R n hs bs is.1)

pub all_first : {X : Type 0} (Q : X → Type 0) (n : ℕ) (xs : List X) → AllOf Q xs → AllOf Q (take n xs)
all_first Q zero xs all = tt
all_first Q (suc n) [] all = tt
all_first Q (suc n) (x ∷ xs) all = (all.0, all_first Q n xs all.1)

-- a disk that is good is still a member, where headers stay
abbrev pub HeaderStays : Option Contents → Option Contents → Type 0
HeaderStays None None = Unit {0}
HeaderStays None (Some d) = ⊥
HeaderStays (Some c) None = ⊥
HeaderStays (Some c) (Some d) = d 0 ≡ c 0

pub member_stays : (group : Word) (t u : Option Contents) → HeaderStays t u → IsMember group t → IsMember group u
member_stays group None None stays is = is
member_stays group None (Some u) stays is = absurd stays
member_stays group (Some t) None stays is = absurd stays
member_stays group (Some t) (Some u) stays is = ap (λ s. names_group group (header_of s)) stays ∙ is

members_stay : (group : Word) (hs bs : List DiskSeen) → Each WasGood hs bs → Each (λ a b. HeaderStays a.seen.told b.seen.told) hs bs → AllOf (IsGoodMember group) hs → AllOf (IsGoodMember group) bs
members_stay group [] [] was stays all = tt
members_stay group [] (b ∷ bs) was stays all = absurd was
members_stay group (a ∷ hs) [] was stays all = absurd was
members_stay group (a ∷ hs) (b ∷ bs) was stays all = (λ good. member_stays group a.seen.told b.seen.told stays.0 (all.0 (was.0.1 good)), members_stay group hs bs was.1 stays.1 all.1)

told_header : (t u : Option Contents) → StaysTold t u → HeaderStays t u
told_header None None is = tt
told_header None (Some u) is = absurd is
told_header (Some t) None is = absurd is
told_header (Some t) (Some u) is = is.0

pub just_header : (s m : ℕ) (text : List ℕ) (g : Bool) (t u : Option Contents) → OffersJust s m text g t u → HeaderStays t u
just_header s m text g None None is = tt
just_header s m text g None (Some u) is = absurd is
just_header s m text g (Some t) None is = absurd is
just_header s m text g (Some t) (Some u) is = is.0

stays_headers : (hs bs : List DiskSeen) → Each Stays hs bs → Each (λ a b. HeaderStays a.seen.told b.seen.told) hs bs
stays_headers [] [] is = tt
stays_headers [] (b ∷ bs) is = absurd is
stays_headers (a ∷ hs) [] is = absurd is
stays_headers (a ∷ hs) (b ∷ bs) is = (told_header a.seen.told b.seen.told is.0.told, stays_headers hs bs is.1)

stamps_headers : (s m : ℕ) (text : List ℕ) (hs bs : List DiskSeen) → Each (Stamps s m text) hs bs → Each (λ a b. HeaderStays a.seen.told b.seen.told) hs bs
stamps_headers s m text [] [] is = tt
stamps_headers s m text [] (b ∷ bs) is = absurd is
stamps_headers s m text (a ∷ hs) [] is = absurd is
stamps_headers s m text (a ∷ hs) (b ∷ bs) is = (just_header s m text a.good a.seen.told b.seen.told is.0.offers, stamps_headers s m text hs bs is.1)

-- a member that was turned offers just this
pub now_in : (group : Word) (sequence mask : ℕ) (text : List ℕ) (t : Option Contents) → IsMember group t → NowOffers sequence mask text t → offer_told group t ≡ Some (record { sequence = sequence; good = mask; text = text })
now_in group sequence mask text None member now = absurd now
now_in group sequence mask text (Some c) member now = in_member group c member ∙ now

pub sound_stays : (group : Word) (missing : ℕ) (others : List Copy) (last n : ℕ) (hs bs : List DiskSeen) → Each Stays hs bs → IsSound group missing others last n hs → IsSound group missing others last n bs
sound_stays group missing others last n hs bs stays sound =
    let same : others ++ map (copy_of group) hs ≡ others ++ map (copy_of group) bs = ap (λ cs. others ++ cs) (sym (copies_stay group hs bs stays)) in
    record {
      members = members_stay group hs bs (stays_was hs bs stays) (stays_headers hs bs stays) sound.members;
      chained = subst (IsChained missing) same sound.chained;
      agree = subst AllAgree same sound.agree;
      newest = subst (λ cs. AllOf (IfOffer (λ o. AllUpTo o.sequence cs → NamesGood o (take n bs))) cs) same (newest_left _ (take n hs) (take n bs) (each_first WasGood n hs bs (stays_was hs bs stays)) _ sound.newest);
      up_to = subst (AllUpTo last) same sound.up_to;
    }

pub sound_later : (group : Word) (missing : ℕ) (others : List Copy) (last later n : ℕ) (hs : List DiskSeen) → last ≤ later → IsSound group missing others last n hs → IsSound group missing others later n hs
sound_later group missing others last later n hs le sound = record { members = sound.members; chained = sound.chained; agree = sound.agree; newest = sound.newest; up_to = all_map _ _ (λ c. by c.offer) _ sound.up_to }
  where
    by : (x : Option Offer) → MatchOption x (Unit {0}) (λ o. o.sequence ≤ last) → MatchOption x (Unit {0}) (λ o. o.sequence ≤ later)
    by None is = tt
    by (Some o) is = let r : o.sequence ≤ later = omega (arith, is, le) in r

module _ (group : Word) (missing : ℕ) (others : List Copy) (last sequence mask : ℕ) (text : List ℕ) (later : last < sequence) where
  turn_one : (copies : List Copy) (a b : DiskSeen) → Stamps sequence mask text a b → Turned copies last sequence mask text later (copy_of group a) (copy_of group b)
  turn_one copies a b is = (is.slot, by a.seen.told b.seen.told is.offers)
    where
      by : (t u : Option Contents) → OffersJust sequence mask text a.good t u → (offer_told group u ≡ offer_told group t) ⊎ (offer_told group u ≡ Some (record { sequence = sequence; good = mask; text = text }))
      by None None is = inl refl
      by None (Some u) is = absurd is
      by (Some t) None is = absurd is
      by (Some t) (Some u) (header, inl same, rest) = inl (in_same group t u header same.1)
      by (Some t) (Some u) (header, inr just, rest) = in_just group t u (record { sequence = sequence; good = mask; text = text }) header just.1

  turn_members : (copies : List Copy) (hs bs : List DiskSeen) → Each (Stamps sequence mask text) hs bs → Each (Turned copies last sequence mask text later) (map (copy_of group) hs) (map (copy_of group) bs)
  turn_members copies [] [] is = tt
  turn_members copies [] (b ∷ bs) is = absurd is
  turn_members copies (a ∷ hs) [] is = absurd is
  turn_members copies (a ∷ hs) (b ∷ bs) is = (turn_one copies a b is.0, turn_members copies hs bs is.1)

  turn_all : (copies os : List Copy) (hs bs : List DiskSeen) → Each (Stamps sequence mask text) hs bs → Each (Turned copies last sequence mask text later) (os ++ map (copy_of group) hs) (os ++ map (copy_of group) bs)
  turn_all copies [] hs bs is = turn_members copies hs bs is
  turn_all copies (o ∷ os) hs bs is = ((refl, inl refl), turn_all copies os hs bs is)

  -- the slot of the first good disk is named by the newest
  if_any : (Q R : Offer → Type 0) (copies cs : List Copy) → ((o : Offer) → Q o → R o) → AllOf (IfOffer (λ o. AllUpTo o.sequence copies → Q o)) cs → AllOf (IfOffer (λ o. AllUpTo o.sequence copies → R o)) cs
  if_any Q R copies cs f all = all_map _ _ (λ c. by c.offer) cs all
    where
      by : (x : Option Offer) → MatchOption x (Unit {0}) (λ o. AllUpTo o.sequence copies → Q o) → MatchOption x (Unit {0}) (λ o. AllUpTo o.sequence copies → R o)
      by None is = tt
      by (Some o) is = λ top. f o (is top)

  witness : (copies : List Copy) (n : ℕ) (hs bs : List DiskSeen) → Each (Stamps sequence mask text) hs bs → FirstTurned sequence mask text hs bs → 0 < good_count (take n hs) → AllOf (IsGoodMember group) hs
      → AllOf (IfOffer (λ o. AllUpTo o.sequence copies → NamesGood o (take n hs))) copies → AnyOf (IsTurned copies last sequence mask text later) (map (copy_of group) bs)
  witness copies n [] bs stamps first some members newest = absurd first
  witness copies n (a ∷ hs) [] stamps first some members newest = absurd first
  witness copies zero (a ∷ hs) (b ∷ bs) stamps first some members newest = absurd (omega (arith, some))
  witness copies (suc n) (a ∷ hs) (b ∷ bs) stamps (inl is) some members newest =
      let member : IsMember group b.seen.told = member_stays group a.seen.told b.seen.told (just_header sequence mask text a.good a.seen.told b.seen.told stamps.0.offers) (members.0 is.0) in
      inl (record {
        offer = now_in group sequence mask text b.seen.told member is.1;
        named = if_any (λ o. NamesGood o (a ∷ take n hs)) (λ o. has o.good b.slot ≡ true) copies copies (λ o names. ap (has o.good) stamps.0.slot ∙ names.0 is.0) newest;
      })
  witness copies (suc n) (a ∷ hs) (b ∷ bs) stamps (inr is) some members newest =
      inr (witness copies n hs bs stamps.1 is.1 (good_behind a.good (good_count (take n hs)) is.0 some) members.1 (if_any (λ o. NamesGood o (a ∷ take n hs)) (λ o. NamesGood o (take n hs)) copies copies (λ o names. names.1) newest))

  same_offers : (hs bs : List DiskSeen) → Each (Stamps sequence mask text) hs bs → Each (λ a b. KeepsOffer a.seen.told b.seen.told) hs bs → map (copy_of group) bs ≡ map (copy_of group) hs
  same_offers [] [] stamps is = refl
  same_offers [] (b ∷ bs) stamps is = absurd stamps
  same_offers (a ∷ hs) [] stamps is = absurd stamps
  same_offers (a ∷ hs) (b ∷ bs) stamps is = ap (λ c. c ∷ map (copy_of group) bs) (same_copy (copy_of group a) (copy_of group b) stamps.0.slot (told_kept group a.seen.told b.seen.told is.0)) ∙ ap (λ cs. copy_of group a ∷ cs) (same_offers hs bs stamps.1 is.1)

  any_behind : (Q : Copy → Type 0) (os cs : List Copy) → AnyOf Q cs → AnyOf Q (os ++ cs)
  any_behind Q [] cs any = any
  any_behind Q (o ∷ os) cs any = inr (any_behind Q os cs any)

  module _ (n : ℕ) (hs bs : List DiskSeen) (stamps : Each (Stamps sequence mask text) hs bs) (names : AllOf (λ h. IsTrue h.good → has mask h.slot ≡ true) hs) (sound : IsSound group missing others last n hs) where
    old : List Copy
    old = others ++ map (copy_of group) hs

    turned : Each (Turned (others ++ map (copy_of group) hs) last sequence mask text later) (others ++ map (copy_of group) hs) (others ++ map (copy_of group) bs)
    turned = turn_all (others ++ map (copy_of group) hs) others hs bs stamps

    up : AllUpTo sequence (others ++ map (copy_of group) bs)
    up = up_to_all (others ++ map (copy_of group) hs) last sequence mask text later (others ++ map (copy_of group) hs) (others ++ map (copy_of group) bs) turned sound.up_to

    still : AllOf (λ h. IsTrue h.good → has mask h.slot ≡ true) bs
    still = still_named mask hs bs (stamps_was sequence mask text hs bs stamps) names

    left_members : AllOf (IsGoodMember group) bs
    left_members = members_stay group hs bs (stamps_was sequence mask text hs bs stamps) (stamps_headers sequence mask text hs bs stamps) sound.members

    -- where the first good disk has the toggle, the newest name all good disks
    pub sound_turned : (k : ℕ) → 0 < good_count (take n hs) → FirstTurned sequence mask text hs bs → IsSound group missing others sequence k bs
    sound_turned k some first =
        let any = any_behind (IsTurned (others ++ map (copy_of group) hs) last sequence mask text later) others (map (copy_of group) bs) (witness (others ++ map (copy_of group) hs) n hs bs stamps first some sound.members sound.newest) in
        record {
          members = left_members;
          chained = chained_after (others ++ map (copy_of group) hs) last sequence mask text later (others ++ map (copy_of group) bs) turned any up missing sound.chained sound.up_to;
          agree = agree_after (others ++ map (copy_of group) hs) last sequence mask text later (others ++ map (copy_of group) bs) turned sound.up_to sound.agree;
          newest = newest_after (others ++ map (copy_of group) hs) last sequence mask text later (others ++ map (copy_of group) bs) turned any up (take k bs) (all_first _ k bs still) (others ++ map (copy_of group) hs) (others ++ map (copy_of group) bs) turned sound.up_to;
          up_to = up;
        }

    pub sound_stamps : 0 < good_count (take n hs) → TurnsFirst sequence mask text hs bs → IsSound group missing others sequence n bs
    sound_stamps some (inl first) = sound_turned n some first
    sound_stamps some (inr keeps) =
        let same : others ++ map (copy_of group) hs ≡ others ++ map (copy_of group) bs = ap (λ cs. others ++ cs) (sym (same_offers hs bs stamps keeps)) in
        record {
          members = left_members;
          chained = subst (IsChained missing) same sound.chained;
          agree = subst AllAgree same sound.agree;
          newest = subst (λ cs. AllOf (IfOffer (λ o. AllUpTo o.sequence cs → NamesGood o (take n bs))) cs) same (newest_left _ (take n hs) (take n bs) (each_first WasGood n hs bs (stamps_was sequence mask text hs bs stamps)) _ sound.newest);
          up_to = up;
        }
