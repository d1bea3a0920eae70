-- A pass writes the toggle of the first good disk before any other.
use Rattle.std.proofs.Common.{◌≡◌, ◌⊎◌, ℕ, zero, suc, ◌+◌, ◌<◌, Bool, true, false, cond, List, [], ◌∷◌, length, map, take, drop, set, Option, Some, None, refl, ◌∙◌, arith, inl, inr}
use Rattle.std.specs.Prelude.{IsTrue, MatchOption}
use Rattle.vx_base.specs.Blocks.{Contents}
use Rattle.vx_base.specs.Named.{Word}
use Rattle.vx_piece.specs.Seen.{Seen}
use Rattle.vx_copies.specs.Lists.{Each, AllOf}
use Rattle.vx_copies.specs.Image.{offer_of}
use Rattle.vx_copies.specs.Disks.{DiskSeen, disk_seen, Stamps, OffersJust, IsOffer, IsMember, good_count}
use Rattle.vx_copies.specs.Chain.{IsGoodMember}
use Rattle.vx_copies.specs.Pass.{NowOffers, FirstTurned, KeepsOffer, TurnsFirst, TellsIfGood, FirstTells}
use Rattle.vx_copies.specs.declared.disk.Disk.{Disk}
use Rattle.vx_copies.proofs.StepLaws.{same_offer_refl, rest_refl}

abbrev Kept : DiskSeen → DiskSeen → Type 0
Kept a b = KeepsOffer a.seen.told b.seen.told

kept_refl : (t : Option Contents) → KeepsOffer t t
kept_refl None = tt
kept_refl (Some c) = (refl, same_offer_refl c, rest_refl c)

pub all_kept : (hs : List DiskSeen) → Each Kept hs hs
all_kept [] = tt
all_kept (h ∷ hs) = (kept_refl h.seen.told, all_kept hs)

pub tells_if_good : (group : Word) (hs : List DiskSeen) → AllOf (IsGoodMember group) hs → AllOf TellsIfGood hs
tells_if_good group [] all = tt
tells_if_good group (h ∷ hs) all = (λ good. by h.seen.told (all.0 good), tells_if_good group hs all.1)
  where
    by : (t : Option Contents) → IsMember group t → MatchOption t ⊥ (λ c. Unit {0})
    by None is = absurd is
    by (Some c) is = tt

-- a good disk is behind one that is not good
pub good_behind : (g : Bool) (k : ℕ) → g ≡ false → 0 < cond g 1 0 + k → 0 < k
good_behind true k e lt = cc
good_behind false k e lt = omega (arith, lt)

-- where all good disks tell what they hold, or those of the first, of which one is good, the first good one does
pub all_tell : (hs : List DiskSeen) → AllOf TellsIfGood hs → FirstTells hs
all_tell [] all = tt
all_tell (h ∷ hs) all = (all.0, λ e. all_tell hs all.1)

pub front_tells : (n : ℕ) (hs : List DiskSeen) → 0 < good_count (take n hs) → AllOf TellsIfGood (take n hs) → FirstTells hs
front_tells n [] some all = tt
front_tells zero (h ∷ hs) some all = absurd (omega (arith, some))
front_tells (suc n) (h ∷ hs) some all = (all.0, λ e. front_tells n hs (good_behind h.good (good_count (take n hs)) e some) all.1)

module _ (s m : ℕ) (text : List ℕ) where
  -- a disk that was not good is not written
  not_turned : (g : Bool) (t u : Option Contents) → g ≡ false → OffersJust s m text g t u → KeepsOffer t u
  not_turned g None None e is = tt
  not_turned g None (Some u) e is = absurd is
  not_turned g (Some t) None e is = absurd is
  not_turned g (Some t) (Some u) e (header, inl same, rest) = (header, same, rest)
  not_turned g (Some t) (Some u) e (header, inr just, rest) = both g e just.0
    where
      both : (b : Bool) → b ≡ false → IsTrue b → KeepsOffer (Some t) (Some u)
      both true e is = cc
      both false e is = cc

  -- one that was good offers what it did, or just this
  turned_or_kept : (g : Bool) (t u : Option Contents) → OffersJust s m text g t u → KeepsOffer t u ⊎ NowOffers s m text u
  turned_or_kept g None None is = inl tt
  turned_or_kept g None (Some u) is = absurd is
  turned_or_kept g (Some t) None is = absurd is
  turned_or_kept g (Some t) (Some u) (header, inl same, rest) = inl (header, same, rest)
  turned_or_kept g (Some t) (Some u) (header, inr just, rest) = inr just.1

  now_offered : (g : Bool) (t u : Option Contents) → OffersJust s m text g t u → MatchOption t ⊥ (λ c. Unit {0}) → MatchOption u (Unit {0}) (λ c. offer_of c ≡ Some (record { sequence = s; good = m; text = text })) → NowOffers s m text u
  now_offered g None u just tells offer = absurd tells
  now_offered g (Some t) None just tells offer = absurd just
  now_offered g (Some t) (Some u) just tells offer = offer

  more : (a b : DiskSeen) (hs bs : List DiskSeen) → a.good ≡ false → KeepsOffer a.seen.told b.seen.told → TurnsFirst s m text hs bs → TurnsFirst s m text (a ∷ hs) (b ∷ bs)
  more a b hs bs e kept (inl first) = inl (inr (e, first))
  more a b hs bs e kept (inr rest) = inr (kept, rest)

  pub all_turned : (hs bs : List DiskSeen) → Each (Stamps s m text) hs bs → Each (λ a b. b.good ≡ a.good) hs bs → FirstTells hs → AllOf (IsOffer s m text) bs → TurnsFirst s m text hs bs
  all_turned [] [] stamps same tells offers = inr tt
  all_turned [] (b ∷ bs) stamps same tells offers = absurd stamps
  all_turned (a ∷ hs) [] stamps same tells offers = absurd stamps
  all_turned (a ∷ hs) (b ∷ bs) stamps same tells offers = by a.good refl (λ e. all_turned hs bs stamps.1 same.1 (tells.1 e) offers.1)
    where
      by : (g : Bool) → a.good ≡ g → (a.good ≡ false → TurnsFirst s m text hs bs) → TurnsFirst s m text (a ∷ hs) (b ∷ bs)
      by true e rest = inl (inl (e, now_offered a.good a.seen.told b.seen.told stamps.0.offers (tells.0 e) (offers.0 (same.0 ∙ e))))
      by false e rest = more a b hs bs e (not_turned a.good a.seen.told b.seen.told e stamps.0.offers) (rest e)

  -- where one is good and all good ones are done, the first has the toggle
  pub first_done : (hs bs : List DiskSeen) → Each (Stamps s m text) hs bs → Each (λ a b. b.good ≡ a.good) hs bs → AllOf TellsIfGood hs → AllOf (IsOffer s m text) bs → 0 < good_count hs → FirstTurned s m text hs bs
  first_done [] bs stamps same tells offers some = absurd (omega (arith, some))
  first_done (a ∷ hs) [] stamps same tells offers some = absurd stamps
  first_done (a ∷ hs) (b ∷ bs) stamps same tells offers some = by a.good refl (first_done hs bs stamps.1 same.1 tells.1 offers.1)
    where
      by : (g : Bool) → a.good ≡ g → (0 < good_count hs → FirstTurned s m text hs bs) → FirstTurned s m text (a ∷ hs) (b ∷ bs)
      by true e rest = inl (e, now_offered a.good a.seen.told b.seen.told stamps.0.offers (tells.0 e) (offers.0 (same.0 ∙ e)))
      by false e rest = inr (e, rest (good_behind a.good (good_count hs) e some))

  module _ {P : Type 0} (see : P → Seen) where
    pub stop_first : (hs : List DiskSeen) (ds : List (Disk P)) (i : ℕ) (d : Disk P) → i < length ds → Each (Stamps s m text) hs (map (disk_seen see) (set ds i d)) → FirstTells hs → Each (λ a b. b.good ≡ a.good) hs (map (disk_seen see) ds)
        → AllOf (IsOffer s m text) (map (disk_seen see) (take i ds)) → Each Kept (drop i hs) (map (disk_seen see) (drop i ds)) → TurnsFirst s m text hs (map (disk_seen see) (set ds i d))
    stop_first hs [] i d lt stamps tells same offers rest = absurd (omega (arith, lt))
    stop_first [] (x ∷ ds) i d lt stamps tells same offers rest = absurd same
    stop_first (a ∷ hs) (x ∷ ds) zero d lt stamps tells same offers rest = by a.good refl (turned_or_kept a.good a.seen.told (see d.piece).told stamps.0.offers)
      where
        by : (g : Bool) → a.good ≡ g → KeepsOffer a.seen.told (see d.piece).told ⊎ NowOffers s m text (see d.piece).told → TurnsFirst s m text (a ∷ hs) (disk_seen see d ∷ map (disk_seen see) ds)
        by g e (inl kept) = inr (kept, rest.1)
        by true e (inr now) = inl (inl (e, now))
        by false e (inr now) = inr (not_turned a.good a.seen.told (see d.piece).told e stamps.0.offers, rest.1)
    stop_first (a ∷ hs) (x ∷ ds) (suc i) d lt stamps tells same offers rest = by a.good refl (λ e. stop_first hs ds i d (omega (arith, lt)) stamps.1 (tells.1 e) same.1 offers.1 rest)
      where
        by : (g : Bool) → a.good ≡ g → (a.good ≡ false → TurnsFirst s m text hs (map (disk_seen see) (set ds i d))) → TurnsFirst s m text (a ∷ hs) (disk_seen see x ∷ map (disk_seen see) (set ds i d))
        by true e behind = inl (inl (e, now_offered a.good a.seen.told (see x.piece).told stamps.0.offers (tells.0 e) (offers.0 (same.0 ∙ e))))
        by false e behind = more a (disk_seen see x) hs (map (disk_seen see) (set ds i d)) e (not_turned a.good a.seen.told (see x.piece).told e stamps.0.offers) (behind e)

    pub rest_more : (hs : List DiskSeen) (ds : List (Disk P)) (i : ℕ) (d : Disk P) → i < length ds → Each Kept (drop i hs) (map (disk_seen see) (drop i ds)) → Each Kept (drop (suc i) hs) (map (disk_seen see) (drop (suc i) (set ds i d)))
    rest_more hs [] i d lt rest = absurd (omega (arith, lt))
    rest_more [] (x ∷ ds) zero d lt rest = absurd rest
    rest_more [] (x ∷ ds) (suc i) d lt rest = rest_more [] ds i d (omega (arith, lt)) (no_more i rest)
      where
        no_more : (j : ℕ) → Each Kept [] (map (disk_seen see) (drop j ds)) → Each Kept (drop j []) (map (disk_seen see) (drop j ds))
        no_more zero is = is
        no_more (suc j) is = is
    rest_more (a ∷ hs) (x ∷ ds) zero d lt rest = rest.1
    rest_more (a ∷ hs) (x ∷ ds) (suc i) d lt rest = rest_more hs ds i d (omega (arith, lt)) rest
