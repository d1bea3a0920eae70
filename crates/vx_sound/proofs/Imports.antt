-- What an import takes is the newest of all devices of the group, also of those that cannot be read.
use Rattle.std.proofs.Common.{◌≡◌, ◌⊎◌, ℕ, ◌-◌, ◌<◌, ◌≤◌, ◌^◌, ◌==◌, ◌&&◌, not, true, false, Bool, cond, nat_lt, List, [], ◌∷◌, Option, Some, None, MatchOption, refl, sym, ◌∙◌, ap, subst, inl, inr, arith}
use Rattle.std.specs.Prelude.{if◌then◌else◌}
use Rattle.std.specs.Str.{bytes_eq}
use Rattle.std.proofs.lemmas.Bool.{cases_lt, eqb-true, ltb-true}
use Rattle.std.proofs.lemmas.Bool.Decides.{nat_tests}
use Rattle.std.proofs.lemmas.Nat.Bits.{bit_at_above}
use Rattle.vx_base.specs.Named.{Word}
use Rattle.vx_base.proofs.NamedLemmas.{bytes_eq_self}
use Rattle.vx_mask.specs.Mask.{has}
use Rattle.vx_mask.proofs.Tests.{both_parts}
use Rattle.vx_copies.specs.Image.{Offer, offer_of, offer_in, names_group, highest, higher}
use Rattle.vx_copies.specs.Lists.{AllOf}
use Rattle.vx_copies.proofs.InGroup.{in_member}
use Rattle.vx_objects.specs.declared.config.Config.{Config}
use Rattle.vx_moments.specs.World.{World, Device}
use Rattle.vx_moments.specs.Moment.{Counts}
use Rattle.vx_stages.specs.Finding.{Candidate, IsCandidate, Found, Finds, offers_of, first_that, is_recorded, good_ones, member_of, group_found}
use Rattle.vx_plans.proofs.Carriers.{FoundBy, found_by, one_offers, one_there, is_there}
use Rattle.vx_sound.specs.Offers.{IsHeaded, Offers}
use Rattle.vx_sound.specs.Sound.{IsNewest, NamesNewer, NamesMissing, IsChained, IsConfigOf}
use Rattle.vx_sound.specs.Standing.{IsOwn}
use Rattle.vx_sound.proofs.Headers.{slot_below, mask_below, some_same, never_some}
use Rattle.vx_sound.proofs.Configs.{Records}
use Rattle.vx_sound.proofs.Lists.{all_imp, all_two, all_mapped, all_filter, one_of, any_test, test_any, any_imp}
use Rattle.vx_sound.proofs.ReadyToWrite.{IsLed}
use Rattle.vx_sound.proofs.Ready.{IsHeadedAs}

-- a mask of 32 slots has none from 32 on
pub slot_in_mask : (mask slot : ℕ) → mask < 2 ^ 32 → has mask slot ≡ true → slot < 32
unfolding has
slot_in_mask mask slot fits is = elim (cases_lt slot 32) [
  | inl low ↦ low
  | inr high ↦ (let none : (0 == 1) ≡ true = ap (λ (b : ℕ). b == 1) (sym (bit_at_above mask 32 slot fits high)) ∙ is in cc)
]

-- ---- the highest of some offers

abbrev IsUpTo : ℕ → Option Offer → Type 0
IsUpTo n o = MatchOption o (Unit {0}) (λ p. p.sequence ≤ n)

below_higher : (n : ℕ) (a b : Option Offer) → IsUpTo n (higher a b) → IsUpTo n a × IsUpTo n b
below_higher n None b h = (tt, h)
below_higher n (Some a) None h = (h, tt)
below_higher n (Some a) (Some b) h = by (nat_lt a.sequence b.sequence) refl h
  where
    by : (lower : Bool) → nat_lt a.sequence b.sequence ≡ lower → IsUpTo n (cond lower (Some b) (Some a)) → (a.sequence ≤ n) × (b.sequence ≤ n)
    by true e h = let lt = ltb-true a.sequence b.sequence e in (omega arith, h)
    by false e h = (h, least a.sequence b.sequence e h)
      where
        least : (p q : ℕ) → nat_lt p q ≡ false → p ≤ n → q ≤ n
        least p q e h = grind (arith, nat_tests)

all_up_to : (n : ℕ) (os : List (Option Offer)) → IsUpTo n (highest os) → AllOf (IsUpTo n) os
all_up_to n [] h = tt
all_up_to n (o ∷ os) h = let both = below_higher n o (highest os) h in (both.0, all_up_to n os both.1)

-- a candidate that can be read offers nothing higher
abbrev HasUpTo : Word → (Word → Bool) → ℕ → Candidate → Type 0
HasUpTo dg unread n c = (p : Offer) → unread c.name ≡ false → offer_in dg c.device.contents ≡ Some p → p.sequence ≤ n

candidates_up_to : (dg : Word) (unread : Word → Bool) (n : ℕ) (cs : List Candidate) → AllOf (IsUpTo n) (offers_of dg unread cs) → AllOf (HasUpTo dg unread n) cs
candidates_up_to dg unread n [] h = tt
candidates_up_to dg unread n (c ∷ cs) h = (one, candidates_up_to dg unread n cs h.1)
  where
    one : HasUpTo dg unread n c
    one p off is =
        let known : (if unread c.name then None else offer_in dg c.device.contents) ≡ Some p = ap (λ (b : Bool). if b then None else offer_in dg c.device.contents) off ∙ is in
        subst (λ (o : Option Offer). IsUpTo n o) known h.0

-- where none is the first, none is
none_first : {X : Type 0} (test : X → Bool) (xs : List X) → first_that test xs ≡ None → AllOf (λ x. test x ≡ false) xs
none_first test [] e = tt
none_first test (x ∷ xs) e = by (test x) refl e (none_first test xs)
  where
    by : (b : Bool) → test x ≡ b → (if b then Some x else first_that test xs) ≡ None → (first_that test xs ≡ None → AllOf (λ x. test x ≡ false) xs) → AllOf (λ x. test x ≡ false) (x ∷ xs)
    by true is e rest = never_some None x refl (sym e)
    by false is e rest = (is, rest e)

-- ---- the slots of candidates

-- a candidate of the slot that can be read
record IsThere (dg : Word) (unread : Word → Bool) (w : World) (n slot : ℕ) : Type 0 where
  candidate : Candidate
  headed : IsHeaded dg w candidate.name slot candidate.device
  low : (p : Offer) → offer_of candidate.device.contents ≡ Some p → p.sequence ≤ n

module _ (dg : Word) (w : World) where
  pub candidate_headed : (absent : Word → Bool) (c : Candidate) → IsCandidate dg absent w c → IsHeaded dg w c.name c.label.slot c.device
  candidate_headed absent c is = record {
    device = is.device_is;
    apart = λ lent. is.free (inl lent);
    label = c.label;
    header = is.header;
    group = is.group_is;
    slot_is = refl;
    size = is.size;
  }

  -- what a device with a header of the group offers in it
  same_offer : (name : Word) (slot : ℕ) (d : Device) → IsHeaded dg w name slot d → offer_in dg d.contents ≡ offer_of d.contents
  same_offer name slot d h = in_member dg d.contents (ap (names_group dg) h.header ∙ ap (λ (g : Word). bytes_eq g dg) h.group ∙ bytes_eq_self dg)

module _ (dg : Word) (w : World) (old new : Counts) (found : Found dg w old new) (F : Offer → Config → Type 0) (by_all : FoundBy dg found.unread found.counted F) (was : IsChained dg w) where
  abbrev o : Offer
  o = by_all.offer

  abbrev cs : List Candidate
  cs = found.counted

  abbrev unread : Word → Bool
  unread = found.unread

  all_low : AllOf (HasUpTo dg unread o.sequence) cs
  all_low = candidates_up_to dg unread o.sequence cs (all_up_to o.sequence (offers_of dg unread cs) (subst (λ (p : Option Offer). IsUpTo o.sequence p) (sym by_all.highest_is) least))
    where
      least : o.sequence ≤ o.sequence
      least = omega arith

  -- each slot that the offer names has one
  there : (slot : ℕ) → slot < 32 → has o.good slot ≡ true → IsThere dg unread w o.sequence slot
  there slot low names =
      let one = one_of (λ c. IsCandidate dg found.absent w c × HasUpTo dg unread o.sequence c) (λ c. is_there unread slot c ≡ true) cs
      (all_two (IsCandidate dg found.absent w) (HasUpTo dg unread o.sequence) (λ c. IsCandidate dg found.absent w c × HasUpTo dg unread o.sequence c) cs (λ c a b. (a, b)) found.count.each all_low)
      (any_test (is_there unread slot) cs (one_there 32 0 o.good slot unread cs by_all.none_missing (omega arith) low names)) in
      let c = one.0 in
      let parts = both_parts (not (unread c.name)) (c.label.slot == slot) one.2 in
      let own : IsHeaded dg w c.name c.label.slot c.device = candidate_headed dg w found.absent c one.1.0 in
      record {
        candidate = c;
        headed = subst (λ (s : ℕ). IsHeaded dg w c.name s c.device) (eqb-true c.label.slot slot parts.1) own;
        low = λ p is. one.1.1 p (can_be_read (unread c.name) parts.0) (same_offer dg w c.name c.label.slot c.device own ∙ is);
      }
    where
      can_be_read : (b : Bool) → not b ≡ true → b ≡ false
      can_be_read true e = cc
      can_be_read false e = refl

  -- the device that offers what is taken
  pub taken_from : (c : Candidate) × Offers dg w c.name c.label.slot o
  taken_from =
      let one = one_of (IsCandidate dg found.absent w) (λ c. offer_in dg c.device.contents ≡ Some o) cs found.count.each (one_offers dg unread cs o by_all.highest_is) in
      let headed = candidate_headed dg w found.absent one.0 one.1 in
      (one.0, record { device = one.0.device; headed = headed; offer = sym (same_offer dg w one.0.name one.0.label.slot one.0.device headed) ∙ one.2 })

  -- it is the newest
  pub newest_taken : IsNewest dg w o
  newest_taken = by (was.chained taken_from.0.name taken_from.0.label.slot o taken_from.1)
    where
      by : IsNewest dg w o ⊎ (NamesNewer dg w o ⊎ NamesMissing dg w o) → IsNewest dg w o
      by (inl newest) = newest
      by (inr (inr gone)) =
          let one = there gone.slot (slot_in_mask o.good gone.slot (mask_below taken_from.1.device.contents o taken_from.1.offer) gone.names) gone.names in
          absurd (gone.missing one.candidate.name one.candidate.device one.headed)
      by (inr (inl n)) =
          let one = there n.slot (slot_below dg w n.name n.slot n.offers.device n.offers.headed) n.names in
          let same : n.name ≡ one.candidate.name = was.apart n.slot n.name one.candidate.name n.offers.device one.candidate.device n.offers.headed one.headed in
          let device : n.offers.device ≡ one.candidate.device = some_same n.offers.device one.candidate.device (sym n.offers.headed.device ∙ ap (λ (x : Word). w.devices x) same ∙ one.headed.device) in
          let low = one.low n.newer (ap (λ (d : Device). offer_of d.contents) (sym device) ∙ n.offers.offer) in
          let rises = n.rises in
          absurd (omega arith)

  -- ---- the group as it is found

  abbrev config : Config
  config = by_all.config

  member_own : (c : Candidate) → IsCandidate dg found.absent w c → IsOwn dg w (member_of c)
  member_own c is = record {
    device = c.device;
    is = is.device_is;
    apart = λ lent. is.free (inl lent);
    header = λ label header.
        let known : label ≡ c.label = some_same label c.label (sym header ∙ is.header) in
        known ∙ (λ i. record { group = is.group_is i; disk = c.label.disk; slot = c.label.slot; sectors = is.size i });
  }

  recorded_slot : (c : Candidate) → not (is_recorded config c.label) ≡ false → Records config c.label.slot
  recorded_slot c is =
      test_any (λ d. d.slot == c.label.slot) config.disks
      (any_imp (λ d. (d.slot == c.label.slot && bytes_eq d.name c.label.disk && d.publen == c.label.sectors - 2048) ≡ true) (λ d. (d.slot == c.label.slot) ≡ true) config.disks
      (λ d e. (both_parts (d.slot == c.label.slot) (bytes_eq d.name c.label.disk) (both_parts (d.slot == c.label.slot && bytes_eq d.name c.label.disk) (d.publen == c.label.sectors - 2048) e).0).0)
      (any_test (λ d. d.slot == c.label.slot && bytes_eq d.name c.label.disk && d.publen == c.label.sectors - 2048) config.disks (yes_if (is_recorded config c.label) is)))
    where
      yes_if : (b : Bool) → not b ≡ false → b ≡ true
      yes_if true e = refl
      yes_if false e = cc

  each_good : AllOf (IsCandidate dg found.absent w) (good_ones o.good cs)
  each_good = all_filter (IsCandidate dg found.absent w) (λ c. has o.good c.label.slot) cs found.count.each

  abbrev of_text : IsConfigOf o.text config
  of_text = inr (by_all.records, by_all.spells, by_all.read)

  pub found_led : IsLed dg w (group_found o cs config)
  found_led = record {
    own = all_mapped (IsOwn dg w) member_of (good_ones o.good cs) (all_imp (IsCandidate dg found.absent w) (λ c. IsOwn dg w (member_of c)) (good_ones o.good cs) member_own each_good);
    good = all_mapped (λ m. has o.good m.slot ≡ true → IsHeadedAs dg w m) member_of (good_ones o.good cs)
        (all_imp (IsCandidate dg found.absent w) (λ c. has o.good c.label.slot ≡ true → IsHeadedAs dg w (member_of c)) (good_ones o.good cs) (λ c is good. (c.device, candidate_headed dg w found.absent c is)) each_good);
    newest = newest_taken;
    taken = λ name slot p h newest.
        let low = newest_taken name slot p h in
        let high = newest taken_from.0.name taken_from.0.label.slot o taken_from.1 in
        let same : p.sequence ≡ o.sequence = omega arith in
        (same, (was.agree name taken_from.0.name slot taken_from.0.label.slot p o h taken_from.1 same).0);
    recorded = all_mapped (λ m. Records config m.slot) member_of (good_ones o.good cs) (all_imp (λ c. not (is_recorded config c.label) ≡ false) (λ c. Records config c.label.slot) (good_ones o.good cs) recorded_slot (none_first (λ c. not (is_recorded config c.label)) (good_ones o.good cs) by_all.recorded));
    masked = λ n is. was.named taken_from.0.name taken_from.0.name taken_from.0.label.slot taken_from.0.label.slot o o taken_from.1 taken_from.1 (omega arith) n is config of_text;
    offering = λ name slot p h. was.offering name taken_from.0.name slot taken_from.0.label.slot p o h taken_from.1 (newest_taken name slot p h) config of_text;
    named = λ name slot p h n is. was.named name taken_from.0.name slot taken_from.0.label.slot p o h taken_from.1 (newest_taken name slot p h) n is config of_text;
  }

-- ---- the law

pub each_import_takes_the_newest : (dg : Word) (w : World) (old new : Counts) (found : Found dg w old new) (o : Offer) (config : Config)
    → w.group ≡ None → IsChained dg w
    → Finds dg w found.unread found.counted (λ r. ⊥) (λ p c. (p ≡ o) × (c ≡ config))
    → IsNewest dg w o
each_import_takes_the_newest dg w old new found o config none was finds =
    let by_all = found_by dg w found.unread found.counted (λ p c. (p ≡ o) × (c ≡ config)) finds in
    subst (λ (p : Offer). IsNewest dg w p) by_all.holds.0 (newest_taken dg w old new found (λ p c. (p ≡ o) × (c ≡ config)) by_all was)
