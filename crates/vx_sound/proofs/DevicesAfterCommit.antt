-- What a commit leaves of a device: it is as it was, or its header is and its offer may be new, or it was blank and joins.
use Rattle.std.proofs.Common.{◌≡◌, ◌⊎◌, ℕ, ◌+◌, ◌-◌, ◌*◌, ◌<◌, ◌≤◌, true, false, List, length, take, Option, Some, None, refl, sym, ◌∙◌, ap, subst, inl, inr, arith}
use Rattle.std.specs.Prelude.{replicate, MatchOption}
use Rattle.std.proofs.Math.Seq.{take-append_seam}
use Rattle.std.specs.Str.{bytes_eq}
use Rattle.vx_base.specs.Blocks.{Contents}
use Rattle.vx_base.specs.Named.{Word}
use Rattle.vx_base.proofs.NamedLemmas.{name_cases, bytes_eq_self}
use Rattle.vx_mask.specs.Mask.{has}
use Rattle.vx_mask.proofs.Tests.{not_both, true_or_false}
use Rattle.vx_sector.specs.Fields.{zeros}
use Rattle.vx_header.specs.Named.{header_of}
use Rattle.vx_header.specs.Said.{Said, toggle_of}
use Rattle.vx_header.proofs.Toggles.{zeros_say}
use Rattle.vx_copies.specs.Image.{Offer, offer_by, offer_of, text_in, toggle_at, sectors_for}
use Rattle.vx_copies.specs.Lists.{AnyOf}
use Rattle.vx_copies.specs.Written.{Holds, HalfStays, OldOrText}
use Rattle.vx_copies.proofs.Halves.{offer_same}
use Rattle.vx_moments.specs.World.{Device, Member, Volume}
use Rattle.vx_moments.specs.Moment.{Moment}
use Rattle.vx_moments.specs.Copies.{label_of, KeepsToggle, IsTurned, IsStruck}
use Rattle.vx_moments.specs.Commit.{Writing, parties, IsMaskOf, DeviceGoes, MemberGoes, JoinerGoes, IsNoDeviceOf, IsCommitting}
use Rattle.vx_moments.specs.Holding.{IsLent}
use Rattle.vx_sound.specs.Offers.{IsHeaded, Offers}
use Rattle.vx_sound.proofs.Headers.{some_same}
use Rattle.vx_sound.proofs.Lists.{listed_one, any_or_none, any_left, any_right, any_split, all_two}
use Rattle.vx_sound.proofs.Ready.{IsReady, IsHeadedAs, IsBlank}

-- ---- one disk

-- where a toggle and the half that it names stay, the offer does
pub keeps_offer : (c d : Contents) → KeepsToggle c d → offer_of d ≡ offer_of c
unfolding toggle_at offer_of
keeps_offer c d keeps = by (toggle_of (c 1)) refl keeps.named
  where
    by : (t : Option Said) → toggle_of (c 1) ≡ t → MatchOption t (Unit {0}) (λ t. HalfStays t.half c d) → offer_by (toggle_of (d 1)) d ≡ offer_by (toggle_of (c 1)) c
    by None is named = ap (λ (t : Option Said). offer_by t d) (ap toggle_of keeps.toggle ∙ is) ∙ sym (ap (λ (t : Option Said). offer_by t c) is)
    by (Some t) is named = offer_same t.half c d (subst (λ (x : Option Said). MatchOption x (Unit {0}) (λ s. s.half ≡ t.half)) (sym is) refl) keeps.toggle named

-- the half of a toggle gives its text back
pub text_back : (text : List ℕ) (half : ℕ) (d : Contents) → Holds text half d → text_in half (length text) d ≡ text
unfolding text_in
text_back text half d holds = ap (take (length text)) holds ∙ take-append_seam text (zeros (512 * sectors_for (length text) - length text))

-- a zero toggle offers nothing
pub blank_offer : (d : Contents) → d 1 ≡ replicate 512 0 → offer_of d ≡ None
unfolding offer_of toggle_at zeros
blank_offer d zero = ap (λ (t : Option Said). offer_by t d) (ap toggle_of zero ∙ zeros_say 512)

pub header_stays : (text : List ℕ) (c d : Contents) → OldOrText text c d → d 0 ≡ c 0
header_stays text c d only = elim (only 0 (λ e. absurd (omega arith))) [ inl same ↦ same | inr put ↦ put ]

-- ---- what becomes of a device

-- the device of the member offers the text, under a sequence and a mask of the commit
pub record Renewed (x : Writing) (last : ℕ) (old new : Moment) (m : Member) : Type 0 where
  pub offer : Offer
  pub offers : Offers x.config.group new.world m.device m.slot offer
  pub since : x.group.sequence < offer.sequence
  pub up_to : offer.sequence ≤ last
  pub mask : IsMaskOf x old.counts new.counts offer.good
  pub text : offer.text ≡ x.text

-- so does the device of the name
pub record RenewedAt (x : Writing) (last : ℕ) (old new : Moment) (name : Word) : Type 0 where
  pub member : Member
  pub listed : AnyOf (λ n. n ≡ member) (parties x)
  pub at : member.device ≡ name
  pub renewed : Renewed x last old new member

-- the header is as it was, and so is the offer or it is renewed
pub record KeepsHeader (x : Writing) (last : ℕ) (old new : Moment) (name : Word) : Type 0 where
  pub slot : ℕ
  pub before : Device
  pub after : Device
  pub headed : IsHeaded x.config.group old.world name slot before
  pub is : new.world.devices name ≡ Some after
  pub sectors : after.sectors ≡ before.sectors
  pub header : after.contents 0 ≡ before.contents 0
  pub offers : (offer_of after.contents ≡ offer_of before.contents) ⊎ RenewedAt x last old new name

-- the device has the header of a member that joins
pub record JoinsAs (x : Writing) (last : ℕ) (old new : Moment) (name : Word) (after : Device) : Type 0 where
  pub member : Member
  pub listed : AnyOf (λ n. n ≡ member) x.joiners
  pub at : member.device ≡ name
  pub headed : IsHeaded x.config.group new.world name member.slot after
  pub offers : (offer_of after.contents ≡ None) ⊎ RenewedAt x last old new name

-- the device had no header, and has none or joins
pub record Joins (x : Writing) (last : ℕ) (old new : Moment) (name : Word) : Type 0 where
  pub before : Device
  pub was : old.world.devices name ≡ Some before
  pub blank : header_of (before.contents 0) ≡ None
  pub after : Device
  pub is : new.world.devices name ≡ Some after
  pub front : (header_of (after.contents 0) ≡ None) ⊎ JoinsAs x last old new name after

abbrev pub Fate : Writing → ℕ → Moment → Moment → Word → Type 0
Fate x last old new name = (new.world.devices name ≡ old.world.devices name) ⊎ (KeepsHeader x last old new name ⊎ Joins x last old new name)

pub same_device : (d e : Device) → e.sectors ≡ d.sectors → ((k : ℕ) → e.contents k ≡ d.contents k) → e ≡ d
same_device d e sectors same = λ i. record { sectors = sectors i; contents = λ k. same k i }

pub same_or_not : (name other : Word) → (name ≡ other) ⊎ (name ≡ other → ⊥)
same_or_not name other = elim (name_cases name other) [ inl same ↦ inl same | inr differ ↦ inr (λ same. not_both (ap (λ (n : Word). bytes_eq name n) (sym same) ∙ bytes_eq_self name) differ) ]

module _ (x : Writing) (last : ℕ) (old new : Moment) (c : IsCommitting x last old new) where
  pub lent_before : (name : Word) → IsLent new.world name → IsLent old.world name
  lent_before name (vol, v, is, lies) = (vol, v, sym (ap (λ (f : Word → Option Volume). f vol) c.volumes) ∙ is, lies)

  pub lent_after : (name : Word) → IsLent old.world name → IsLent new.world name
  lent_after name (vol, v, is, lies) = (vol, v, ap (λ (f : Word → Option Volume). f vol) c.volumes ∙ is, lies)

  -- a toggle of the commit
  renewed_by : (m : Member) (after : Device) → IsHeaded x.config.group new.world m.device m.slot after → IsTurned (x.group.sequence + 1) last (IsMaskOf x old.counts new.counts) x.text after.contents → Renewed x last old new m
  unfolding offer_of
  renewed_by m after headed turned = record {
    offer = record { sequence = turned.sequence; good = turned.mask; text = text_in turned.half (length x.text) after.contents };
    offers = record { device = after; headed = headed; offer = ap (λ (t : Option Said). offer_by t after.contents) turned.says };
    since = let from = turned.from in omega (arith, from);
    up_to = turned.up_to;
    mask = turned.masks;
    text = text_back x.text turned.half after.contents turned.holds;
  }

  -- a header that stays is the group's still
  pub headed_after : (name : Word) (slot : ℕ) (before after : Device) → IsHeaded x.config.group old.world name slot before → new.world.devices name ≡ Some after → after.sectors ≡ before.sectors → after.contents 0 ≡ before.contents 0 → IsHeaded x.config.group new.world name slot after
  headed_after name slot before after h is sectors header = record {
    device = is;
    apart = λ lent. h.apart (lent_before name lent);
    label = h.label;
    header = ap header_of header ∙ h.header;
    group = h.group;
    slot_is = h.slot_is;
    size = h.size ∙ sym sectors;
  }

  -- what becomes of a member
  member_fate : (m : Member) → AnyOf (λ n. n ≡ m) x.group.members → MemberGoes x last old new m → (has x.group.good m.slot ≡ true → IsHeadedAs x.config.group old.world m) → Fate x last old new m.device
  member_fate m listed goes good = by (true_or_false (has x.group.good m.slot))
    where
      struck : has x.group.good m.slot ≡ true → DeviceGoes (λ d e. IsStruck (x.group.sequence + 1) last (IsMaskOf x old.counts new.counts) x.text d.contents e.contents) m.device old.world new.world → IsHeadedAs x.config.group old.world m → KeepsHeader x last old new m.device
      struck is went (d, headed) =
          let same : went.before ≡ d = some_same went.before d (sym went.was ∙ headed.device) in
          let before : IsHeaded x.config.group old.world m.device m.slot went.before = subst (λ (e : Device). IsHeaded x.config.group old.world m.device m.slot e) (sym same) headed in
          let header = header_stays x.text went.before.contents went.after.contents went.goes.only in
          let after = headed_after m.device m.slot went.before went.after before went.is went.sectors header in
          record {
            slot = m.slot;
            before = went.before;
            after = went.after;
            headed = before;
            is = went.is;
            sectors = went.sectors;
            header = header;
            offers = elim went.goes.front [
              | inl keeps ↦ inl (keeps_offer went.before.contents went.after.contents keeps)
              | inr turned ↦ inr (record { member = m; listed = any_left (λ n. n ≡ m) x.group.members x.joiners listed; at = refl; renewed = renewed_by m went.after after turned })
            ];
          }

      by : (has x.group.good m.slot ≡ true) ⊎ (has x.group.good m.slot ≡ false) → Fate x last old new m.device
      by (inl is) = inr (inl (struck is (goes.good is) (good is)))
      by (inr not_good) = inl (goes.idle not_good)

  -- what becomes of one that joins
  joiner_fate : (m : Member) → AnyOf (λ n. n ≡ m) x.joiners → JoinerGoes x last old new m → IsBlank old.world m → Fate x last old new m.device
  joiner_fate m listed went is = by went.goes.front
    where
      blank : header_of (went.before.contents 0) ≡ None
      blank = is.blank went.before went.was

      joins : (header_of (went.after.contents 0) ≡ None) ⊎ JoinsAs x last old new m.device went.after → Joins x last old new m.device
      joins front = record { before = went.before; was = went.was; blank = blank; after = went.after; is = went.is; front = front }

      headed : header_of (went.after.contents 0) ≡ Some (label_of x.config.group m went.before) → IsHeaded x.config.group new.world m.device m.slot went.after
      headed header = record {
        device = went.is;
        apart = λ lent. is.apart (lent_before m.device lent);
        label = label_of x.config.group m went.before;
        header = header;
        group = refl;
        slot_is = refl;
        size = sym went.sectors;
      }

      by : ((k : ℕ) → went.after.contents k ≡ went.before.contents k)
          ⊎ (((went.after.contents 0 ≡ went.before.contents 0) × (went.after.contents 1 ≡ replicate 512 0))
          ⊎ ((header_of (went.after.contents 0) ≡ Some (label_of x.config.group m went.before)) × ((went.after.contents 1 ≡ replicate 512 0) ⊎ IsTurned (x.group.sequence + 1) last (IsMaskOf x old.counts new.counts) x.text went.after.contents)))
          → Fate x last old new m.device
      by (inl same) = inl (went.is ∙ ap (λ (d : Device). Some d) (same_device went.before went.after went.sectors same) ∙ sym went.was)
      by (inr (inl (header, zero))) = inr (inr (joins (inl (ap header_of header ∙ blank))))
      by (inr (inr (header, inl zero))) = inr (inr (joins (inr (record { member = m; listed = listed; at = refl; headed = headed header; offers = inl (blank_offer went.after.contents zero) }))))
      by (inr (inr (header, inr turned))) = inr (inr (joins (inr (record {
        member = m;
        listed = listed;
        at = refl;
        headed = headed header;
        offers = inr (record { member = m; listed = any_right (λ n. n ≡ m) x.group.members x.joiners listed; at = refl; renewed = renewed_by m went.after (headed header) turned });
      }))))

  -- what becomes of the device of a name
  pub fate : IsReady x old.world → (name : Word) → Fate x last old new name
  fate r name = by (any_or_none (λ m. m.device ≡ name) (parties x) (λ m. same_or_not m.device name))
    where
      of_member : AnyOf (λ m. m.device ≡ name) x.group.members → Fate x last old new name
      of_member any =
          let found = listed_one (λ m. MemberGoes x last old new m × (has x.group.good m.slot ≡ true → IsHeadedAs x.config.group old.world m)) (λ m. m.device ≡ name) x.group.members
          (all_two (MemberGoes x last old new) (λ m. has x.group.good m.slot ≡ true → IsHeadedAs x.config.group old.world m) (λ m. MemberGoes x last old new m × (has x.group.good m.slot ≡ true → IsHeadedAs x.config.group old.world m)) x.group.members (λ m goes good. (goes, good)) c.members r.good) any in
          subst (λ (n : Word). Fate x last old new n) found.3 (member_fate found.0 found.1 found.2.0 found.2.1)

      of_joiner : AnyOf (λ m. m.device ≡ name) x.joiners → Fate x last old new name
      of_joiner any =
          let found = listed_one (λ m. JoinerGoes x last old new m × IsBlank old.world m) (λ m. m.device ≡ name) x.joiners
          (all_two (JoinerGoes x last old new) (IsBlank old.world) (λ m. JoinerGoes x last old new m × IsBlank old.world m) x.joiners (λ m goes blank. (goes, blank)) c.joiners r.blank) any in
          subst (λ (n : Word). Fate x last old new n) found.3 (joiner_fate found.0 found.1 found.2.0 found.2.1)

      by : AnyOf (λ m. m.device ≡ name) (parties x) ⊎ IsNoDeviceOf (parties x) name → Fate x last old new name
      by (inr none) = inl (c.others name none)
      by (inl some) = elim (any_split (λ m. m.device ≡ name) x.group.members x.joiners some) [ inl one ↦ of_member one | inr one ↦ of_joiner one ]
