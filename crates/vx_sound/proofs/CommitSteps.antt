-- A commit keeps the copies of its group chained, at whichever device call it ends.
use Rattle.std.proofs.Common.{◌≡◌, ◌⊎◌, ℕ, ◌<◌, ◌≤◌, ◌==◌, true, false, Bool, List, [], ◌∷◌, Option, Some, None, refl, sym, ◌∙◌, ap, subst, inl, inr, arith}
use Rattle.std.proofs.lemmas.Bool.{cases_lt, eq-eqb}
use Rattle.std.specs.Str.{bytes_eq}
use Rattle.vx_base.specs.Named.{Word}
use Rattle.vx_mask.specs.Mask.{has}
use Rattle.vx_mask.proofs.Tests.{true_or_false, not_both}
use Rattle.vx_header.specs.Named.{Label, header_of}
use Rattle.vx_copies.specs.Chain.{IsInOrder}
use Rattle.vx_copies.specs.Image.{Offer, offer_of, offer_in, names_group, offer_if}
use Rattle.vx_copies.specs.Lists.{AllOf}
use Rattle.vx_copies.proofs.InGroup.{in_member}
use Rattle.vx_base.proofs.NamedLemmas.{bytes_eq_self, bytes_eq_same, name_cases}
use Rattle.vx_moments.specs.World.{World, Device, Member}
use Rattle.vx_moments.specs.Moment.{Moment}
use Rattle.vx_moments.specs.Copies.{label_of}
use Rattle.vx_moments.specs.Commit.{Writing, parties, MemberGoes, OffersSince, OneOffersSince, is_slot_of, IsCommitting}
use Rattle.vx_sound.specs.Offers.{IsHeaded, Offers}
use Rattle.vx_sound.specs.Sound.{IsNewest, NamesNewer, NamesMissing, IsChained, RecordsSlot, AreSound}
use Rattle.vx_sound.specs.Standing.{IsOwn}
use Rattle.vx_sound.proofs.Headers.{some_same, never_some, one_device, one_slot, one_group, one_offer}
use Rattle.vx_sound.proofs.Fewer.{HadEach, HasNone, HasOrNone, chained_fewer}
use Rattle.vx_sound.proofs.Configs.{Records, text_records}
use Rattle.vx_sound.proofs.Lists.{all_at, all_imp, all_two, listed_one, any_at, test_any}
use Rattle.vx_sound.proofs.Ready.{IsReady, IsHeadedAs, IsNew}
use Rattle.vx_sound.proofs.DevicesAfterCommit.{RenewedAt, KeepsHeader, Joins, JoinsAs, Fate, fate, lent_before, lent_after, headed_after}

-- a device of the group offers what its contents do
pub offers_in : (dg : Word) (w : World) (name : Word) (slot : ℕ) (o : Offer) → (h : Offers dg w name slot o) → offer_in dg h.device.contents ≡ Some o
offers_in dg w name slot o h = in_member dg h.device.contents (ap (names_group dg) h.headed.header ∙ ap (λ (g : Word). bytes_eq g dg) h.headed.group ∙ bytes_eq_self dg) ∙ h.offer

-- of these devices, one whose offer of the commit is the newest
record Top (x : Writing) (last : ℕ) (old new : Moment) (ms : List Member) : Type 0 where
  name : Word
  at : RenewedAt x last old new name
  above : AllOf (λ m. (n : RenewedAt x last old new m.device) → n.renewed.offer.sequence ≤ at.renewed.offer.sequence) ms

-- a good member offers something of the commit
record Leads (x : Writing) (w : World) : Type 0 where
  member : Member
  good : has x.group.good member.slot ≡ true
  offer : Offer
  offers : Offers x.config.group w member.device member.slot offer
  since : x.group.sequence < offer.sequence

module _ (x : Writing) (last : ℕ) (old new : Moment) (c : IsCommitting x last old new) (r : IsReady x old.world) where
  abbrev dg : Word
  dg = x.config.group

  abbrev NewAt : Word → Type 0
  NewAt name = RenewedAt x last old new name

  -- ---- headers before and after

  same_back : (other name : Word) (slot : ℕ) (e : Device) → new.world.devices name ≡ old.world.devices name → IsHeaded other new.world name slot e → IsHeaded other old.world name slot e
  same_back other name slot e same h = record { device = sym same ∙ h.device; apart = λ lent. h.apart (lent_after x last old new c name lent); label = h.label; header = h.header; group = h.group; slot_is = h.slot_is; size = h.size }

  same_fore : (other name : Word) (slot : ℕ) (d : Device) → new.world.devices name ≡ old.world.devices name → IsHeaded other old.world name slot d → IsHeaded other new.world name slot d
  same_fore other name slot d same h = record { device = same ∙ h.device; apart = λ lent. h.apart (lent_before x last old new c name lent); label = h.label; header = h.header; group = h.group; slot_is = h.slot_is; size = h.size }

  kept_after : (name : Word) (k : KeepsHeader x last old new name) → IsHeaded dg new.world name k.slot k.after
  kept_after name k = headed_after x last old new c name k.slot k.before k.after k.headed k.is k.sectors k.header

  -- a header was there before, or is that of one that joins
  pub headed_back : (name : Word) (slot : ℕ) (e : Device) → IsHeaded dg new.world name slot e → ((d : Device) × IsHeaded dg old.world name slot d) ⊎ JoinsAs x last old new name e
  headed_back name slot e h = by (fate x last old new c r name)
    where
      joined : (j : Joins x last old new name) → (header_of (j.after.contents 0) ≡ None) ⊎ JoinsAs x last old new name j.after → ((d : Device) × IsHeaded dg old.world name slot d) ⊎ JoinsAs x last old new name e
      joined j (inl none) = never_some (header_of (j.after.contents 0)) h.label none (ap (λ (d : Device). header_of (d.contents 0)) (some_same j.after e (sym j.is ∙ h.device)) ∙ h.header)
      joined j (inr as_one) = inr (subst (λ (d : Device). JoinsAs x last old new name d) (some_same j.after e (sym j.is ∙ h.device)) as_one)

      by : Fate x last old new name → ((d : Device) × IsHeaded dg old.world name slot d) ⊎ JoinsAs x last old new name e
      by (inl same) = inl (e, same_back dg name slot e same h)
      by (inr (inl k)) = inl (k.before, subst (λ (s : ℕ). IsHeaded dg old.world name s k.before) (one_slot dg dg new.world name k.slot slot k.after e (kept_after name k) h) k.headed)
      by (inr (inr j)) = joined j j.front

  -- ---- offers before and after

  -- what the device of a name offers it offered before, or that is the commit's
  offers_fate : (name : Word) → ((slot : ℕ) (o : Offer) → Offers dg new.world name slot o → Offers dg old.world name slot o) ⊎ NewAt name
  offers_fate name = by (fate x last old new c r name)
    where
      kept : (k : KeepsHeader x last old new name) → offer_of k.after.contents ≡ offer_of k.before.contents → (slot : ℕ) (o : Offer) → Offers dg new.world name slot o → Offers dg old.world name slot o
      kept k same slot o h =
          let here : k.after ≡ h.device = some_same k.after h.device (sym k.is ∙ h.headed.device) in
          record {
            device = k.before;
            headed = subst (λ (s : ℕ). IsHeaded dg old.world name s k.before) (one_slot dg dg new.world name k.slot slot k.after h.device (kept_after name k) h.headed) k.headed;
            offer = sym same ∙ ap (λ (d : Device). offer_of d.contents) here ∙ h.offer;
          }

      joined : (j : Joins x last old new name) → (header_of (j.after.contents 0) ≡ None) ⊎ JoinsAs x last old new name j.after → ((slot : ℕ) (o : Offer) → Offers dg new.world name slot o → Offers dg old.world name slot o) ⊎ NewAt name
      joined j (inl none) = inl (λ slot o h. never_some (header_of (j.after.contents 0)) h.headed.label none (ap (λ (d : Device). header_of (d.contents 0)) (some_same j.after h.device (sym j.is ∙ h.headed.device)) ∙ h.headed.header))
      joined j (inr as_one) = elim as_one.offers [
        | inl none ↦ inl (λ slot o h. never_some (offer_of j.after.contents) o none (ap (λ (d : Device). offer_of d.contents) (some_same j.after h.device (sym j.is ∙ h.headed.device)) ∙ h.offer))
        | inr renewed ↦ inr renewed
      ]

      by : Fate x last old new name → ((slot : ℕ) (o : Offer) → Offers dg new.world name slot o → Offers dg old.world name slot o) ⊎ NewAt name
      by (inl same) = inl (λ slot o h. record { device = h.device; headed = same_back dg name slot h.device same h.headed; offer = h.offer })
      by (inr (inl k)) = elim k.offers [ inl same ↦ inl (kept k same) | inr renewed ↦ inr renewed ]
      by (inr (inr j)) = joined j j.front

  pub offers_back : (name : Word) (slot : ℕ) (o : Offer) → Offers dg new.world name slot o → Offers dg old.world name slot o ⊎ NewAt name
  offers_back name slot o h = elim (offers_fate name) [ inl back ↦ inl (back slot o h) | inr renewed ↦ inr renewed ]

  -- a header is there still
  pub headed_fore : (name : Word) (slot : ℕ) (d : Device) → IsHeaded dg old.world name slot d → (e : Device) × IsHeaded dg new.world name slot e
  headed_fore name slot d h = by (fate x last old new c r name)
    where
      by : Fate x last old new name → (e : Device) × IsHeaded dg new.world name slot e
      by (inl same) = (d, same_fore dg name slot d same h)
      by (inr (inl k)) = (k.after, subst (λ (s : ℕ). IsHeaded dg new.world name s k.after) (one_slot dg dg old.world name k.slot slot k.before d k.headed h) (kept_after name k))
      by (inr (inr j)) = never_some (header_of (j.before.contents 0)) h.label j.blank (ap (λ (e : Device). header_of (e.contents 0)) (some_same j.before d (sym j.was ∙ h.device)) ∙ h.header)

  -- an offer is there still, or the commit's has come
  pub offers_fore : (name : Word) (slot : ℕ) (o : Offer) → Offers dg old.world name slot o → Offers dg new.world name slot o ⊎ NewAt name
  offers_fore name slot o h = by (fate x last old new c r name)
    where
      kept : (k : KeepsHeader x last old new name) → (offer_of k.after.contents ≡ offer_of k.before.contents) ⊎ NewAt name → Offers dg new.world name slot o ⊎ NewAt name
      kept k (inr renewed) = inr renewed
      kept k (inl same) =
          let here : k.before ≡ h.device = one_device dg old.world name k.slot k.before k.headed h.device h.headed.device in
          inl (record {
            device = k.after;
            headed = subst (λ (s : ℕ). IsHeaded dg new.world name s k.after) (one_slot dg dg old.world name k.slot slot k.before h.device k.headed h.headed) (kept_after name k);
            offer = same ∙ ap (λ (d : Device). offer_of d.contents) here ∙ h.offer;
          })

      by : Fate x last old new name → Offers dg new.world name slot o ⊎ NewAt name
      by (inl same) = inl (record { device = h.device; headed = same_fore dg name slot h.device same h.headed; offer = h.offer })
      by (inr (inl k)) = kept k k.offers
      by (inr (inr j)) = never_some (header_of (j.before.contents 0)) h.headed.label j.blank (ap (λ (d : Device). header_of (d.contents 0)) (some_same j.before h.device (sym j.was ∙ h.headed.device)) ∙ h.headed.header)

  -- ---- the commit's own offers

  abbrev sequence_at : {name : Word} → NewAt name → ℕ
  sequence_at n = n.renewed.offer.sequence

  pub new_offers : (name : Word) (n : NewAt name) → Offers dg new.world name n.member.slot n.renewed.offer
  new_offers name n = subst (λ (d : Word). Offers dg new.world d n.member.slot n.renewed.offer) n.at n.renewed.offers

  -- what such a device offers is that, in its member's slot
  pub new_one : (name : Word) (n : NewAt name) (slot : ℕ) (o : Offer) → Offers dg new.world name slot o → o ≡ n.renewed.offer
  new_one name n slot o h = one_offer dg new.world name slot n.member.slot o n.renewed.offer h (new_offers name n)

  pub new_slot : (name : Word) (n : NewAt name) (slot : ℕ) (d : Device) → IsHeaded dg new.world name slot d → slot ≡ n.member.slot
  new_slot name n slot d h = one_slot dg dg new.world name slot n.member.slot d (new_offers name n).device h (new_offers name n).headed

  sequences : (name : Word) (n k : NewAt name) → sequence_at k ≡ sequence_at n
  sequences name n k = ap (λ (o : Offer). o.sequence) (new_one name n k.member.slot k.renewed.offer (new_offers name k))

  decided : (name : Word) → NewAt name ⊎ (NewAt name → ⊥)
  decided name = elim (offers_fate name) [
    | inr renewed ↦ inl renewed
    | inl back ↦ inr (λ n. let low = r.newest name n.member.slot n.renewed.offer (back n.member.slot n.renewed.offer (new_offers name n)) in let since = n.renewed.since in absurd (omega arith))
  ]

  -- none of these devices offers anything of the commit, or there is a newest
  topmost : (ms : List Member) → AllOf (λ m. NewAt m.device → ⊥) ms ⊎ Top x last old new ms
  topmost [] = inl tt
  topmost (m ∷ ms) = by (decided m.device) (topmost ms)
    where
      by : NewAt m.device ⊎ (NewAt m.device → ⊥) → AllOf (λ m. NewAt m.device → ⊥) ms ⊎ Top x last old new ms → AllOf (λ m. NewAt m.device → ⊥) (m ∷ ms) ⊎ Top x last old new (m ∷ ms)
      by (inr off) (inl rest) = inl (off, rest)
      by (inr off) (inr t) = inr (record { name = t.name; at = t.at; above = ((λ n. absurd (off n)), t.above) })
      by (inl n) (inl rest) = inr (record {
        name = m.device;
        at = n;
        above = ((λ k. let same = sequences m.device n k in omega (arith, same)), all_imp (λ m. NewAt m.device → ⊥) (λ k. (i : NewAt k.device) → sequence_at i ≤ sequence_at n) ms (λ k off i. absurd (off i)) rest);
      })
      by (inl n) (inr t) = elim (cases_lt (sequence_at n) (sequence_at t.at)) [
        | inl below ↦ inr (record { name = t.name; at = t.at; above = ((λ k. let same = sequences m.device n k in omega (arith, same, below)), t.above) })
        | inr above ↦ inr (record {
          name = m.device;
          at = n;
          above = ((λ k. let same = sequences m.device n k in omega (arith, same)), all_imp (λ k. (i : NewAt k.device) → sequence_at i ≤ sequence_at t.at) (λ k. (i : NewAt k.device) → sequence_at i ≤ sequence_at n) ms (λ k low i. let up = low i in omega (arith, up, above)) t.above);
        })
      ]

  abbrev Newest : Type 0
  Newest = (name : Word) × (t : NewAt name) × ((other : Word) (n : NewAt other) → sequence_at n ≤ sequence_at t)

  -- nothing of the commit is offered, or there is a newest of its offers
  none_or_newest : ((name : Word) → NewAt name → ⊥) ⊎ Newest
  none_or_newest = elim (topmost (parties x)) [
    | inl none ↦ inl (λ name n. all_at (λ m. NewAt m.device → ⊥) (parties x) n.member none n.listed (record { member = n.member; listed = n.listed; at = refl; renewed = n.renewed }))
    | inr t ↦ inr (t.name, t.at, λ other n. all_at (λ m. (k : NewAt m.device) → sequence_at k ≤ sequence_at t.at) (parties x) n.member t.above n.listed (record { member = n.member; listed = n.listed; at = refl; renewed = n.renewed }))
  ]

  since_of : (name : Word) (n : NewAt name) → OffersSince x new.world n.member n.renewed.offer
  since_of name n = record { device = n.renewed.offers.device; is = n.renewed.offers.headed.device; offers = offers_in dg new.world n.member.device n.member.slot n.renewed.offer n.renewed.offers; newer = n.renewed.since }

  ordered : (name other : Word) (n : NewAt name) (k : NewAt other) → IsInOrder n.renewed.offer k.renewed.offer k.member.slot
  ordered name other n k =
      all_at (λ b. (o p : Offer) → OffersSince x new.world n.member o → OffersSince x new.world b p → IsInOrder o p b.slot) (parties x) k.member
      (all_at (λ a. AllOf (λ b. (o p : Offer) → OffersSince x new.world a o → OffersSince x new.world b p → IsInOrder o p b.slot) (parties x)) (parties x) n.member c.order n.listed) k.listed
      n.renewed.offer k.renewed.offer (since_of name n) (since_of other k)

  -- ---- a carrier

  -- a header that names the group
  headed_in : (d : Device) (o : Offer) → offer_in dg d.contents ≡ Some o → (label : Label) × (header_of (d.contents 0) ≡ Some label) × (label.group ≡ dg) × (offer_of d.contents ≡ Some o)
  unfolding offer_in
  headed_in d o is = by (header_of (d.contents 0)) refl is
    where
      named : (label : Label) (b : Bool) → bytes_eq label.group dg ≡ b → offer_if b (offer_of d.contents) ≡ Some o → (label.group ≡ dg) × (offer_of d.contents ≡ Some o)
      named label true same is = (bytes_eq_same label.group dg same, is)
      named label false same is = never_some None o refl is

      by : (l : Option Label) → header_of (d.contents 0) ≡ l → offer_if (names_group dg l) (offer_of d.contents) ≡ Some o → (label : Label) × (header_of (d.contents 0) ≡ Some label) × (label.group ≡ dg) × (offer_of d.contents ≡ Some o)
      by None header is = never_some None o refl is
      by (Some label) header is = let both = named label (bytes_eq label.group dg) refl is in (label, header, both.0, both.1)

  leads_by : (m : Member) → MemberGoes x last old new m → IsOwn dg old.world m → (has x.group.good m.slot ≡ true → IsHeadedAs dg old.world m) → (o : Offer) → OffersSince x new.world m o → Leads x new.world
  leads_by m goes own good o since = by (true_or_false (has x.group.good m.slot))
    where
      known : (label : Label) × (header_of (since.device.contents 0) ≡ Some label) × (label.group ≡ dg) × (offer_of since.device.contents ≡ Some o)
      known = headed_in since.device o since.offers

      stayed : new.world.devices m.device ≡ old.world.devices m.device → Leads x new.world
      stayed same =
          let here : own.device ≡ since.device = some_same own.device since.device (sym own.is ∙ sym same ∙ since.is) in
          let label : known.0 ≡ label_of dg m own.device = own.header known.0 (ap (λ (d : Device). header_of (d.contents 0)) here ∙ known.1) in
          let low = r.newest m.device m.slot o (record {
            device = own.device;
            headed = record { device = own.is; apart = own.apart; label = known.0; header = ap (λ (d : Device). header_of (d.contents 0)) here ∙ known.1; group = known.2; slot_is = ap (λ (l : Label). l.slot) label; size = ap (λ (l : Label). l.sectors) label };
            offer = ap (λ (d : Device). offer_of d.contents) here ∙ known.3;
          }) in
          let newer = since.newer in
          absurd (omega arith)

      by : (has x.group.good m.slot ≡ true) ⊎ (has x.group.good m.slot ≡ false) → Leads x new.world
      by (inr idle) = stayed (goes.idle idle)
      by (inl is) =
          let was = good is in
          let headed = headed_fore m.device m.slot was.0 was.1 in
          let here : headed.0 ≡ since.device = one_device dg new.world m.device m.slot headed.0 headed.1 since.device since.is in
          record {
            member = m;
            good = is;
            offer = o;
            offers = record { device = headed.0; headed = headed.1; offer = ap (λ (d : Device). offer_of d.contents) here ∙ known.3 };
            since = since.newer;
          }

  one_leads : (name : Word) → NewAt name → x.carriers ≡ x.group.members → Leads x new.world
  one_leads name n carriers =
      let some = c.lead (any_at (λ m. (o : Offer) × OffersSince x new.world m o) (parties x) n.member (n.renewed.offer, since_of name n) n.listed) in
      let found = listed_one (λ m. MemberGoes x last old new m × (IsOwn dg old.world m × (has x.group.good m.slot ≡ true → IsHeadedAs dg old.world m))) (λ m. (o : Offer) × OffersSince x new.world m o) x.group.members
      (all_two (MemberGoes x last old new) (λ m. IsOwn dg old.world m × (has x.group.good m.slot ≡ true → IsHeadedAs dg old.world m)) (λ m. MemberGoes x last old new m × (IsOwn dg old.world m × (has x.group.good m.slot ≡ true → IsHeadedAs dg old.world m))) x.group.members (λ m a b. (a, b)) c.members
      (all_two (IsOwn dg old.world) (λ m. has x.group.good m.slot ≡ true → IsHeadedAs dg old.world m) (λ m. IsOwn dg old.world m × (has x.group.good m.slot ≡ true → IsHeadedAs dg old.world m)) x.group.members (λ m a b. (a, b)) r.own r.good))
      (subst (λ (ms : List Member). OneOffersSince x new.world ms) carriers some) in
      leads_by found.0 found.2.0 found.2.1.0 found.2.1.1 found.3.0 found.3.1

  -- ---- the chain

  slot_joined : (slot : ℕ) (name : Word) (e : Device) (j : JoinsAs x last old new name e) → IsHeaded dg new.world name slot e → slot ≡ j.member.slot
  slot_joined slot name e j h = one_slot dg dg new.world name slot j.member.slot e e h j.headed

  pub of_joiner : (slot : ℕ) (name : Word) (e : Device) (j : JoinsAs x last old new name e) → IsHeaded dg new.world name slot e → is_slot_of x.joiners slot ≡ true
  of_joiner slot name e j h = test_any (λ m. m.slot == slot) x.joiners (any_at (λ m. (m.slot == slot) ≡ true) x.joiners j.member (eq-eqb j.member.slot slot (sym (slot_joined slot name e j h))) j.listed)

  -- a slot that nobody had, and an offer named, nobody has
  still_missing : (name : Word) (place : ℕ) (o : Offer) → Offers dg old.world name place o → NamesMissing dg old.world o → NamesMissing dg new.world o
  still_missing name place o h gone = record {
    slot = gone.slot;
    names = gone.names;
    missing = λ other d k. elim (headed_back other gone.slot d k) [
      | inl was ↦ gone.missing other was.0 was.1
      | inr joins ↦ (r.vacant gone.slot (of_joiner gone.slot other d joins k)).unnamed name place o h gone.names
    ];
  }

  -- the device that is newer offers that still, or something newer yet
  still_newer : (o : Offer) → NamesNewer dg old.world o → NamesNewer dg new.world o
  still_newer o n = by (offers_fore n.name n.slot n.newer n.offers)
    where
      by : Offers dg new.world n.name n.slot n.newer ⊎ NewAt n.name → NamesNewer dg new.world o
      by (inl h) = record { name = n.name; slot = n.slot; newer = n.newer; offers = h; names = n.names; rises = n.rises }
      by (inr k) =
          let headed = headed_fore n.name n.slot n.offers.device n.offers.headed in
          let same : n.slot ≡ k.member.slot = new_slot n.name k n.slot headed.0 headed.1 in
          let low = r.newest n.name n.slot n.newer n.offers in
          let since = k.renewed.since in
          let rises = n.rises in
          record {
            name = n.name;
            slot = k.member.slot;
            newer = k.renewed.offer;
            offers = new_offers n.name k;
            names = subst (λ (s : ℕ). has o.good s ≡ true) same n.names;
            rises = omega arith;
          }

  -- the newest of old is so where nothing of the commit is offered, and else names a good disk that has turned
  still_newest : (name : Word) (slot : ℕ) (o : Offer) → Offers dg old.world name slot o → IsNewest dg old.world o → IsNewest dg new.world o ⊎ NamesNewer dg new.world o
  still_newest name slot o h newest = by none_or_newest
    where
      over : Leads x new.world → NamesNewer dg new.world o
      over l =
          let taken = r.taken name slot o h newest in
          let since = l.since in
          let same = taken.0 in
          record { name = l.member.device; slot = l.member.slot; newer = l.offer; offers = l.offers; names = subst (λ (g : ℕ). has g l.member.slot ≡ true) (sym taken.1) l.good; rises = omega arith }

      led : (other : Word) → NewAt other → (x.carriers ≡ x.group.members) ⊎ ((x.carriers ≡ x.joiners) × IsNew dg old.world) → NamesNewer dg new.world o
      led other n (inl members) = over (one_leads other n members)
      led other n (inr joiners) = absurd (joiners.1 name slot h.device h.headed)

      by : ((other : Word) → NewAt other → ⊥) ⊎ Newest → IsNewest dg new.world o ⊎ NamesNewer dg new.world o
      by (inl none) = inl (λ other place p k. elim (offers_back other place p k) [ inl was ↦ newest other place p was | inr n ↦ absurd (none other n) ])
      by (inr (other, t, top)) = inr (led other t r.carriers)

  chain_old : (name : Word) (slot : ℕ) (o : Offer) → Offers dg old.world name slot o → IsNewest dg old.world o ⊎ (NamesNewer dg old.world o ⊎ NamesMissing dg old.world o) → IsNewest dg new.world o ⊎ (NamesNewer dg new.world o ⊎ NamesMissing dg new.world o)
  chain_old name slot o h (inl newest) = elim (still_newest name slot o h newest) [ inl is ↦ inl is | inr n ↦ inr (inl n) ]
  chain_old name slot o h (inr (inl n)) = inr (inl (still_newer o n))
  chain_old name slot o h (inr (inr gone)) = inr (inr (still_missing name slot o h gone))

  -- one of the commit is the newest, or names the device of the newest
  chain_new : (name : Word) (n : NewAt name) → IsNewest dg new.world n.renewed.offer ⊎ NamesNewer dg new.world n.renewed.offer
  chain_new name n = by none_or_newest
    where
      whole : (other : Word) (t : NewAt other) → ((third : Word) (k : NewAt third) → sequence_at k ≤ sequence_at t) → sequence_at t ≤ sequence_at n → IsNewest dg new.world n.renewed.offer
      whole other t top least third place p k = elim (offers_back third place p k) [
        | inl was ↦ (let low = r.newest third place p was in let since = n.renewed.since in omega arith)
        | inr i ↦ (let same : p.sequence ≡ sequence_at i = ap (λ (q : Offer). q.sequence) (new_one third i place p k) in let up = top third i in omega arith)
      ]

      by : ((other : Word) → NewAt other → ⊥) ⊎ Newest → IsNewest dg new.world n.renewed.offer ⊎ NamesNewer dg new.world n.renewed.offer
      by (inl none) = absurd (none name n)
      by (inr (other, t, top)) = elim (cases_lt (sequence_at n) (sequence_at t)) [
        | inl below ↦ inr (record { name = other; slot = t.member.slot; newer = t.renewed.offer; offers = new_offers other t; names = (ordered name other n t).names (omega (arith, below)); rises = below })
        | inr least ↦ inl (whole other t top least)
      ]

  -- ---- all that is kept

  module _ (was : IsChained dg old.world) where
    chain : (name : Word) (slot : ℕ) (o : Offer) → Offers dg new.world name slot o → IsNewest dg new.world o ⊎ (NamesNewer dg new.world o ⊎ NamesMissing dg new.world o)
    chain name slot o h = by (offers_back name slot o h)
      where
        by : Offers dg old.world name slot o ⊎ NewAt name → IsNewest dg new.world o ⊎ (NamesNewer dg new.world o ⊎ NamesMissing dg new.world o)
        by (inl k) = chain_old name slot o k (was.chained name slot o k)
        by (inr n) = subst (λ (p : Offer). IsNewest dg new.world p ⊎ (NamesNewer dg new.world p ⊎ NamesMissing dg new.world p)) (sym (new_one name n slot o h)) (elim (chain_new name n) [ inl is ↦ inl is | inr newer ↦ inr (inl newer) ])

    apart : (slot : ℕ) (one other : Word) (d e : Device) → IsHeaded dg new.world one slot d → IsHeaded dg new.world other slot e → one ≡ other
    apart slot one other d e h k = by (headed_back one slot d h) (headed_back other slot e k)
      where
        by : ((d : Device) × IsHeaded dg old.world one slot d) ⊎ JoinsAs x last old new one d → ((e : Device) × IsHeaded dg old.world other slot e) ⊎ JoinsAs x last old new other e → one ≡ other
        by (inl a) (inl b) = was.apart slot one other a.0 b.0 a.1 b.1
        by (inl a) (inr j) = absurd ((r.vacant slot (of_joiner slot other e j k)).none one a.0 a.1)
        by (inr j) (inl b) = absurd ((r.vacant slot (of_joiner slot one d j h)).none other b.0 b.1)
        by (inr i) (inr j) =
            let same : i.member.slot ≡ j.member.slot = sym (slot_joined slot one d i h) ∙ slot_joined slot other e j k in
            sym i.at ∙ all_at (λ n. i.member.slot ≡ n.slot → i.member.device ≡ n.device) x.joiners j.member (all_at (λ m. AllOf (λ n. m.slot ≡ n.slot → m.device ≡ n.device) x.joiners) x.joiners i.member r.single i.listed) j.listed same ∙ j.at

    agree : (one other : Word) (slot place : ℕ) (o p : Offer) → Offers dg new.world one slot o → Offers dg new.world other place p → o.sequence ≡ p.sequence → (o.good ≡ p.good) × (o.text ≡ p.text)
    agree one other slot place o p h k same = by (offers_back one slot o h) (offers_back other place p k)
      where
        by : Offers dg old.world one slot o ⊎ NewAt one → Offers dg old.world other place p ⊎ NewAt other → (o.good ≡ p.good) × (o.text ≡ p.text)
        by (inl a) (inl b) = was.agree one other slot place o p a b same
        by (inl a) (inr n) =
            let low = r.newest one slot o a in
            let since = n.renewed.since in
            let new_is : p.sequence ≡ sequence_at n = ap (λ (q : Offer). q.sequence) (new_one other n place p k) in
            absurd (omega arith)
        by (inr n) (inl b) =
            let low = r.newest other place p b in
            let since = n.renewed.since in
            let new_is : o.sequence ≡ sequence_at n = ap (λ (q : Offer). q.sequence) (new_one one n slot o h) in
            absurd (omega arith)
        by (inr n) (inr i) =
            let a = new_one one n slot o h in
            let b = new_one other i place p k in
            let one_attempt : sequence_at n ≡ sequence_at i = sym (ap (λ (q : Offer). q.sequence) a) ∙ same ∙ ap (λ (q : Offer). q.sequence) b in (
              ap (λ (q : Offer). q.good) a ∙ (ordered one other n i).one one_attempt ∙ sym (ap (λ (q : Offer). q.good) b),
              ap (λ (q : Offer). q.text) a ∙ n.renewed.text ∙ sym i.renewed.text ∙ sym (ap (λ (q : Offer). q.text) b),
            )

    -- what is offered is old, with an older one, or its text is the commit's
    later : (one other : Word) (slot place : ℕ) (o p : Offer) → Offers dg new.world one slot o → Offers dg new.world other place p → o.sequence ≤ p.sequence → (Offers dg old.world one slot o × Offers dg old.world other place p) ⊎ (p.text ≡ x.text)
    later one other slot place o p h k up = by (offers_back one slot o h) (offers_back other place p k)
      where
        by : Offers dg old.world one slot o ⊎ NewAt one → Offers dg old.world other place p ⊎ NewAt other → (Offers dg old.world one slot o × Offers dg old.world other place p) ⊎ (p.text ≡ x.text)
        by a (inr n) = inr (ap (λ (q : Offer). q.text) (new_one other n place p k) ∙ n.renewed.text)
        by (inl a) (inl b) = inl (a, b)
        by (inr n) (inl b) =
            let low = r.newest other place p b in
            let since = n.renewed.since in
            let new_is : o.sequence ≡ sequence_at n = ap (λ (q : Offer). q.sequence) (new_one one n slot o h) in
            absurd (omega arith)

    -- the new configuration records each device that offers something, and each that an offer names
    slot_recorded : (name : Word) (slot : ℕ) (o : Offer) → Offers dg new.world name slot o → Records x.config slot
    slot_recorded name slot o h = elim (offers_back name slot o h) [
      | inl a ↦ r.offering name slot o a
      | inr n ↦ subst (λ (s : ℕ). Records x.config s) (sym (new_slot name n slot h.device h.headed)) (all_at (λ m. Records x.config m.slot) (parties x) n.member r.recorded n.listed)
    ]

    names_recorded : (name : Word) (slot : ℕ) (o : Offer) → Offers dg new.world name slot o → (n : ℕ) → has o.good n ≡ true → Records x.config n
    names_recorded name slot o h n is = elim (offers_back name slot o h) [
      | inl a ↦ r.named name slot o a n is
      | inr k ↦ r.written n (k.renewed.mask.few n (subst (λ (q : Offer). has q.good n ≡ true) (new_one name k slot o h) is))
    ]

    in_text : (slot : ℕ) (text : List ℕ) → text ≡ x.text → Records x.config slot → RecordsSlot slot text
    in_text slot text same is = subst (λ (t : List ℕ). RecordsSlot slot t) (sym same) (text_records x.config x.text c.text_is slot is)

    pub chained_on : IsChained dg new.world
    chained_on = record {
      apart = apart;
      chained = chain;
      agree = agree;
      offering = λ one other slot place o p h k up. elim (later one other slot place o p h k up) [
        | inl both ↦ was.offering one other slot place o p both.0 both.1 up
        | inr new_text ↦ in_text slot p.text new_text (slot_recorded one slot o h)
      ];
      named = λ one other slot place o p h k up n is. elim (later one other slot place o p h k up) [
        | inl both ↦ was.named one other slot place o p both.0 both.1 up n is
        | inr new_text ↦ in_text n p.text new_text (names_recorded one slot o h n is)
      ];
    }

  -- ---- other groups

  -- the devices of another group are let alone
  pub other_back : (other : Word) → (other ≡ dg → ⊥) → HadEach other old.world new.world
  other_back other differs name slot e h = by (fate x last old new c r name)
    where
      joined : (j : Joins x last old new name) → (header_of (j.after.contents 0) ≡ None) ⊎ JoinsAs x last old new name j.after → IsHeaded other old.world name slot e
      joined j (inl none) = never_some (header_of (j.after.contents 0)) h.label none (ap (λ (d : Device). header_of (d.contents 0)) (some_same j.after e (sym j.is ∙ h.device)) ∙ h.header)
      joined j (inr as_one) = absurd (differs (one_group other dg new.world name slot as_one.member.slot e j.after h as_one.headed))

      by : Fate x last old new name → IsHeaded other old.world name slot e
      by (inl same) = same_back other name slot e same h
      by (inr (inl k)) = absurd (differs (one_group other dg new.world name slot k.slot e k.after h (kept_after name k)))
      by (inr (inr j)) = joined j j.front

  other_fore : (other : Word) → (other ≡ dg → ⊥) → HasOrNone other old.world new.world
  other_fore other differs name slot d h = by (fate x last old new c r name)
    where
      by : Fate x last old new name → IsHeaded other new.world name slot d ⊎ HasNone other new.world name
      by (inl same) = inl (same_fore other name slot d same h)
      by (inr (inl k)) = absurd (differs (one_group other dg old.world name slot k.slot d k.before h k.headed))
      by (inr (inr j)) = never_some (header_of (j.before.contents 0)) h.label j.blank (ap (λ (e : Device). header_of (e.contents 0)) (some_same j.before d (sym j.was ∙ h.device)) ∙ h.header)

  -- the copies of each group stay chained
  pub sound_on : AreSound old.world → AreSound new.world
  sound_on sound other = elim (name_cases other dg) [
    | inl same ↦ subst (λ (g : Word). IsChained g new.world) (sym same) (chained_on (sound dg))
    | inr differ ↦
        let differs : other ≡ dg → ⊥ = λ same. not_both (ap (λ (n : Word). bytes_eq other n) (sym same) ∙ bytes_eq_self other) differ in
        chained_fewer other old.world new.world (other_back other differs) (other_fore other differs) (sound other)
  ]
