-- The group leads once its commit is done.
use Rattle.std.proofs.Common.{◌≡◌, ◌⊎◌, ℕ, ◌+◌, ◌≤◌, true, false, List, Option, Some, None, refl, sym, ◌∙◌, ap, subst, inl, inr, arith}
use Rattle.std.specs.Prelude.{MatchOption, replicate}
use Rattle.vx_base.specs.Named.{Word}
use Rattle.vx_mask.specs.Mask.{has}
use Rattle.vx_mask.proofs.Tests.{true_or_false, not_both, or_cases}
use Rattle.vx_header.specs.Named.{Label, header_of}
use Rattle.vx_header.specs.Said.{Said}
use Rattle.vx_copies.specs.Image.{Offer, offer_by, offer_of}
use Rattle.vx_copies.specs.Lists.{AllOf, AnyOf}
use Rattle.vx_moments.specs.World.{Device, Member, Group}
use Rattle.vx_moments.specs.Moment.{Moment}
use Rattle.vx_moments.specs.Copies.{label_of, IsTurned, IsCurrent}
use Rattle.vx_moments.specs.Commit.{Writing, parties, IsMaskOf, MemberGoes, JoinerGoes, is_slot_of, IsCommitting, IsCommitted, IsCarrying}
use Rattle.vx_moments.specs.Commit.{IsHeaded as IsLabelled}
use Rattle.vx_sound.specs.Offers.{IsHeaded, Offers}
use Rattle.vx_sound.specs.Standing.{IsOwn, Carries, IsLeading}
use Rattle.vx_sound.proofs.Headers.{some_same, never_some}
use Rattle.vx_sound.proofs.Lists.{all_two, all_join, all_left, all_right, any_left, any_right}
use Rattle.vx_sound.proofs.Ready.{IsReady, IsHeadedAs, IsBlank}
use Rattle.vx_sound.proofs.DevicesAfterCommit.{lent_before, header_stays, text_back}
use Rattle.vx_sound.proofs.CommitSteps.{headed_fore, offers_back, new_one}

matched : {X : Type 0} (o : Option X) (x : X) (P : X → Type 0) → o ≡ Some x → MatchOption o ⊥ P → P x
matched o x P is h = subst (λ (p : Option _). MatchOption p ⊥ P) is h

label_after : (dg : Word) (m : Member) (d e : Device) → e.sectors ≡ d.sectors → label_of dg m d ≡ label_of dg m e
label_after dg m d e same = ap (λ (n : ℕ). record (label_of dg m d) { sectors = n }) (sym same)

module _ (x : Writing) (last : ℕ) (old new : Moment) (c : IsCommitting x last old new) (r : IsReady x old.world) where
  abbrev dg : Word
  dg = x.config.group

  own_member : (m : Member) → MemberGoes x last old new m → IsOwn dg old.world m → IsOwn dg new.world m
  own_member m goes own = by (true_or_false (has x.group.good m.slot))
    where
      by : (has x.group.good m.slot ≡ true) ⊎ (has x.group.good m.slot ≡ false) → IsOwn dg new.world m
      by (inr idle) = record { device = own.device; is = goes.idle idle ∙ own.is; apart = λ lent. own.apart (lent_before x last old new c m.device lent); header = own.header }
      by (inl is) =
          let went = goes.good is in
          let here : own.device ≡ went.before = some_same own.device went.before (sym own.is ∙ went.was) in
          record {
            device = went.after;
            is = went.is;
            apart = λ lent. own.apart (lent_before x last old new c m.device lent);
            header = λ label header.
                own.header label (ap (λ (d : Device). header_of (d.contents 0)) here ∙ ap header_of (sym (header_stays x.text went.before.contents went.after.contents went.goes.only)) ∙ header)
                ∙ label_after dg m own.device went.after (went.sectors ∙ ap (λ (d : Device). d.sectors) (sym here));
          }

  own_joiner : (m : Member) → JoinerGoes x last old new m → IsBlank old.world m → IsOwn dg new.world m
  own_joiner m went is = record {
    device = went.after;
    is = went.is;
    apart = λ lent. is.apart (lent_before x last old new c m.device lent);
    header = λ label header. by label header went.goes.front;
  }
    where
      blank : header_of (went.before.contents 0) ≡ None
      blank = is.blank went.before went.was

      by : (label : Label) → header_of (went.after.contents 0) ≡ Some label → ((k : ℕ) → went.after.contents k ≡ went.before.contents k)
          ⊎ (((went.after.contents 0 ≡ went.before.contents 0) × (went.after.contents 1 ≡ replicate 512 0))
          ⊎ ((header_of (went.after.contents 0) ≡ Some (label_of dg m went.before)) × ((went.after.contents 1 ≡ replicate 512 0) ⊎ IsTurned (x.group.sequence + 1) last (IsMaskOf x old.counts new.counts) x.text went.after.contents)))
          → label ≡ label_of dg m went.after
      by label header (inl same) = never_some (header_of (went.before.contents 0)) label blank (ap header_of (sym (same 0)) ∙ header)
      by label header (inr (inl (same, zero))) = never_some (header_of (went.before.contents 0)) label blank (ap header_of (sym same) ∙ header)
      by label header (inr (inr (own, rest))) = some_same label (label_of dg m went.before) (sym header ∙ own) ∙ label_after dg m went.before went.after went.sectors

  pub own_all : AllOf (IsOwn dg new.world) (parties x)
  own_all = all_join (IsOwn dg new.world) x.group.members x.joiners
      (all_two (MemberGoes x last old new) (IsOwn dg old.world) (IsOwn dg new.world) x.group.members own_member c.members r.own)
      (all_two (JoinerGoes x last old new) (IsBlank old.world) (IsOwn dg new.world) x.joiners own_joiner c.joiners r.blank)

module _ (x : Writing) (old new : Moment) (d : IsCommitted x old new) (r : IsReady x old.world) where
  abbrev group : Group
  group = record { config = x.config; good = d.good; members = parties x; sequence = d.last }

  abbrev dg' : Word
  dg' = x.config.group

  carries_by : (m : Member) → IsOwn dg' new.world m → IsCarrying x d.last d.good new.world m → has d.good m.slot ≡ true → ((e : Device) → new.world.devices m.device ≡ Some e → IsHeaded dg' new.world m.device m.slot e) → Carries new.world group m
  unfolding offer_of
  carries_by m own carrying is headed =
      let current : IsCurrent d.last d.good x.text own.device.contents = matched (new.world.devices m.device) own.device (λ e. IsCurrent d.last d.good x.text e.contents) own.is (carrying is) in
      record {
        text = x.text;
        text_is = d.committing.text_is;
        offers = record {
          device = own.device;
          headed = headed own.device own.is;
          offer = ap (λ (t : Option Said). offer_by t own.device.contents) current.says ∙ ap (λ (t : List ℕ). Some (record { sequence = d.last; good = d.good; text = t })) (text_back x.text current.half own.device.contents current.holds);
        };
      }

  member_carries : (m : Member) → IsOwn dg' new.world m × IsCarrying x d.last d.good new.world m → (has x.group.good m.slot ≡ true → IsHeadedAs dg' old.world m) × (is_slot_of x.joiners m.slot ≡ false) → has d.good m.slot ≡ true → Carries new.world group m
  member_carries m known was is = carries_by m known.0 known.1 is (λ e at. by e at (or_cases (has x.group.good m.slot) (is_slot_of x.joiners m.slot) (d.mask.few m.slot is)))
    where
      by : (e : Device) → new.world.devices m.device ≡ Some e → (has x.group.good m.slot ≡ true) ⊎ (is_slot_of x.joiners m.slot ≡ true) → IsHeaded dg' new.world m.device m.slot e
      by e at (inr joins) = not_both joins was.1
      by e at (inl good) =
          let before = was.0 good in
          let after = headed_fore x d.last old new d.committing r m.device m.slot before.0 before.1 in
          subst (λ (f : Device). IsHeaded dg' new.world m.device m.slot f) (some_same after.0 e (sym after.1.device ∙ at)) after.1

  joiner_carries : (m : Member) → IsOwn dg' new.world m × IsCarrying x d.last d.good new.world m → IsLabelled x d.good new.world m → has d.good m.slot ≡ true → Carries new.world group m
  joiner_carries m known labelled is = carries_by m known.0 known.1 is (λ e at. record {
    device = at;
    apart = known.0.apart;
    label = label_of dg' m e;
    header = matched (new.world.devices m.device) e (λ f. header_of (f.contents 0) ≡ Some (label_of dg' m f)) at (labelled is);
    group = refl;
    slot_is = refl;
    size = refl;
  })

  known_all : AllOf (λ m. IsOwn dg' new.world m × IsCarrying x d.last d.good new.world m) (parties x)
  known_all = all_two (IsOwn dg' new.world) (IsCarrying x d.last d.good new.world) (λ m. IsOwn dg' new.world m × IsCarrying x d.last d.good new.world m) (parties x) (λ m a b. (a, b)) (own_all x d.last old new d.committing r) d.carrying

  carrying_all : AllOf (λ m. has d.good m.slot ≡ true → Carries new.world group m) (parties x)
  carrying_all = all_join (λ m. has d.good m.slot ≡ true → Carries new.world group m) x.group.members x.joiners
      (all_two (λ m. IsOwn dg' new.world m × IsCarrying x d.last d.good new.world m) (λ m. (has x.group.good m.slot ≡ true → IsHeadedAs dg' old.world m) × (is_slot_of x.joiners m.slot ≡ false)) (λ m. has d.good m.slot ≡ true → Carries new.world group m) x.group.members member_carries
      (all_left (λ m. IsOwn dg' new.world m × IsCarrying x d.last d.good new.world m) x.group.members x.joiners known_all)
      (all_two (λ m. has x.group.good m.slot ≡ true → IsHeadedAs dg' old.world m) (λ m. is_slot_of x.joiners m.slot ≡ false) (λ m. (has x.group.good m.slot ≡ true → IsHeadedAs dg' old.world m) × (is_slot_of x.joiners m.slot ≡ false)) x.group.members (λ m a b. (a, b)) r.good r.apart))
      (all_two (λ m. IsOwn dg' new.world m × IsCarrying x d.last d.good new.world m) (IsLabelled x d.good new.world) (λ m. has d.good m.slot ≡ true → Carries new.world group m) x.joiners joiner_carries
      (all_right (λ m. IsOwn dg' new.world m × IsCarrying x d.last d.good new.world m) x.group.members x.joiners known_all) d.headed)

  newest_of : (name : Word) (slot : ℕ) (o : Offer) → Offers dg' new.world name slot o → o.sequence ≤ d.last
  newest_of name slot o h = elim (offers_back x d.last old new d.committing r name slot o h) [
    | inl was ↦ (let low = r.newest name slot o was in let rose = d.rose in omega arith)
    | inr n ↦ subst (λ (p : Offer). p.sequence ≤ d.last) (sym (new_one x d.last old new d.committing r name n slot o h)) n.renewed.up_to
  ]

  pub leading_on : IsLeading new.world group
  leading_on = record {
    own = own_all x d.last old new d.committing r;
    carrying = carrying_all;
    newest = newest_of;
    some = elim r.carriers [
      | inl members ↦ any_left (λ m. has d.good m.slot ≡ true) x.group.members x.joiners (subst (λ (ms : List Member). AnyOf (λ m. has d.good m.slot ≡ true) ms) members d.some)
      | inr joiners ↦ any_right (λ m. has d.good m.slot ≡ true) x.group.members x.joiners (subst (λ (ms : List Member). AnyOf (λ m. has d.good m.slot ≡ true) ms) joiners.0 d.some)
    ];
    recorded = r.recorded;
  }
