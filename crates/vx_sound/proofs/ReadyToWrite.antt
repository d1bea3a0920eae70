-- A group that has the newest configuration of its devices is ready to be written.
use Rattle.std.proofs.Common.{◌≡◌, ℕ, ◌≤◌, true, false, List, [], sym, ap, subst, inl, inr, arith}
use Rattle.vx_base.specs.Named.{Word}
use Rattle.vx_mask.specs.Mask.{has}
use Rattle.vx_mask.proofs.Tests.{not_both, or_cases}
use Rattle.vx_copies.specs.Image.{Offer}
use Rattle.vx_copies.specs.Lists.{AllOf}
use Rattle.vx_moments.specs.World.{World, Member, Group}
use Rattle.vx_moments.specs.Commit.{Writing, is_slot_of}
use Rattle.vx_sound.specs.Offers.{Offers}
use Rattle.vx_sound.specs.Sound.{IsNewest, IsChained}
use Rattle.vx_sound.specs.Standing.{IsOwn, Carries, IsLeading}
use Rattle.vx_sound.proofs.Configs.{Records}
use Rattle.vx_sound.proofs.Edits.{IsGrown}
use Rattle.vx_sound.proofs.Lists.{all_imp, all_from, all_join, one_of}
use Rattle.vx_sound.proofs.Ready.{IsReady, IsHeadedAs, IsBlank}

-- the group has the newest configuration of its devices, and that records them all
pub record IsLed (dg : Word) (w : World) (g : Group) : Type 0 where
  pub own : AllOf (IsOwn dg w) g.members
  pub good : AllOf (λ m. has g.good m.slot ≡ true → IsHeadedAs dg w m) g.members
  pub newest : (name : Word) (slot : ℕ) (o : Offer) → Offers dg w name slot o → o.sequence ≤ g.sequence
  pub taken : (name : Word) (slot : ℕ) (o : Offer) → Offers dg w name slot o → IsNewest dg w o → (o.sequence ≡ g.sequence) × (o.good ≡ g.good)
  pub recorded : AllOf (λ m. Records g.config m.slot) g.members
  pub masked : (n : ℕ) → has g.good n ≡ true → Records g.config n
  pub offering : (name : Word) (slot : ℕ) (o : Offer) → Offers dg w name slot o → Records g.config slot
  pub named : (name : Word) (slot : ℕ) (o : Offer) → Offers dg w name slot o → (n : ℕ) → has o.good n ≡ true → Records g.config n

-- ---- the imported group

module _ (w : World) (g : Group) (l : IsLeading w g) (was : IsChained g.config.group w) where
  abbrev dg : Word
  dg = g.config.group

  -- a good member, and what it offers
  carrier : (m : Member) × (has g.good m.slot ≡ true → Carries w g m) × (has g.good m.slot ≡ true)
  carrier = one_of (λ m. has g.good m.slot ≡ true → Carries w g m) (λ m. has g.good m.slot ≡ true) g.members l.carrying l.some

  first : Carries w g carrier.0
  first = carrier.1 carrier.2

  abbrev own_offer : Offer
  own_offer = record { sequence = g.sequence; good = g.good; text = first.text }

  pub led : IsLed dg w g
  led = record {
    own = l.own;
    good = all_imp (λ m. has g.good m.slot ≡ true → Carries w g m) (λ m. has g.good m.slot ≡ true → IsHeadedAs dg w m) g.members (λ m carries is. let h = (carries is).offers in (h.device, h.headed)) l.carrying;
    newest = l.newest;
    taken = λ name slot o h newest.
        let low = l.newest name slot o h in
        let high = newest carrier.0.device carrier.0.slot own_offer first.offers in
        let same : o.sequence ≡ g.sequence = omega arith in
        (same, (was.agree name carrier.0.device slot carrier.0.slot o own_offer h first.offers same).0);
    recorded = l.recorded;
    masked = λ n is. was.named carrier.0.device carrier.0.device carrier.0.slot carrier.0.slot own_offer own_offer first.offers first.offers (omega arith) n is g.config (inl first.text_is);
    offering = λ name slot o h. was.offering name carrier.0.device slot carrier.0.slot o own_offer h first.offers (l.newest name slot o h) g.config (inl first.text_is);
    named = λ name slot o h n is. was.named name carrier.0.device slot carrier.0.slot o own_offer h first.offers (l.newest name slot o h) n is g.config (inl first.text_is);
  }

-- ---- where none joins

module _ (x : Writing) (w : World) (l : IsLed x.group.config.group w x.group) (grown : IsGrown x.group.config x.config) where
  -- the same of the configuration that is written, which has the group's name
  pub led_on : IsLed x.config.group w x.group
  led_on = subst (λ (dg : Word). IsLed dg w x.group) (sym grown.group) l

  pub ready_alone : x.joiners ≡ [] → x.carriers ≡ x.group.members → IsReady x w
  ready_alone none carriers = record {
    own = led_on.own;
    good = led_on.good;
    blank = on_none (IsBlank w);
    newest = led_on.newest;
    taken = led_on.taken;
    recorded = all_join (λ m. Records x.config m.slot) x.group.members x.joiners (all_imp (λ m. Records x.group.config m.slot) (λ m. Records x.config m.slot) x.group.members (λ m is. grown.disks m.slot is) led_on.recorded) (on_none (λ m. Records x.config m.slot));
    written = λ slot is. elim (or_cases (has x.group.good slot) (is_slot_of x.joiners slot) is) [
      | inl good ↦ grown.disks slot (led_on.masked slot good)
      | inr joins ↦ absurd (no_slot slot joins)
    ];
    offering = λ name slot o h. grown.disks slot (led_on.offering name slot o h);
    named = λ name slot o h n is. grown.disks n (led_on.named name slot o h n is);
    vacant = λ slot joins. absurd (no_slot slot joins);
    apart = all_from (λ m. is_slot_of x.joiners m.slot ≡ false) x.group.members (λ m. ap (λ (ms : List Member). is_slot_of ms m.slot) none);
    single = on_none (λ m. AllOf (λ n. m.slot ≡ n.slot → m.device ≡ n.device) x.joiners);
    carriers = inl carriers;
  }
    where
      on_none : (P : Member → Type 0) → AllOf P x.joiners
      on_none P = subst (λ (ms : List Member). AllOf P ms) (sym none) tt

      no_slot : (slot : ℕ) → is_slot_of x.joiners slot ≡ true → ⊥
      no_slot slot joins = not_both joins (ap (λ (ms : List Member). is_slot_of ms slot) none)
