-- What the devices of the imported group offer is its configuration, whose volumes are sound where its own are.
use Rattle.std.proofs.Common.{◌≡◌, ◌∙◌, ℕ, true, Option, sym, subst, arith}
use Rattle.vx_base.specs.Named.{Word}
use Rattle.vx_mask.specs.Mask.{has}
use Rattle.vx_copies.specs.Image.{Offer}
use Rattle.vx_copies.specs.Lists.{AnyOf}
use Rattle.vx_image.proofs.Members.{contains, is_in}
use Rattle.vx_moments.specs.World.{Device, Group, Member, World}
use Rattle.vx_moments.specs.Group.{sectors_of}
use Rattle.vx_sound.specs.Offers.{IsHeaded, Offers}
use Rattle.vx_sound.specs.Sound.{IsChained, IsConfigOf, IsNewest}
use Rattle.vx_sound.specs.Standing.{Carries, IsLeading}
use Rattle.vx_sound.proofs.Lists.{listed_one}
use Rattle.vx_readings.specs.Readings.{HaveSameRecords}
use Rattle.vx_readings.proofs.Images.{reading_sound}
use Rattle.vx_readings.proofs.Texts.{one_reading, vol_there}
use Rattle.vx_sound_volumes.specs.Volumes.{AreSoundOn}
use Rattle.vx_sound_volumes.proofs.Commits.{vol_of}
use Rattle.vx_sound_imports.specs.Offered.{IsReadAs, IsWholeGroup}
use Rattle.vx_sound_imports.proofs.Fewer.{AreReadSound}
use Rattle.vx_sound_imports.proofs.Slots.{AreHeadedIn, each_of, same_slot}

-- the members that are read have headers, in each slot
pub read_headed : (dg : Word) (w : World) (o : Offer) (g : Group) → IsReadAs dg w o g → (slot : ℕ) → AreHeadedIn dg w g.members slot
read_headed dg w o g r slot m one is = let h = r.headed m (contains g.members m one) in (h.0, subst (λ s. IsHeaded dg w m.device s h.0) is h.1)

module _ (w : World) (g : Group) (l : IsLeading w g) (was : IsChained g.config.group w) (whole : IsWholeGroup g) where
  abbrev dg : Word
  dg = g.config.group

  -- a good member, and what it offers
  pub carrier : (m : Member) × AnyOf (λ n. n ≡ m) g.members × (has g.good m.slot ≡ true → Carries w g m) × (has g.good m.slot ≡ true)
  carrier = listed_one (λ m. has g.good m.slot ≡ true → Carries w g m) (λ m. has g.good m.slot ≡ true) g.members l.carrying l.some

  pub first : Carries w g carrier.0
  first = carrier.2 carrier.3

  abbrev own_offer : Offer
  own_offer = record { sequence = g.sequence; good = g.good; text = first.text }

  -- what is the newest of them has the mask and the text of the group
  pub newest_is : (name : Word) (slot : ℕ) (o : Offer) → Offers dg w name slot o → IsNewest dg w o → (o.good ≡ g.good) × (o.text ≡ first.text)
  newest_is name slot o offers newest =
      let low = l.newest name slot o offers in
      let high = newest carrier.0.device carrier.0.slot own_offer first.offers in
      let same : o.sequence ≡ g.sequence = omega arith in
      was.agree name carrier.0.device slot carrier.0.slot o own_offer offers first.offers same

  pub own_headed : (slot : ℕ) → has g.good slot ≡ true → AreHeadedIn dg w g.members slot
  own_headed slot good m one is =
      let c = each_of (λ m. has g.good m.slot ≡ true → Carries w g m) g.members l.carrying m one (subst (λ s. has g.good s ≡ true) (sym is) good) in
      (c.offers.device, subst (λ s. IsHeaded dg w m.device s c.offers.device) is c.offers.headed)

  pub leading_read : (devices : Word → Option Device) → AreSoundOn devices g → AreReadSound devices dg w
  leading_read devices sound name slot o h offers newest r v there started =
      let known = newest_is name slot o offers newest in
      let records : HaveSameRecords g.config h.config = one_reading g.config h.config first.text first.text_is (subst (λ t. IsConfigOf t h.config) known.1 r.config) in
      let here = vol_there g.config h.config records v there in
      reading_sound g.config h.config v g.good h.good (sectors_of devices g.members) (sectors_of devices h.members) (vol_of g.config v (is_in g.config.volumes v here)) records
      (record {
        good = λ place of is. was_good place.disk is;
        same = λ place of is. same place.disk (was_good place.disk is) is place.sector;
      })
      (sound v here started)
    where
      was_good : (disk : ℕ) → has h.good disk ≡ true → has g.good disk ≡ true
      was_good disk is = subst (λ n. has n disk ≡ true) (r.good ∙ (newest_is name slot o offers newest).0) is

      same : (disk : ℕ) → has g.good disk ≡ true → has h.good disk ≡ true → (k : ℕ) → sectors_of devices h.members disk k ≡ sectors_of devices g.members disk k
      same disk good is =
          let m = whole disk good in
          let n = r.whole disk is in
          same_slot dg w was devices g.members h.members disk (own_headed disk good) (read_headed dg w o h r disk) m.0 (is_in g.members m.0 m.1) m.2 n.0 (is_in h.members n.0 n.1) n.2
