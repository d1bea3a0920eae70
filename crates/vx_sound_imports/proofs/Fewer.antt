-- Where devices lose their headers of a group, the volumes of its newest configuration are as sound, if no good disk is missing.
use Rattle.std.proofs.Common.{◌≡◌, ◌∙◌, ◌⊎◌, ℕ, true, Option, sym, ap, subst, inl, inr, arith}
use Rattle.vx_base.specs.Named.{Word}
use Rattle.vx_mask.specs.Mask.{has}
use Rattle.vx_copies.specs.Image.{Offer, offer_of}
use Rattle.vx_image.proofs.PlexMembers.{IsIn}
use Rattle.vx_image.specs.Soundness.{IsSoundImage}
use Rattle.vx_image.proofs.Members.{contains}
use Rattle.vx_moments.specs.World.{Device, Group, Member, World}
use Rattle.vx_moments.specs.Group.{public_of}
use Rattle.vx_sound.specs.Offers.{IsHeaded, Offers}
use Rattle.vx_sound.specs.Sound.{IsChained, IsNewest, NamesMissing, NamesNewer}
use Rattle.vx_sound.proofs.Fewer.{HadEach, offered}
use Rattle.vx_sound_volumes.proofs.Parts.{image_same, some_same}
use Rattle.vx_sound_volumes.specs.Volumes.{AreSoundOn}
use Rattle.vx_sound_imports.specs.Offered.{HasSoundOffer, IsReadAs}

-- what is read from the offers of one world is sound by these devices
abbrev pub AreReadSound : (Word → Option Device) → Word → World → Type 0
AreReadSound devices dg w = (name : Word) (slot : ℕ) (o : Offer) (g : Group) → Offers dg w name slot o → IsNewest dg w o → IsReadAs dg w o g → AreSoundOn devices g

module _ (dg : Word) (old new : World) (had : HadEach dg old new) (was : IsChained dg old) where
  -- a disk of a slot that the offer names
  record IsNamed (slot : ℕ) : Type 0 where
    device : Word
    disk : Device
    now : IsHeaded dg new device slot disk
    before : IsHeaded dg old device slot disk

  named_disk : (o : Offer) (g : Group) → IsReadAs dg new o g → (slot : ℕ) → has o.good slot ≡ true → IsNamed slot
  named_disk o g r slot names =
      let m = r.whole slot (ap (λ n. has n slot) r.good ∙ names) in
      let h = r.headed m.0 m.1 in
      let now = subst (λ s. IsHeaded dg new m.0.device s h.0) m.2 h.1 in
      record { device = m.0.device; disk = h.0; now = now; before = had m.0.device slot h.0 now }

  -- what is the newest now was the newest before
  pub newest_before : (name : Word) (slot : ℕ) (o : Offer) (g : Group) → Offers dg new name slot o → IsNewest dg new o → IsReadAs dg new o g → IsNewest dg old o
  newest_before name slot o g offers newest r = by (was.chained name slot o (offered dg old new had name slot o offers))
    where
      by : IsNewest dg old o ⊎ (NamesNewer dg old o ⊎ NamesMissing dg old o) → IsNewest dg old o
      by (inl is) = is
      by (inr (inr gone)) = let d = named_disk o g r gone.slot gone.names in absurd (gone.missing d.device d.disk d.before)
      by (inr (inl n)) =
          let d = named_disk o g r n.slot n.names in
          let name_is = was.apart n.slot d.device n.name d.disk n.offers.device d.before n.offers.headed in
          let same : d.disk ≡ n.offers.device = some_same d.disk n.offers.device (sym d.before.device ∙ ap (λ (x : Word). old.devices x) name_is ∙ n.offers.headed.device) in
          let offers : Offers dg new d.device n.slot n.newer = record { device = d.disk; headed = d.now; offer = ap (λ (x : Device). offer_of x.contents) same ∙ n.offers.offer } in
          let low = newest d.device n.slot n.newer offers in
          let rises = n.rises in
          absurd (omega arith)

  pub read_before : (o : Offer) (g : Group) → IsReadAs dg new o g → IsReadAs dg old o g
  read_before o g r = record {
    config = r.config;
    good = r.good;
    named = r.named;
    headed = λ m one. let h = r.headed m one in (h.0, had m.device m.slot h.0 h.1);
    whole = r.whole;
  }

  -- by whatever devices
  pub fewer_read : (devices : Word → Option Device) → AreReadSound devices dg old → AreReadSound devices dg new
  fewer_read devices sound name slot o g offers newest r = sound name slot o g (offered dg old new had name slot o offers) (newest_before name slot o g offers newest r) (read_before o g r)

  pub fewer_sound : HasSoundOffer dg old → HasSoundOffer dg new
  fewer_sound sound name slot o g offers newest r v there started =
      subst IsSoundImage (sym (image_same g old.devices new.devices same v)) (fewer_read old.devices sound name slot o g offers newest r v there started)
    where
      same : (m : Member) → IsIn g.members m → (k : ℕ) → public_of (new.devices m.device) k ≡ public_of (old.devices m.device) k
      same m one k = let h = r.headed m (contains g.members m one) in ap (λ o. public_of o k) (h.1.device ∙ sym (had m.device m.slot h.0 h.1).device)
