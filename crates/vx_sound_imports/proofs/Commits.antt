-- What devices offer of a group as a commit of it ends: the old configuration or the new one, of which each has sound volumes.
use Rattle.std.proofs.Common.{◌≡◌, ◌∙◌, ℕ, ◌+◌, true, false, List, Option, sym, ap, subst, inl, inr, arith}
use Rattle.std.specs.Prelude.{Contains}
use Rattle.vx_base.specs.Blocks.{Contents}
use Rattle.vx_base.specs.Named.{Word}
use Rattle.vx_mask.specs.Mask.{has}
use Rattle.vx_mask.proofs.Tests.{or_cases}
use Rattle.vx_copies.specs.Image.{Offer}
use Rattle.vx_copies.specs.Written.{in_both}
use Rattle.vx_confdb.specs.Enlisted.{BehindOldOrText}
use Rattle.vx_layout.specs.declared.place.Place.{Place}
use Rattle.vx_config_parts.specs.declared.vol.Vol.{Vol}
use Rattle.vx_image.proofs.PlexMembers.{IsIn}
use Rattle.vx_image.specs.Bytes.{image_of}
use Rattle.vx_image.specs.Own.{IsOfVolume}
use Rattle.vx_image.specs.Soundness.{IsSoundImage}
use Rattle.vx_image.proofs.Members.{is_in}
use Rattle.vx_state_edits.specs.Edits.{is_new}
use Rattle.vx_moments.specs.Commit.{IsCommitting, JoinerGoes, Writing, is_slot_of, is_written_slot, parties}
use Rattle.vx_moments.specs.Moment.{Moment}
use Rattle.vx_moments.specs.World.{Device, Group, Member}
use Rattle.vx_moments.specs.Group.{public_of, sectors_of}
use Rattle.vx_sound.specs.Offers.{IsHeaded, Offers}
use Rattle.vx_sound.specs.Sound.{AreSound, IsConfigOf, IsNewest}
use Rattle.vx_sound.proofs.CommitSteps.{headed_back, headed_fore, new_offers, new_one, of_joiner, offers_back, offers_fore, sound_on}
use Rattle.vx_sound.proofs.DevicesAfterCommit.{RenewedAt, same_or_not}
use Rattle.vx_sound.proofs.Lists.{any_or_none, any_split}
use Rattle.vx_sound.proofs.Ready.{IsHeadedAs, IsReady}
use Rattle.vx_readings.specs.Readings.{HaveSameRecords}
use Rattle.vx_readings.proofs.Images.{reading_sound}
use Rattle.vx_readings.proofs.Texts.{one_reading, vol_there}
use Rattle.vx_sound_volumes.proofs.Commits.{member_public, text_behind, vol_of}
use Rattle.vx_sound_volumes.proofs.Devices.{some_member}
use Rattle.vx_sound_imports.specs.Offered.{HasSoundOffer, IsReadAs, IsWholeGroup}
use Rattle.vx_sound_imports.proofs.Fewer.{AreReadSound}
use Rattle.vx_sound_imports.proofs.Leading.{read_headed}
use Rattle.vx_sound_imports.proofs.Slots.{AreHeadedIn, each_of, same_slot}

-- the slots are written by the commit
abbrev pub AreWritten : Writing → ℕ → Type 0
AreWritten x good = (slot : ℕ) → has good slot ≡ true → is_written_slot x slot ≡ true

-- Each volume of the configuration that is written is sound by these devices, whichever of the disks that are written stay good.
abbrev pub IsNextSound : Writing → (Word → Option Device) → Type 0
IsNextSound x devices = (good : ℕ) → AreWritten x good → (v : Vol) → Contains x.config.volumes v → is_new v.state ≡ false → IsSoundImage (image_of x.config good (sectors_of devices x.group.members) v)

-- none of its volumes that was started before has a sector on a disk that joins
abbrev pub IsFar : Writing → Type 0
IsFar x = (v : Vol) → Contains x.config.volumes v → is_new v.state ≡ false → (place : Place) → IsOfVolume x.config v.name place → is_slot_of x.joiners place.disk ≡ true → ⊥

-- what is written of a disk that joins lies before its public region
entered_behind : (text : List ℕ) → (old new : Contents) → BehindOldOrText text old new → ((k : ℕ) → in_both text old (2048 + k) ≡ old (2048 + k)) → (k : ℕ) → new (2048 + k) ≡ old (2048 + k)
entered_behind text old new only same k = elim (only (2048 + k) (omega arith)) [ inl is ↦ is | inr is ↦ is ∙ same k ]

module _ (x : Writing) (last : ℕ) (old new : Moment) (c : IsCommitting x last old new) where
  joiner_public : (m : Member) → IsIn x.joiners m → (k : ℕ) → public_of (new.world.devices m.device) k ≡ public_of (old.world.devices m.device) k
  joiner_public m one k =
      let d = each_of (JoinerGoes x last old new) x.joiners c.joiners m one in
      ap (λ o. public_of o k) d.is ∙ entered_behind x.text d.before.contents d.after.contents d.goes.behind (text_behind x.text c.short d.before.contents) k ∙ ap (λ o. public_of o k) (sym d.was)

  -- the commit changes no public region
  pub public_stays : (name : Word) (k : ℕ) → public_of (new.world.devices name) k ≡ public_of (old.world.devices name) k
  public_stays name k = elim (any_or_none (λ m. m.device ≡ name) (parties x) (λ m. same_or_not m.device name)) [
    | inr none ↦ ap (λ o. public_of o k) (c.others name none)
    | inl some ↦ elim (any_split (λ m. m.device ≡ name) x.group.members x.joiners some) [
      | inl any ↦ let m = some_member x.group.members name any in subst (λ n. public_of (new.world.devices n) k ≡ public_of (old.world.devices n) k) m.2 (member_public x last old new c m.0 m.1 k)
      | inr any ↦ let m = some_member x.joiners name any in subst (λ n. public_of (new.world.devices n) k ≡ public_of (old.world.devices n) k) m.2 (joiner_public m.0 m.1 k)
    ]
  ]

module _ (x : Writing) (last : ℕ) (old new : Moment) (c : IsCommitting x last old new) (r : IsReady x old.world) (sound : AreSound old.world) (whole : IsWholeGroup x.group) where
  abbrev dg : Word
  dg = x.config.group

  module _ (name : Word) (slot : ℕ) (o : Offer) (g : Group) (offers : Offers dg new.world name slot o) (newest : IsNewest dg new.world o) (read : IsReadAs dg new.world o g) where
    -- ---- the old configuration

    module _ (was : Offers dg old.world name slot o) where
      pub newest_old : IsNewest dg old.world o
      newest_old other place p before = elim (offers_fore x last old new c r other place p before) [
        | inl still ↦ newest other place p still
        | inr n ↦
            let high = newest other n.member.slot n.renewed.offer (new_offers x last old new c r other n) in
            let low = r.newest name slot o was in
            let since = n.renewed.since in
            absurd (omega arith)
      ]

      -- a good disk does not join
      old_headed : (m : Member) → Contains g.members m → (d : Device) × IsHeaded dg old.world m.device m.slot d
      old_headed m one =
          let h = read.headed m one in
          elim (headed_back x last old new c r m.device m.slot h.0 h.1) [
            | inl before ↦ before
            | inr joins ↦
                let joined = of_joiner x last old new c r m.slot m.device h.0 joins h.1 in
                absurd ((r.vacant m.slot joined).unnamed name slot o was (subst (λ n. has n m.slot ≡ true) read.good (read.named m one)))
          ]

      pub read_old : IsReadAs dg old.world o g
      read_old = record {
        config = read.config;
        good = read.good;
        named = read.named;
        headed = old_headed;
        whole = read.whole;
      }

    -- ---- the new configuration

    module _ (n : RenewedAt x last old new name) where
      is : o ≡ n.renewed.offer
      is = new_one x last old new c r name n slot o offers

      pub records : HaveSameRecords x.config g.config
      records = one_reading x.config g.config x.text c.text_is (subst (λ t. IsConfigOf t g.config) (ap (λ (p : Offer). p.text) is ∙ n.renewed.text) read.config)

      pub few : AreWritten x g.good
      few disk good = n.renewed.mask.few disk (subst (λ m. has m disk ≡ true) (read.good ∙ ap (λ (p : Offer). p.good) is) good)

      -- the good members of the group have their headers still
      still_headed : (disk : ℕ) → has x.group.good disk ≡ true → AreHeadedIn dg new.world x.group.members disk
      still_headed disk good m one at =
          let before : IsHeadedAs dg old.world m = each_of (λ m. has x.group.good m.slot ≡ true → IsHeadedAs dg old.world m) x.group.members r.good m one (subst (λ s. has x.group.good s ≡ true) (sym at) good) in
          let after = headed_fore x last old new c r m.device m.slot before.0 before.1 in
          (after.0, subst (λ s. IsHeaded dg new.world m.device s after.0) at after.1)

      same : (disk : ℕ) → has x.group.good disk ≡ true → has g.good disk ≡ true → (k : ℕ) → sectors_of new.world.devices g.members disk k ≡ sectors_of new.world.devices x.group.members disk k
      same disk good now =
          let m = whole disk good in
          let i = read.whole disk now in
          same_slot dg new.world (sound_on x last old new c r sound dg) new.world.devices x.group.members g.members disk (still_headed disk good) (read_headed dg new.world o g read disk)
          m.0 (is_in x.group.members m.0 m.1) m.2 i.0 (is_in g.members i.0 i.1) i.2

      pub on_disk : (v : Vol) → Contains x.config.volumes v → is_new v.state ≡ false → IsFar x → (place : Place) → IsOfVolume x.config v.name place → has g.good place.disk ≡ true → sectors_of new.world.devices g.members place.disk place.sector ≡ sectors_of new.world.devices x.group.members place.disk place.sector
      on_disk v there started far place of now = elim (or_cases (has x.group.good place.disk) (is_slot_of x.joiners place.disk) (few place.disk now)) [
        | inl good ↦ same place.disk good now place.sector
        | inr joins ↦ absurd (far v there started place of joins)
      ]

      new_sound : IsNextSound x new.world.devices → IsFar x → (v : Vol) → Contains g.config.volumes v → is_new v.state ≡ false → IsSoundImage (image_of g.config g.good (sectors_of new.world.devices g.members) v)
      new_sound next far v there started =
          let here = vol_there x.config g.config records v there in
          reading_sound x.config g.config v g.good g.good (sectors_of new.world.devices x.group.members) (sectors_of new.world.devices g.members) (vol_of x.config v (is_in x.config.volumes v here)) records
          (record { good = λ place of now. now; same = on_disk v here started far })
          (next g.good few v here started)

  pub commit_offers : AreReadSound new.world.devices dg old.world → IsNextSound x new.world.devices → IsFar x → HasSoundOffer dg new.world
  commit_offers before next far name slot o g offers newest read v there started = elim (offers_back x last old new c r name slot o offers) [
    | inl was ↦ before name slot o g was (newest_old name slot o g offers newest read was) (read_old name slot o g offers newest read was) v there started
    | inr n ↦ new_sound name slot o g offers newest read n next far v there started
  ]
