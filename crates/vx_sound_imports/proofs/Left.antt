-- What devices offer of a group stands for a volume as the group's own configuration does, and as the one does that a commit writes.
use Rattle.std.proofs.Common.{◌≡◌, ◌∙◌, ℕ, true, false, Option, sym, ap, subst, inl, inr}
use Rattle.std.specs.Prelude.{Contains}
use Rattle.vx_life.specs.Candidates.{Candidates}
use Rattle.vx_base.specs.Named.{Word}
use Rattle.vx_mask.specs.Mask.{has}
use Rattle.vx_config_parts.specs.declared.vol.Vol.{Vol}
use Rattle.vx_copies.specs.Image.{Offer}
use Rattle.vx_image.specs.Bytes.{image_of}
use Rattle.vx_image.specs.Image.{Image}
use Rattle.vx_image.proofs.Members.{contains, is_in}
use Rattle.vx_image.proofs.PlexMembers.{IsIn}
use Rattle.vx_state_edits.specs.Edits.{is_new}
use Rattle.vx_moments.specs.Commit.{IsCommitting, Writing}
use Rattle.vx_moments.specs.Group.{image_on, public_of, sectors_of}
use Rattle.vx_moments.specs.Moment.{Moment}
use Rattle.vx_moments.specs.World.{Device, Group, Member, World}
use Rattle.vx_readings.specs.Readings.{HaveSameRecords}
use Rattle.vx_readings.proofs.Images.{less_image}
use Rattle.vx_readings.proofs.Texts.{one_reading, vol_there}
use Rattle.vx_sound.specs.Offers.{Offers}
use Rattle.vx_sound.specs.Sound.{AreSound, IsChained, IsConfigOf, IsNewest}
use Rattle.vx_sound.specs.Standing.{IsLeading}
use Rattle.vx_sound.proofs.CommitSteps.{offers_back}
use Rattle.vx_sound.proofs.DevicesAfterCommit.{RenewedAt}
use Rattle.vx_sound.proofs.Fewer.{HadEach, offered}
use Rattle.vx_sound.proofs.Ready.{IsReady}
use Rattle.vx_sound_volumes.proofs.Commits.{vol_of}
use Rattle.vx_sound_volumes.proofs.Parts.{image_same}
use Rattle.vx_sound_imports.specs.Left.{HoldWithin, IsLeft, LiesWithin}
use Rattle.vx_sound_imports.specs.Offered.{IsReadAs, IsWholeGroup}
use Rattle.vx_sound_imports.proofs.Commits.{AreWritten, IsFar, few, newest_old, on_disk, read_old, records}
use Rattle.vx_sound_imports.proofs.Counted.{reading_plexes}
use Rattle.vx_sound_imports.proofs.Fewer.{newest_before, read_before}
use Rattle.vx_sound_imports.proofs.Kept.{fewer_within, some_blocks}
use Rattle.vx_sound_imports.proofs.Leading.{first, newest_is, own_headed, read_headed}
use Rattle.vx_sound_imports.proofs.Slots.{same_slot}

-- what is read from the offers of one world stands so by these devices
abbrev pub AreReadAs : (Word → Option Device) → Word → World → Word → Candidates → Type 0
AreReadAs devices dg w name u = (device : Word) (slot : ℕ) (o : Offer) (g : Group) → Offers dg w device slot o → IsNewest dg w o → IsReadAs dg w o g → HoldWithin devices g name u

-- ---- the imported group leads

module _ (w : World) (g : Group) (l : IsLeading w g) (was : IsChained g.config.group w) (whole : IsWholeGroup g) (name : Word) (u : Candidates) (devices : Word → Option Device) where
  pub leading_as : HoldWithin devices g name u → AreReadAs devices g.config.group w name u
  leading_as stands device slot o h offers newest r v one named started =
      let known = newest_is w g l was whole device slot o offers newest in
      let text = first w g l was whole in
      let same : HaveSameRecords g.config h.config = one_reading g.config h.config text.text text.text_is (subst (λ t. IsConfigOf t h.config) known.1 r.config) in
      let here = vol_there g.config h.config same v one in
      fewer_within (image_on devices g v) (image_on devices h v)
      (less_image g.config h.config v g.good h.good (sectors_of devices g.members) (sectors_of devices h.members) same
      (record { good = λ place of is. was_good place.disk is; same = λ place of is. same_disk place.disk (was_good place.disk is) is place.sector }))
      (reading_plexes g.config h.config v g.good h.good (sectors_of devices g.members) (sectors_of devices h.members) same)
      (some_blocks g.config v (vol_of g.config v (is_in g.config.volumes v here))) u started (stands v here named started)
    where
      was_good : (disk : ℕ) → has h.good disk ≡ true → has g.good disk ≡ true
      was_good disk is = subst (λ n. has n disk ≡ true) (r.good ∙ (newest_is w g l was whole device slot o offers newest).0) is

      same_disk : (disk : ℕ) → has g.good disk ≡ true → has h.good disk ≡ true → (k : ℕ) → sectors_of devices h.members disk k ≡ sectors_of devices g.members disk k
      same_disk disk good is =
          let m = whole disk good in
          let n = r.whole disk is in
          same_slot g.config.group w was devices g.members h.members disk (own_headed w g l was whole disk good) (read_headed g.config.group w o h r disk) m.0 (is_in g.members m.0 m.1) m.2 n.0 (is_in h.members n.0 n.1) n.2

-- ---- headers that go

module _ (dg : Word) (old new : World) (had : HadEach dg old new) (was : IsChained dg old) (name : Word) (u : Candidates) where
  -- by whatever devices
  pub fewer_as : (devices : Word → Option Device) → AreReadAs devices dg old name u → AreReadAs devices dg new name u
  fewer_as devices was_as device slot o g offers newest r =
      was_as device slot o g (offered dg old new had device slot o offers) (newest_before dg old new had was device slot o g offers newest r) (read_before dg old new had was o g r)

  pub fewer_left : IsLeft dg old name u → IsLeft dg new name u
  fewer_left left device slot o g offers newest r v one named started =
      subst (λ (i : Image). LiesWithin i u) (sym (image_same g old.devices new.devices same v)) (fewer_as old.devices left device slot o g offers newest r v one named started)
    where
      same : (m : Member) → IsIn g.members m → (k : ℕ) → public_of (new.devices m.device) k ≡ public_of (old.devices m.device) k
      same m there k = let h = r.headed m (contains g.members m there) in ap (λ d. public_of d k) (h.1.device ∙ sym (had m.device m.slot h.0 h.1).device)

-- ---- a commit

-- the volume as the configuration records it that is written stands so by these devices, whichever of the disks that are written stay good
abbrev pub IsNextAs : Writing → (Word → Option Device) → Word → Candidates → Type 0
IsNextAs x devices name u =
    (good : ℕ) → AreWritten x good → (v : Vol) → Contains x.config.volumes v → v.name ≡ name → is_new v.state ≡ false → LiesWithin (image_of x.config good (sectors_of devices x.group.members) v) u

module _ (x : Writing) (last : ℕ) (old new : Moment) (c : IsCommitting x last old new) (r : IsReady x old.world) (sound : AreSound old.world) (whole : IsWholeGroup x.group) (name : Word) (u : Candidates) where
  -- the old configuration is read, or the new one
  pub commit_left : AreReadAs new.world.devices x.config.group old.world name u → IsNextAs x new.world.devices name u → IsFar x → IsLeft x.config.group new.world name u
  commit_left before next far device slot o g offers newest read v one named started = elim (offers_back x last old new c r device slot o offers) [
    | inl was ↦
        before device slot o g was (newest_old x last old new c r sound whole device slot o g offers newest read was) (read_old x last old new c r sound whole device slot o g offers newest read was) v one named started
    | inr n ↦ new_as n
  ]
    where
      new_as : RenewedAt x last old new device → LiesWithin (image_on new.world.devices g v) u
      new_as n =
          let same = records x last old new c r sound whole device slot o g offers newest read n in
          let here = vol_there x.config g.config same v one in
          fewer_within (image_of x.config g.good (sectors_of new.world.devices x.group.members) v) (image_on new.world.devices g v)
          (less_image x.config g.config v g.good g.good (sectors_of new.world.devices x.group.members) (sectors_of new.world.devices g.members) same
          (record { good = λ place of now. now; same = on_disk x last old new c r sound whole device slot o g offers newest read n v here started far }))
          (reading_plexes x.config g.config v g.good g.good (sectors_of new.world.devices x.group.members) (sectors_of new.world.devices g.members) same)
          (some_blocks x.config v (vol_of x.config v (is_in x.config.volumes v here))) u started
          (next g.good (few x last old new c r sound whole device slot o g offers newest read n) v here named started)
