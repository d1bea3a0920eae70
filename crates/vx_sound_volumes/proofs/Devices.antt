-- Devices that are made, wiped and lent to bare volumes are none of the group's.
use Rattle.std.proofs.Common.{◌≡◌, ℕ, false, List, [], ◌∷◌, Option, Some, None, refl, sym, ap, subst, inl, inr}
use Rattle.std.specs.Prelude.{IsSome, is_some}
use Rattle.std.proofs.lemmas.Bool.{false≢true}
use Rattle.vx_base.specs.Blocks.{Contents}
use Rattle.vx_base.specs.Named.{Word, put}
use Rattle.vx_base.proofs.NamedLemmas.{name_cases, put_other}
use Rattle.vx_mask.proofs.Tests.{or_neither}
use Rattle.vx_copies.specs.Lists.{AnyOf}
use Rattle.vx_image.proofs.PlexMembers.{IsIn}
use Rattle.vx_image.proofs.Members.{contains}
use Rattle.vx_moments.specs.Holding.{HasDevice, IsHeld, IsMemberDevice, has_volume}
use Rattle.vx_moments.specs.Leaving.{grouped}
use Rattle.vx_moments.specs.World.{Device, Group, Member, Volume, World}
use Rattle.vx_stages.specs.Stages.{HasContents, IsBare, IsImageMade, bare_volume}
use Rattle.vx_stages.specs.Tests.{is_volume}
use Rattle.vx_sound_volumes.proofs.Parts.{Every, Keeps, member_device, not_none, others_change, put_kept, some_same}

-- a member has the device
pub some_member : (ms : List Member) (name : Word) → AnyOf (λ m. m.device ≡ name) ms → (m : Member) × IsIn ms m × (m.device ≡ name)
some_member [] name any = absurd any
some_member (m ∷ ms) name (inl same) = (m, inl refl, same)
some_member (m ∷ ms) name (inr any) = let r = some_member ms name any in (r.0, inr r.1, r.2)

none_there : (o : Option Device) → o ≡ None → IsSome o → ⊥
none_there None e is = false≢true is
none_there (Some d) e is = not_none d (sym e)

module _ (place : ℕ) (w : World) (k : Keeps place Every w) where
  -- the devices of the group are there
  device_there : (name : Word) → IsMemberDevice w.group name → IsSome (w.devices name)
  device_there name member = by w.group refl member
    where
      by : (o : Option Group) → w.group ≡ o → IsMemberDevice o name → IsSome (w.devices name)
      by None here is = absurd is
      by (Some g) here is = let m = some_member g.members name is in subst (λ n. IsSome (w.devices n)) m.2 ((k.disks g here).there m.0 (contains g.members m.0 m.1))

  -- another device stands under a name that the group does not have
  put_device : (name : Word) (d : Option Device) → (IsMemberDevice w.group name → ⊥) → Keeps place Every (record w { devices = put name d w.devices })
  put_device name d away =
      others_change place Every w (put name d w.devices)
      (λ other member. elim (name_cases name other) [ inl same ↦ absurd (away (subst (IsMemberDevice w.group) (sym same) member)) | inr differ ↦ put_other name other d w.devices differ ]) k

  pub image_kept : (name : Word) (sectors : ℕ) (new : World) → w.devices name ≡ None → IsImageMade name sectors w new → Keeps place Every new
  image_kept name sectors new none made =
      subst (Keeps place Every) (sym made.is)
      (put_device name (Some (record { sectors = sectors; contents = made.contents })) (λ member. none_there (w.devices name) none (device_there name member)))

  pub wipe_kept : (name : Word) (R : Contents → Contents → Type 0) (new : World) → (IsHeld w name → ⊥) → HasContents name R w new → Keeps place Every new
  wipe_kept name R new free has = subst (Keeps place Every) (sym has.is) (put_device name (Some (record { sectors = has.device.sectors; contents = has.contents })) (λ member. free (inr member)))

  pub bare_kept : (vol name : Word) (new : World) → (IsHeld w name → ⊥) → is_volume vol w ≡ false → IsBare vol name w new → Keeps place Every new
  bare_kept vol name new free fresh bare =
      subst (Keeps place Every) (sym bare.is)
      (put_kept place Every Every w vol (Some (bare_volume name bare.device)) (λ n other of. of) (λ run is. not_none run is)
      (λ of none. (of, ap grouped (not_started (w.volumes vol) (or_neither (is_some (w.volumes vol)) (has_volume w.group vol) fresh).0)))
      (λ v is other has member.
      let same : name ≡ other = subst (λ (x : Volume). HasDevice x.lies other) (sym (some_same (bare_volume name bare.device) v is)) has in
      absurd (free (inr (subst (IsMemberDevice w.group) (sym same) member)))) (member_device w) k)
    where
      not_started : (o : Option Volume) → is_some o ≡ false → o ≡ None
      not_started None e = refl
      not_started (Some v) e = cc
