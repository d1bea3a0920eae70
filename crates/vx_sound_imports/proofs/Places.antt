-- Devices of a group are called in the sectors of one volume, and volumes come and go: no other group has a header that it had not.
use Rattle.std.proofs.Common.{◌≡◌, ◌∙◌, ℕ, List, [], ◌∷◌, Option, Some, None, refl, sym, ap, subst, inl, inr, arith}
use Rattle.vx_base.specs.Named.{Word, put}
use Rattle.vx_base.proofs.NamedLemmas.{name_cases, put_other, put_same}
use Rattle.vx_header.specs.Named.{Label, header_of}
use Rattle.vx_copies.specs.Lists.{AllOf, AnyOf}
use Rattle.vx_image.proofs.PlexMembers.{IsIn}
use Rattle.vx_image.proofs.Members.{is_in}
use Rattle.vx_moments.specs.Holding.{HasDevice, IsLent}
use Rattle.vx_moments.specs.World.{Device, Group, Member, OnPlexes, Volume, World}
use Rattle.vx_moments.specs.Group.{ChangesOnly, DeviceStaysBut, IsSectorOf}
use Rattle.vx_sound.specs.Offers.{IsHeaded}
use Rattle.vx_sound.specs.Standing.{IsOwn}
use Rattle.vx_sound.proofs.DevicesAfterCommit.{same_device, same_or_not}
use Rattle.vx_sound.proofs.Fewer.{HadEach}
use Rattle.vx_sound.proofs.Lists.{any_or_none}
use Rattle.vx_sound.proofs.Private.{IsSameFront, behind_private}
use Rattle.vx_sound_volumes.proofs.Devices.{some_member}
use Rattle.vx_sound_volumes.proofs.Parts.{has_none}
use Rattle.vx_sound_imports.proofs.Slots.{each_of}

-- ---- which devices are lent

-- the volume of a name is another one, or gone, on the devices that it was on
pub lent_put : (w : World) (vol : Word) (o : Option Volume) → ((v : Volume) (name : Word) → w.volumes vol ≡ Some v → HasDevice v.lies name → (u : Volume) × (o ≡ Some u) × HasDevice u.lies name) →
    (name : Word) → IsLent w name → IsLent (record w { volumes = put vol o w.volumes }) name
lent_put w vol o goes name (other, v, is, has) = elim (name_cases vol other) [
  | inl same ↦ let u = goes v name (ap w.volumes same ∙ is) has in (vol, u.0, put_same vol o w.volumes ∙ u.1, u.2)
  | inr differ ↦ (other, v, put_other vol other o w.volumes differ ∙ is, has)
]

-- a volume on plexes was on no device
pub lent_on_plexes : (w : World) (vol : Word) (o : Option Volume) (plexes : List Word) → ((v : Volume) → w.volumes vol ≡ Some v → v.lies ≡ OnPlexes plexes) → (name : Word) → IsLent w name → IsLent (record w { volumes = put vol o w.volumes }) name
lent_on_plexes w vol o plexes lies = lent_put w vol o (λ v name is has. absurd (has_none v plexes name (lies v is) has))

-- ---- which headers there are

any_listed : (ms : List Member) (m : Member) (name : Word) → IsIn ms m → m.device ≡ name → AnyOf (λ n. n.device ≡ name) ms
any_listed [] m name one is = absurd one
any_listed (n ∷ ms) m name (inl same) is = inl (ap (λ (x : Member). x.device) (sym same) ∙ is)
any_listed (n ∷ ms) m name (inr one) is = inr (any_listed ms m name one is)

module _ (g : Group) (vol : Word) (old new : World) (own : AllOf (IsOwn g.config.group old) g.members) (changes : ChangesOnly g vol old.devices new.devices) (lent : (name : Word) → IsLent old name → IsLent new name) where
  -- a device of none of its members stays
  other_stays : (name : Word) → (AnyOf (λ m. m.device ≡ name) g.members → ⊥) → new.devices name ≡ old.devices name
  other_stays name none = by (old.devices name) (new.devices name) (changes name)
    where
      never : (k : ℕ) → IsSectorOf g vol name k → ⊥
      never k of = none (any_listed g.members of.member name (is_in g.members of.member of.there) of.device_is)

      by : (o p : Option Device) → DeviceStaysBut (IsSectorOf g vol name) o p → p ≡ o
      by None None stays = refl
      by None (Some e) stays = absurd stays
      by (Some d) None stays = absurd stays
      by (Some d) (Some e) stays = ap (λ (x : Device). Some x) (same_device d e stays.0 (λ k. stays.1 k (never k)))

  -- that of a member has a header of the group alone
  member_named : (m : Member) → IsIn g.members m → (dg : Word) (slot : ℕ) (d : Device) → IsHeaded dg new m.device slot d → g.config.group ≡ dg
  member_named m one dg slot d h =
      let o = each_of (IsOwn g.config.group old) g.members own m one in
      let same = front o.device o.is in
      ap (λ (l : Label). l.group) (sym (o.header h.label (ap header_of (sym (same.private 0 (omega arith))) ∙ h.header))) ∙ h.group
    where
      front : (e : Device) → old.devices m.device ≡ Some e → IsSameFront (Some e) (Some d)
      front e is = subst (λ p. IsSameFront (Some e) p) h.device (subst (λ o. IsSameFront o (new.devices m.device)) is (behind_private g vol m.device (old.devices m.device) (new.devices m.device) (changes m.device)))

  pub had_elsewhere : (dg : Word) → (g.config.group ≡ dg → ⊥) → HadEach dg old new
  had_elsewhere dg other name slot d h = elim (any_or_none (λ m. m.device ≡ name) g.members (λ m. same_or_not m.device name)) [
    | inr none ↦ record { device = sym (other_stays name none) ∙ h.device; apart = λ is. h.apart (lent name is); label = h.label; header = h.header; group = h.group; slot_is = h.slot_is; size = h.size }
    | inl any ↦ let m = some_member g.members name any in absurd (other (member_named m.0 m.1 dg slot d (subst (λ n. IsHeaded dg new n slot d) (sym m.2) h)))
  ]
