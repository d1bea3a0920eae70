-- The devices of a world, as the pieces of one volume are called.
use Rattle.std.proofs.Common.{◌≡◌, inl, inr, ℕ, ◌<◌, Bool, true, false, List, [], ◌∷◌, length, Option, Some, None, refl, sym, ap, ◌∙◌, subst}
use Rattle.std.specs.List.{All, list_any}
use Rattle.std.specs.Str.{bytes_eq}
use Rattle.std.proofs.lemmas.Bool.{false≢true}
use Rattle.std.proofs.lemmas.List.Elements.{All-head, All-tail}
use Rattle.vx_base.specs.Named.{Word}
use Rattle.vx_base.proofs.NamedLemmas.{bytes_eq_self, bytes_eq_same}
use Rattle.vx_piece.specs.Seen.{Seen}
use Rattle.vx_carve.specs.Carved.{HaveNumbers}
use Rattle.vx_carve.specs.Together.{covers}
use Rattle.vx_config_parts.specs.declared.disk.Disk.{Disk}
use Rattle.vx_image.proofs.PlexMembers.{IsIn}
use Rattle.vx_image.specs.Own.{IsOfVolume}
use Rattle.vx_image.proofs.Members.{is_in}
use Rattle.vx_copies.specs.Disks.{DiskSeen}
use Rattle.vx_copies.specs.Lists.{AllOf, AnyOf, Each}
use Rattle.vx_fronts.specs.Fronts.{Rest, Rests, with_device}
use Rattle.vx_fronts.specs.Laws.{whole_disks}
use Rattle.vx_moments.specs.World.{Device, Group}
use Rattle.vx_moments.specs.Group.{ChangesOnly, DeviceStaysBut, IsSectorOf}
use Rattle.vx_group_volumes.specs.Places.{IsOwnSector, IsSlotOf}
use Rattle.vx_group_volumes.specs.Disks.{AreDevicesOf, DiskGoesOn, IsDeviceOf, IsMemberOn, OtherDevicesStay}

-- ---- members with their whole devices

member_by : (g : Group) (numbers : List ℕ) (o : Option Rest) (h : DiskSeen) → IsMemberOn g numbers h → IsMemberOn g numbers (with_device o h)
member_by g numbers None h is = is
member_by g numbers (Some rest) h is = record { member = is.member; there = is.there; device_is = is.device_is; slot_is = is.slot_is; low = is.low; number_is = is.number_is }

pub members_whole : (g : Group) (numbers : List ℕ) (rests : Rests) (hs : List DiskSeen) → AllOf (IsMemberOn g numbers) hs → AllOf (IsMemberOn g numbers) (whole_disks rests hs)
members_whole g numbers rests [] all = tt
members_whole g numbers rests (h ∷ hs) all = (member_by g numbers (rests h.seen.device) h all.0, members_whole g numbers rests hs all.1)

device_by : (o : Option Rest) (h : DiskSeen) → (with_device o h).device ≡ h.device
device_by None h = refl
device_by (Some rest) h = refl

on_whole : (rests : Rests) (hs : List DiskSeen) (name : Word) → AnyOf (λ h. h.device ≡ name) hs → AnyOf (λ h. h.device ≡ name) (whole_disks rests hs)
on_whole rests [] name any = any
on_whole rests (h ∷ hs) name (inl is) = inl (device_by (rests h.seen.device) h ∙ is)
on_whole rests (h ∷ hs) name (inr more) = inr (on_whole rests hs name more)

pub others_whole : (rests : Rests) (hs : List DiskSeen) (old new : Word → Option Device) → OtherDevicesStay hs old new → OtherDevicesStay (whole_disks rests hs) old new
others_whole rests hs old new stay name none = stay name (λ any. none (on_whole rests hs name any))

-- ---- slots

numbered_at : (n : ℕ) (disks : List Disk) (d : Disk) → All (λ (x : Disk). x.slot < n) disks → IsIn disks d → d.slot < n
numbered_at n [] d all there = absurd there
numbered_at n (x ∷ disks) d all (inl same) = subst (λ (y : Disk). y.slot < n) (sym same) (All-head (λ (y : Disk). y.slot < n) x disks all)
numbered_at n (x ∷ disks) d all (inr more) = numbered_at n disks d (All-tail (λ (y : Disk). y.slot < n) x disks all) more

low_slot : (numbers : List ℕ) (disks : List Disk) (slot : ℕ) → All (λ (d : Disk). d.slot < length numbers) disks → IsSlotOf disks slot → slot < length numbers
low_slot numbers disks slot all is = subst (λ n. n < length numbers) is.2 (numbered_at (length numbers) disks is.0 all (is_in disks is.0 is.1))

-- ---- devices

stays : (Q : ℕ → Type 0) (o u : Option Device) → u ≡ o → DeviceStaysBut Q o u
stays Q o u same = subst (λ x. DeviceStaysBut Q o x) (sym same) (itself o)
  where
    itself : (o : Option Device) → DeviceStaysBut Q o o
    itself None = tt
    itself (Some d) = (refl, λ k none. refl)

module _ (g : Group) (vol : Word) (numbers : List ℕ) (disks : List Disk) (have : HaveNumbers numbers) (numbered : All (λ (d : Disk). d.slot < length numbers) disks) (held : List Seen)
    (own : (device k : ℕ) → list_any (covers device k) held ≡ true → IsOwnSector g.config vol disks numbers device k) (old new : Word → Option Device) where
  -- a sector of the volume on the disk is one of the device's
  sector_of : (h : DiskSeen) → IsMemberOn g numbers h → (k : ℕ) → list_any (covers h.seen.device k) held ≡ true → IsSectorOf g vol h.device k
  sector_of h is k any =
      let s = own h.seen.device k any in
      let slot : s.slot ≡ is.member.slot = have s.slot h.slot (low_slot numbers disks s.slot numbered s.on) is.low (s.number_is ∙ sym is.number_is) ∙ sym is.slot_is in
      record { member = is.member; there = is.there; device_is = is.device_is; sector = s.sector; place_is = s.place_is; of = subst (λ n. IsOfVolume g.config vol (record { disk = n; sector = s.sector })) slot s.of }

  one : (h h' : DiskSeen) → IsMemberOn g numbers h → DiskGoesOn held h h' → IsDeviceOf (old h.device) h → IsDeviceOf (new h'.device) h' → DeviceStaysBut (IsSectorOf g vol h.device) (old h.device) (new h.device)
  one h h' is goes a b =
      subst (λ o. DeviceStaysBut (IsSectorOf g vol h.device) o (new h.device)) (sym a.is)
      (subst (λ o. DeviceStaysBut (IsSectorOf g vol h.device) (Some a.device) o) (sym (ap new (sym goes.device) ∙ b.is))
      (b.sectors ∙ goes.keeps.sectors ∙ sym a.sectors, λ k other. b.contents k ∙ goes.told k (apart k other (list_any (covers h.seen.device k) held) refl) ∙ sym (a.contents k)))
    where
      apart : (k : ℕ) → (IsSectorOf g vol h.device k → ⊥) → (v : Bool) → list_any (covers h.seen.device k) held ≡ v → list_any (covers h.seen.device k) held ≡ false
      apart k other true e = absurd (other (sector_of h is k e))
      apart k other false e = e

  each : (olds news : List DiskSeen) → AllOf (IsMemberOn g numbers) olds → Each (DiskGoesOn held) olds news → AreDevicesOf old olds → AreDevicesOf new news →
      (name : Word) → ((AnyOf (λ h. h.device ≡ name) olds → ⊥) → new name ≡ old name) → DeviceStaysBut (IsSectorOf g vol name) (old name) (new name)
  each [] [] members goes a b name other = stays (IsSectorOf g vol name) (old name) (new name) (other (λ none. none))
  each [] (y ∷ ys) members goes a b name other = absurd goes
  each (x ∷ xs) [] members goes a b name other = absurd goes
  each (x ∷ xs) (y ∷ ys) members goes a b name other = by (λ none. each xs ys members.1 goes.1 a.1 b.1 name none) (bytes_eq x.device name) refl
    where
      by : (((AnyOf (λ h. h.device ≡ name) xs → ⊥) → new name ≡ old name) → DeviceStaysBut (IsSectorOf g vol name) (old name) (new name)) → (v : Bool) → bytes_eq x.device name ≡ v → DeviceStaysBut (IsSectorOf g vol name) (old name) (new name)
      by rest true e = subst (λ n. DeviceStaysBut (IsSectorOf g vol n) (old n) (new n)) (bytes_eq_same x.device name e) (one x y members.0 goes.0 a.0 b.0)
      by rest false e = rest (λ none. other (λ any. elim any [
        | inl is ↦ false≢true (sym e ∙ ap (λ n. bytes_eq x.device n) (sym is) ∙ bytes_eq_self x.device)
        | inr more ↦ none more
      ]))

  pub changes_only : (olds news : List DiskSeen) → AllOf (IsMemberOn g numbers) olds → Each (DiskGoesOn held) olds news → AreDevicesOf old olds → AreDevicesOf new news → OtherDevicesStay olds old new → ChangesOnly g vol old new
  changes_only olds news members goes a b stay name = each olds news members goes a b name (stay name)
