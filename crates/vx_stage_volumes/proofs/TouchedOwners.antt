-- Sectors and devices of pieces that are a volume's by their numbers are those by their names.
use Rattle.std.proofs.Common.{◌≡◌, ◌∙◌, ℕ, ◌-◌, ◌==◌, ◌&&◌, true, List, Option, Some, sym, ap, subst}
use Rattle.std.specs.Prelude.{nat_le, nat_lt, slice_index}
use Rattle.std.specs.List.{All, list_any}
use Rattle.std.proofs.lemmas.Bool.{and_parts, eqb-true}
use Rattle.vx_base.specs.Named.{Word}
use Rattle.vx_piece.specs.Seen.{Seen}
use Rattle.vx_carve.specs.Together.{HasSome, covers}
use Rattle.vx_layout.specs.declared.strip.Strip.{Strip}
use Rattle.vx_config_parts.specs.declared.disk.Disk.{Disk}
use Rattle.vx_image.specs.Own.{IsOfVolume}
use Rattle.vx_image.proofs.Members.{contains}
use Rattle.vx_copies.specs.Disks.{DiskSeen}
use Rattle.vx_copies.specs.Lists.{AllOf}
use Rattle.vx_shelf.specs.Shelf.{Held, AreNumbered}
use Rattle.vx_fronts.specs.Rests.{is_of}
use Rattle.vx_moments.specs.World.{Group}
use Rattle.vx_moments.specs.Group.{IsSectorOf}
use Rattle.vx_moments.specs.Owners.{IsDeviceOfVolume, device_at}
use Rattle.vx_group_volumes.specs.Places.{IsSlotOf}
use Rattle.vx_house.specs.Runs.{IsNumbered}
use Rattle.vx_house_calls.proofs.Entries.{all_at_one}
use Rattle.vx_house_calls.proofs.Owners.{HasNumber, covered_of, member_at, same_name, strip_device}
use Rattle.vx_stage_volumes.specs.Touching.{AreOwnSectors}

on_strip : (strip : Strip) (slot sector : ℕ) → (strip.disk == slot && nat_le strip.start sector && nat_lt (sector - strip.start) strip.count) ≡ true → strip.disk ≡ slot
on_strip strip slot sector has =
    eqb-true strip.disk slot (and_parts (strip.disk == slot) _ (and_parts (strip.disk == slot && nat_le strip.start sector) _ has).0).0

module _ (hs : List DiskSeen) (g : Group) (name : Word) (disks : List Disk) (numbers : List ℕ) (opened : (slot : ℕ) → IsSlotOf disks slot → IsNumbered numbers hs g.members slot)
    (held : Word → Option Held) (numbered : AreNumbered held) (taken : AllOf (λ h. HasNumber held h.device h.seen.device) hs) (pieces : List Seen) (own : AreOwnSectors g.config name disks numbers pieces) where
  -- the slot of one of the disks has the device that has its number
  slot_device : (slot d : ℕ) (device : Word) → IsSlotOf disks slot → slice_index numbers slot ≡ d → HasNumber held device d → device_at g.members slot ≡ Some device
  slot_device slot d device on number has =
      let n = opened slot on in
      let its : HasNumber held n.disk.device d = subst (HasNumber held n.disk.device) (sym n.number ∙ number)
      (all_at_one (λ h. HasNumber held h.device h.seen.device) hs n.disk taken n.there) in
      n.device ∙ ap (λ (x : Word). Some x) (same_name held numbered n.disk.device device d its has)

  -- a sector that one of the pieces has is the volume's, on the device of that number
  pub sector_own : (d : ℕ) (device : Word) → HasNumber held device d → (k : ℕ) → list_any (covers d k) pieces ≡ true → IsSectorOf g name device k
  sector_own d device has k any =
      let s = own d k any in
      let m = member_at g.members s.slot device (slot_device s.slot d device s.on s.number_is has) in
      record {
        member = m.member;
        there = contains g.members m.member m.there;
        device_is = m.device_is;
        sector = s.sector;
        place_is = s.place_is;
        of = subst (λ n. IsOfVolume g.config name (record { disk = n; sector = s.sector })) (sym m.slot_is) s.of;
      }

  -- a device that one of the pieces is of is one of its plexes'
  pub device_own : All HasSome pieces → (d : ℕ) (device : Word) → HasNumber held device d → list_any (is_of d) pieces ≡ true → IsDeviceOfVolume g name device
  device_own some d device has any =
      let k = covered_of pieces d some any in
      let s = own d k.0 k.1 in
      let lies = s.of.3 in
      let slot : lies.0.disk ≡ s.slot = on_strip lies.0 s.slot s.sector lies.2 in
      let at : device_at g.members lies.0.disk ≡ Some device = ap (device_at g.members) slot ∙ slot_device s.slot d device s.on s.number_is has in
      (s.of.0, s.of.1, s.of.2, strip_device g s.of.0 lies.0 device lies.1 at)
