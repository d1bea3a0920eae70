-- A change in one volume of a group leaves the others.
use Rattle.std.proofs.Common.{◌≡◌, ◌∙◌, ◌≢◌, inl, inr, ℕ, ◌+◌, Bool, true, false, cond, ◌==◌, not, List, [], ◌∷◌, Option, Some, None, refl, sym, subst, arith}
use Rattle.std.specs.Prelude.{Contains}
use Rattle.std.specs.List.{list_all}
use Rattle.std.specs.Str.{bytes_eq}
use Rattle.std.proofs.lemmas.Bool.{false≢true, eqb-true}
use Rattle.std.proofs.lemmas.Bool.Decides.{nat_tests}
use Rattle.vx_base.specs.Named.{Word}
use Rattle.vx_base.proofs.NamedLemmas.{bytes_eq_self, bytes_eq_same}
use Rattle.vx_layout.specs.declared.strip.Strip.{Strip}
use Rattle.vx_layout.specs.declared.place.Place.{Place}
use Rattle.vx_layout.specs.Columns.{has_place}
use Rattle.vx_layout.specs.Valid.{is_apart}
use Rattle.vx_config_parts.specs.declared.object.Object.TheVariants.{PlexRecord}
use Rattle.vx_config_parts.specs.declared.plex.Plex.{Plex}
use Rattle.vx_config_parts.specs.Objects.{refers}
use Rattle.vx_rules.proofs.InOrder.{names_differ}
use Rattle.vx_objects.specs.declared.config.Config.{Config}
use Rattle.vx_objects.specs.Config.{objects_of}
use Rattle.vx_image.specs.Lies.{strips_of}
use Rattle.vx_image.proofs.PlexMembers.{IsIn, one_named, plex_in}
use Rattle.vx_image.proofs.Apart.{one_name, plexes_apart}
use Rattle.vx_image.proofs.Plexes.{config_valid}
use Rattle.vx_image.specs.Own.{IsOfPlex, IsOfVolume, SameInside}
use Rattle.vx_image.specs.Soundness.{IsSoundImage}
use Rattle.vx_image.proofs.Members.{is_in, contains, each_from_all}
use Rattle.vx_image.proofs.Own.{image_own}
use Rattle.vx_moments.specs.World.{Device, Member, Group}
use Rattle.vx_moments.specs.Group.{public_of, sectors_of, image_on, HaveOwnDevices, IsSectorOf, DeviceStaysBut, ChangesOnly}
use Rattle.vx_moments.specs.Laws.{EachOtherImageStays, EachVolumeStaysSound}

-- ---- plexes

same_plex : (p q : Plex) → PlexRecord p ≡ PlexRecord q → p ≡ q
same_plex p q e = cc

one_plex : (c : Config) (p q : Plex) → IsIn c.plexes p → IsIn c.plexes q → p.name ≡ q.name → p ≡ q
one_plex c p q h k same = same_plex p q (one_named [] (objects_of c) (PlexRecord p) (PlexRecord q) (names_differ (objects_of c) (config_valid c)) (plex_in c p h) (plex_in c q k) same)

-- a place is in one of two strips that are apart
not_in_both : (x y : Strip) (place : Place) → is_apart x y ≡ true → has_place x place ≡ true → has_place y place ≡ true → ⊥
not_in_both x y place apart one other = grind (arith, nat_tests)

-- two plexes that have a place in common are one
plexes_meet : (c : Config) (p q : Plex) (place : Place) → IsIn c.plexes p → IsIn c.plexes q → IsOfPlex c p place → IsOfPlex c q place → p ≡ q
plexes_meet c p q place h k one other = by (bytes_eq p.name q.name) refl
  where
    by : (b : Bool) → bytes_eq p.name q.name ≡ b → p ≡ q
    by true e = one_plex c p q h k (bytes_eq_same p.name q.name e)
    by false e =
        let apart = plexes_apart c p q (λ same. absurd (false≢true (sym e ∙ subst (λ n. bytes_eq p.name n ≡ true) same (bytes_eq_self p.name)))) in
        let rows = each_from_all (λ x. list_all (is_apart x) (strips_of c q)) (strips_of c p) one.0 apart one.1 in
        absurd (not_in_both one.0 other.0 place (each_from_all (is_apart one.0) (strips_of c q) other.0 rows other.1) one.2 other.2)

-- a place is of one volume
volumes_meet : (c : Config) (vol other : Word) (place : Place) → IsOfVolume c vol place → IsOfVolume c other place → vol ≡ other
volumes_meet c vol other place (p, there, of, has) (q, there', of', has') =
    let same = plexes_meet c p q place (is_in c.plexes p there) (is_in c.plexes q there') has has' in
    one_name p.vol vol other of (subst (λ (x : Plex). refers x.vol other ≡ true) (sym same) of')

-- ---- devices

module _ (g : Group) (vol other : Word) (old new : Word → Option Device) (own : HaveOwnDevices g.members) (changes : ChangesOnly g vol old new) (differ : other ≢ vol) where
  -- a place of another volume is no sector of this one
  no_sector : (m : Member) → Contains g.members m → (sector : ℕ) → IsOfVolume g.config other (record { disk = m.slot; sector = sector }) → IsSectorOf g vol m.device (2048 + sector) → ⊥
  no_sector m there sector of is =
      let slot : is.member.slot ≡ m.slot = own is.member m is.there there is.device_is in
      let at : is.sector ≡ sector = let e = is.place_is in omega (arith, e) in
      let place : IsOfVolume g.config vol (record { disk = m.slot; sector = sector }) =
      subst (λ s. IsOfVolume g.config vol (record { disk = m.slot; sector = s })) at (subst (λ d. IsOfVolume g.config vol (record { disk = d; sector = is.sector })) slot is.of) in
      differ (volumes_meet g.config other vol (record { disk = m.slot; sector = sector }) of place)

  same_sector : (o n : Option Device) (device : Word) (sector : ℕ) → (IsSectorOf g vol device (2048 + sector) → ⊥) → DeviceStaysBut (IsSectorOf g vol device) o n → public_of n sector ≡ public_of o sector
  same_sector None None device sector not stays = refl
  same_sector None (Some e) device sector not stays = absurd stays
  same_sector (Some d) None device sector not stays = absurd stays
  same_sector (Some d) (Some e) device sector not stays = stays.1 (2048 + sector) not

  -- of the first of these disks with the slot
  same_in : (ms : List Member) → ((m : Member) → IsIn ms m → Contains g.members m) → (slot sector : ℕ) → IsOfVolume g.config other (record { disk = slot; sector = sector }) → sectors_of new ms slot sector ≡ sectors_of old ms slot sector
  same_in [] all slot sector of = refl
  same_in (m ∷ ms) all slot sector of = by (same_in ms (λ n one. all n (inr one)) slot sector of) (m.slot == slot) refl
    where
      by : sectors_of new ms slot sector ≡ sectors_of old ms slot sector → (b : Bool) → (m.slot == slot) ≡ b → cond b (public_of (new m.device)) (sectors_of new ms slot) sector ≡ cond b (public_of (old m.device)) (sectors_of old ms slot) sector
      by rest true e =
          let same : slot ≡ m.slot = sym (eqb-true m.slot slot e) in
          same_sector (old m.device) (new m.device) m.device sector (no_sector m (all m (inl refl)) sector (subst (λ s. IsOfVolume g.config other (record { disk = s; sector = sector })) same of)) (changes m.device)
      by rest false e = rest

  pub same_inside : SameInside g.config other (sectors_of old g.members) (sectors_of new g.members)
  same_inside place of = same_in g.members (λ m one. contains g.members m one) place.disk place.sector of

pub other_image : EachOtherImageStays
other_image g vol old new own changes v differ = image_own g.config g.good v (sectors_of old g.members) (sectors_of new g.members) (same_inside g vol v.name old new own changes differ)

pub volumes_sound : EachVolumeStaysSound
volumes_sound g vol old new own changes idle sound before v there stopped = by (bytes_eq v.name vol) refl
  where
    by : (b : Bool) → bytes_eq v.name vol ≡ b → IsSoundImage (image_on new.devices g v)
    by true e = let same : v.name ≡ vol = bytes_eq_same v.name vol e in sound v there same (subst (λ n. new.volumes n ≡ None) same stopped)
    by false e =
        let differ : v.name ≢ vol = (λ same. false≢true (sym e ∙ subst (λ n. bytes_eq v.name n ≡ true) same (bytes_eq_self v.name))) in
        subst IsSoundImage (sym (other_image g vol old.devices new.devices own changes v differ)) (before v there (idle v.name differ stopped))
