-- A world whose devices have changed behind their private regions alone is as sound as before.
use Rattle.std.proofs.Common.{◌≡◌, ◌∙◌, ◌⊎◌, ℕ, ◌<◌, true, Option, Some, None, MatchOption, inl, inr, refl, sym, ap, subst, arith}
use Rattle.vx_base.specs.Named.{Word}
use Rattle.vx_mask.specs.Mask.{has}
use Rattle.vx_header.specs.Named.{Label, header_of}
use Rattle.vx_copies.specs.Image.{Offer}
use Rattle.vx_fronts.proofs.Contents.{offer_stays}
use Rattle.vx_moments.specs.World.{World, Device, Volume, Member, Group}
use Rattle.vx_moments.specs.Holding.{IsLent}
use Rattle.vx_moments.specs.Group.{DeviceStaysBut, IsSectorOf}
use Rattle.vx_sound.specs.Offers.{IsHeaded, Offers}
use Rattle.vx_sound.specs.Sound.{IsNewest, NamesNewer, NamesMissing, IsChained}
use Rattle.vx_sound.specs.Standing.{HoldsNoHeader, IsOwn, Carries, IsLeading, IsStanding, NamesAreApart}
use Rattle.vx_sound.proofs.Lists.{all_imp}

-- the device of the same sectors, with the same private region
pub record HasSameFront (d e : Device) : Type 0 where
  pub sectors : e.sectors ≡ d.sectors
  pub private : (k : ℕ) → k < 2048 → e.contents k ≡ d.contents k

pub same_front : (d : Device) → HasSameFront d d
same_front d = record { sectors = refl; private = λ k lt. refl }

abbrev pub IsSameFront : Option Device → Option Device → Type 0
IsSameFront None None = Unit {0}
IsSameFront None (Some e) = ⊥
IsSameFront (Some d) None = ⊥
IsSameFront (Some d) (Some e) = HasSameFront d e

-- each device has the private region that it had, and is lent where it was
pub record IsSamePrivate (old new : World) : Type 0 where
  pub devices : (name : Word) → IsSameFront (old.devices name) (new.devices name)
  pub lent : (name : Word) → IsLent new name → IsLent old name

-- a device that is as it was
pub front_itself : (o : Option Device) → IsSameFront o o
front_itself None = tt
front_itself (Some d) = same_front d

turned : (o p : Option Device) → IsSameFront o p → IsSameFront p o
turned None None same = tt
turned None (Some e) same = absurd same
turned (Some d) None same = absurd same
turned (Some d) (Some e) same = record { sectors = sym same.sectors; private = λ k lt. sym (same.private k lt) }

-- the sectors of a volume lie behind the private region
pub behind_private : (g : Group) (vol name : Word) (o p : Option Device) → DeviceStaysBut (IsSectorOf g vol name) o p → IsSameFront o p
behind_private g vol name None None stays = tt
behind_private g vol name None (Some e) stays = absurd stays
behind_private g vol name (Some d) None stays = absurd stays
behind_private g vol name (Some d) (Some e) stays = record { sectors = stays.0; private = λ k lt. stays.1 k (λ (of : IsSectorOf g vol name k). omega (arith, lt, of.place_is)) }

-- a device that is there is there then
record IsThen (d : Device) (p : Option Device) : Type 0 where
  device : Device
  is : p ≡ Some device
  same : HasSameFront d device

then_there : (o p : Option Device) → IsSameFront o p → (d : Device) → o ≡ Some d → IsThen d p
then_there None p same d is = cc
then_there (Some e) None same d is = absurd same
then_there (Some e) (Some f) same d is = let here : e ≡ d = cc in record { device = f; is = refl_some f; same = subst (λ (x : Device). HasSameFront x f) here same }
  where
    refl_some : (f : Device) → Some f ≡ Some f
    refl_some f = cc

module _ (old new : World) (devices : (name : Word) → IsSameFront (old.devices name) (new.devices name)) (lent : (name : Word) → IsLent new name → IsLent old name) where
  device_then : (name : Word) (d : Device) → old.devices name ≡ Some d → IsThen d (new.devices name)
  device_then name d is = then_there (old.devices name) (new.devices name) (devices name) d is

  -- a header is there still
  record IsHeadedThen (dg name : Word) (slot : ℕ) (d : Device) : Type 0 where
    device : Device
    headed : IsHeaded dg new name slot device
    same : HasSameFront d device

  headed_then : (dg name : Word) (slot : ℕ) (d : Device) → IsHeaded dg old name slot d → IsHeadedThen dg name slot d
  headed_then dg name slot d h =
      let there = device_then name d h.device in
      record {
        device = there.device;
        headed = record {
          device = there.is;
          apart = λ is. h.apart (lent name is);
          label = h.label;
          header = ap header_of (there.same.private 0 (omega arith)) ∙ h.header;
          group = h.group;
          slot_is = h.slot_is;
          size = h.size ∙ sym there.same.sectors;
        };
        same = there.same;
      }

  offers_then : (dg name : Word) (slot : ℕ) (o : Offer) → Offers dg old name slot o → Offers dg new name slot o
  offers_then dg name slot o h =
      let there = headed_then dg name slot h.device h.headed in
      record { device = there.device; headed = there.headed; offer = offer_stays h.device.contents there.device.contents there.same.private ∙ h.offer }

  own_then : (dg : Word) (m : Member) → IsOwn dg old m → IsOwn dg new m
  own_then dg m own =
      let there = device_then m.device own.device own.is in
      record {
        device = there.device;
        is = there.is;
        apart = λ is. own.apart (lent m.device is);
        header = λ label says.
            own.header label (ap header_of (sym (there.same.private 0 (omega arith))) ∙ says)
            ∙ ap (λ n. (let l : Label = record { group = dg; disk = m.disk; slot = m.slot; sectors = n } in l)) (sym there.same.sectors);
      }

  carries_then : (g : Group) (m : Member) → Carries old g m → Carries new g m
  carries_then g m was = record { text = was.text; text_is = was.text_is; offers = offers_then g.config.group m.device m.slot (record { sequence = g.sequence; good = g.good; text = was.text }) was.offers }

module _ (old new : World) (same : IsSamePrivate old new) (unlent : (name : Word) → IsLent old name → IsLent new name) where
  back_devices : (name : Word) → IsSameFront (new.devices name) (old.devices name)
  back_devices name = turned (old.devices name) (new.devices name) (same.devices name)

  offers_back : (dg name : Word) (slot : ℕ) (o : Offer) → Offers dg new name slot o → Offers dg old name slot o
  offers_back = offers_then new old back_devices unlent

  chain : (dg : Word) (o : Offer) → IsNewest dg old o ⊎ (NamesNewer dg old o ⊎ NamesMissing dg old o) → IsNewest dg new o ⊎ (NamesNewer dg new o ⊎ NamesMissing dg new o)
  chain dg o (inl newest) = inl (λ name slot p h. newest name slot p (offers_back dg name slot p h))
  chain dg o (inr (inl n)) = inr (inl (record { name = n.name; slot = n.slot; newer = n.newer; offers = offers_then old new same.devices same.lent dg n.name n.slot n.newer n.offers; names = n.names; rises = n.rises }))
  chain dg o (inr (inr gone)) = inr (inr (record { slot = gone.slot; names = gone.names; missing = λ name d h. let was = headed_then new old back_devices unlent dg name gone.slot d h in gone.missing name was.device was.headed }))

  chained_same : (dg : Word) → IsChained dg old → IsChained dg new
  chained_same dg was = record {
    apart = λ slot one other d e h k.
        let x = headed_then new old back_devices unlent dg one slot d h in
        let y = headed_then new old back_devices unlent dg other slot e k in
        was.apart slot one other x.device y.device x.headed y.headed;
    chained = λ name slot o h. chain dg o (was.chained name slot o (offers_back dg name slot o h));
    agree = λ one other slot place o p h k same. was.agree one other slot place o p (offers_back dg one slot o h) (offers_back dg other place p k) same;
    offering = λ one other slot place o p h k up. was.offering one other slot place o p (offers_back dg one slot o h) (offers_back dg other place p k) up;
    named = λ one other slot place o p h k up n is. was.named one other slot place o p (offers_back dg one slot o h) (offers_back dg other place p k) up n is;
  }

  leading_same : (g : Group) → IsLeading old g → IsLeading new g
  leading_same g l = record {
    own = all_imp (IsOwn g.config.group old) (IsOwn g.config.group new) g.members (own_then old new same.devices same.lent g.config.group) l.own;
    carrying = all_imp (λ m. has g.good m.slot ≡ true → Carries old g m) (λ m. has g.good m.slot ≡ true → Carries new g m) g.members (λ m carries is. carries_then old new same.devices same.lent g m (carries is)) l.carrying;
    newest = λ name slot o h. l.newest name slot o (offers_back g.config.group name slot o h);
    some = l.some;
    recorded = l.recorded;
  }

  group_same : (g : Option Group) → MatchOption g (Unit {0}) (IsLeading old) → MatchOption g (Unit {0}) (IsLeading new)
  group_same None l = tt
  group_same (Some g) l = leading_same g l

  pub standing_behind : new.group ≡ old.group → IsStanding old → NamesAreApart new → ((vol : Word) (v : Volume) → new.volumes vol ≡ Some v → HoldsNoHeader v) → IsStanding new
  standing_behind group s names volumes = record {
    copies = λ dg. chained_same dg (s.copies dg);
    group = subst (λ (g : Option Group). MatchOption g (Unit {0}) (IsLeading new)) (sym group) (group_same old.group s.group);
    volumes = volumes;
    names = names;
  }
