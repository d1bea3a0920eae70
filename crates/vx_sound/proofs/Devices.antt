-- A device that is made or wiped.
use Rattle.std.proofs.Common.{◌≡◌, ◌⊎◌, ℕ, zero, suc, ◌<◌, false, List, Option, Some, None, MatchOption, refl, sym, ◌∙◌, ap, subst, inl, inr, arith}
use Rattle.std.specs.Prelude.{replicate}
use Rattle.std.specs.Str.{bytes_eq}
use Rattle.vx_base.specs.Blocks.{Contents, written, IsTorn}
use Rattle.vx_base.specs.Named.{Word, put}
use Rattle.vx_base.proofs.NamedLemmas.{put_same, put_other, name_cases}
use Rattle.vx_base.proofs.BlockLemmas.{written_out, is_in-after}
use Rattle.vx_header.specs.Named.{Label, header_of}
use Rattle.vx_copies.specs.Lists.{AllOf, AnyOf}
use Rattle.vx_moments.specs.World.{World, Device, Member, Group}
use Rattle.vx_moments.specs.Holding.{IsMemberDevice}
use Rattle.vx_stages.specs.Stages.{IsImageMade, HasContents}
use Rattle.vx_sound.specs.Offers.{IsHeaded}
use Rattle.vx_sound.specs.Standing.{IsOwn, IsLeading, IsStanding}
use Rattle.vx_sound.proofs.Headers.{size_above, none_filled, never_some, some_same}
use Rattle.vx_sound.proofs.Fewer.{HadEach, HasOrNone}
use Rattle.vx_sound.proofs.Lists.{all_imp, all_without, one_of}
use Rattle.vx_sound.proofs.Settlement.{MemberStays, standing_still}

-- the device has no header that counts
abbrev HasNoLabel : Device → Type 0
HasNoLabel d = (label : Label) → header_of (d.contents 0) ≡ Some label → 2048 < d.sectors → ⊥

module _ (w : World) (name : Word) (thing : Device) (bare : HasNoLabel thing) (idle : IsMemberDevice w.group name → ⊥) where
  abbrev after : World
  after = record w { devices = put name (Some thing) w.devices }

  other_same : (other : Word) → bytes_eq name other ≡ false → after.devices other ≡ w.devices other
  other_same other differ = put_other name other (Some thing) w.devices differ

  none_here : (dg : Word) (slot : ℕ) (d : Device) → IsHeaded dg after name slot d → ⊥
  none_here dg slot d h =
      let same : thing ≡ d = some_same thing d (sym (put_same name (Some thing) w.devices) ∙ h.device) in
      bare h.label (ap (λ (x : Device). header_of (x.contents 0)) same ∙ h.header) (subst (λ (x : Device). 2048 < x.sectors) (sym same) (size_above dg after name slot d h))

  back : (dg : Word) → HadEach dg w after
  back dg other slot d h = elim (name_cases name other) [
    | inl same ↦ absurd (none_here dg slot d (subst (λ (n : Word). IsHeaded dg after n slot d) (sym same) h))
    | inr differ ↦ record { device = sym (other_same other differ) ∙ h.device; apart = h.apart; label = h.label; header = h.header; group = h.group; slot_is = h.slot_is; size = h.size }
  ]

  fore : (dg : Word) → HasOrNone dg w after
  fore dg other slot d h = elim (name_cases name other) [
    | inl same ↦ inr (λ place e k. none_here dg place e (subst (λ (n : Word). IsHeaded dg after n place e) (sym same) k))
    | inr differ ↦ inl (record { device = other_same other differ ∙ h.device; apart = h.apart; label = h.label; header = h.header; group = h.group; slot_is = h.slot_is; size = h.size })
  ]

  member_stays : (m : Member) → (m.device ≡ name → ⊥) → MemberStays w after m
  member_stays m differs = record {
    device = elim (name_cases name m.device) [ inl same ↦ absurd (differs (sym same)) | inr differ ↦ other_same m.device differ ];
    apart = λ lent. lent;
  }

  members_stay : (g : Option Group) → (IsMemberDevice g name → ⊥) → MatchOption g (Unit {0}) (λ g. AllOf (MemberStays w after) g.members)
  members_stay None idle = tt
  members_stay (Some g) idle = all_imp (λ m. m.device ≡ name → ⊥) (MemberStays w after) g.members member_stays (all_without (λ m. m.device ≡ name) g.members idle)

  pub standing_put : IsStanding w → IsStanding after
  standing_put s = standing_still w after (record { had = back; stays = fore; group = refl; members = members_stay w.group idle }) s s.names s.volumes

-- ---- an image

zeros_bare : (sectors : ℕ) (contents : Contents) → ((k : ℕ) → k < sectors → contents k ≡ replicate 512 0) → HasNoLabel (record { sectors = sectors; contents = contents })
zeros_bare sectors contents zeros label header large = never_some (header_of (contents 0)) label (ap header_of (zeros 0 (omega arith)) ∙ none_filled 0) header

no_member : (w : World) (name : Word) → w.devices name ≡ None → (g : Option Group) → MatchOption g (Unit {0}) (IsLeading w) → IsMemberDevice g name → ⊥
no_member w name none None l any = any
no_member w name none (Some g) l any = by g.members l.own any
  where
    by : (ms : List Member) → AllOf (IsOwn g.config.group w) ms → AnyOf (λ m. m.device ≡ name) ms → ⊥
    by ms own any =
        let one = one_of (IsOwn g.config.group w) (λ m. m.device ≡ name) ms own any in
        never_some (w.devices name) one.1.device none (ap (λ (n : Word). w.devices n) (sym one.2) ∙ one.1.is)

pub image_back : (name : Word) (sectors : ℕ) (old new : World) → IsStanding old → old.devices name ≡ None → IsImageMade name sectors old new → (dg : Word) → HadEach dg old new
image_back name sectors old new s none made dg =
    subst (HadEach dg old) (sym made.is)
    (back old name (record { sectors = sectors; contents = made.contents }) (zeros_bare sectors made.contents made.zeros) (no_member old name none old.group s.group) dg)

pub standing_image : (name : Word) (sectors : ℕ) (old new : World) → IsStanding old → old.devices name ≡ None → IsImageMade name sectors old new → IsStanding new
standing_image name sectors old new s none made =
    subst IsStanding (sym made.is)
    (standing_put old name (record { sectors = sectors; contents = made.contents }) (zeros_bare sectors made.contents made.zeros) (no_member old name none old.group s.group) s)

-- ---- a wipe

-- a block behind the first is as it was
behind_first : (old new : Contents) → IsTorn 0 (replicate 512 0) old new → (k : ℕ) → 0 < k → new k ≡ old k
behind_first old new torn k after = elim (torn k) [
  | inl same ↦ same
  | inr put ↦ put ∙ written_out 0 (replicate 512 0) old k (is_in-after 0 1 k (omega arith))
]

same_put : (w : World) (name : Word) (d e : Device) → w.devices name ≡ Some d → e.sectors ≡ d.sectors → ((k : ℕ) → e.contents k ≡ d.contents k) → record w { devices = put name (Some e) w.devices } ≡ w
same_put w name d e is sectors same = λ i. record w { devices = λ other. by other i }
  where
    device : e ≡ d
    device = λ i. record { sectors = sectors i; contents = λ k. same k i }

    by : (other : Word) → put name (Some e) w.devices other ≡ w.devices other
    by other = elim (name_cases name other) [
      | inl here ↦ subst (λ (n : Word). put name (Some e) w.devices n ≡ w.devices n) here (put_same name (Some e) w.devices ∙ ap (λ (x : Device). Some x) device ∙ sym is)
      | inr differ ↦ put_other name other (Some e) w.devices differ
    ]

-- where the first block is wiped or is as it was, no device has a header that it had not
pub torn_back : (name : Word) (old new : World) → (IsMemberDevice old.group name → ⊥) → HasContents name (IsTorn 0 (replicate 512 0)) old new → (dg : Word) → HadEach dg old new
torn_back name old new idle has dg = subst (HadEach dg old) (sym has.is) (by (has.goes 0))
  where
    whole : has.contents 0 ≡ has.device.contents 0 → (k : ℕ) → has.contents k ≡ has.device.contents k
    whole same zero = same
    whole same (suc k) = behind_first has.device.contents has.contents has.goes (suc k) (omega arith)

    by : (has.contents 0 ≡ has.device.contents 0) ⊎ (has.contents 0 ≡ written 0 (replicate 512 0) has.device.contents 0) → HadEach dg old (record old { devices = put name (Some (record { sectors = has.device.sectors; contents = has.contents })) old.devices })
    by (inl same) = subst (HadEach dg old) (sym (same_put old name has.device (record { sectors = has.device.sectors; contents = has.contents }) has.was refl (whole same))) (λ other slot d h. h)
    by (inr wiped) =
        back old name (record { sectors = has.device.sectors; contents = has.contents })
        (λ label header large. never_some (header_of (has.contents 0)) label (ap header_of wiped ∙ none_filled 0) header) idle dg

-- the first block is wiped or is as it was
pub standing_torn : (name : Word) (old new : World) → IsStanding old → (IsMemberDevice old.group name → ⊥) → HasContents name (IsTorn 0 (replicate 512 0)) old new → IsStanding new
standing_torn name old new s idle has = subst IsStanding (sym has.is) (by (has.goes 0))
  where
    whole : has.contents 0 ≡ has.device.contents 0 → (k : ℕ) → has.contents k ≡ has.device.contents k
    whole same zero = same
    whole same (suc k) = behind_first has.device.contents has.contents has.goes (suc k) (omega arith)

    by : (has.contents 0 ≡ has.device.contents 0) ⊎ (has.contents 0 ≡ written 0 (replicate 512 0) has.device.contents 0) → IsStanding (record old { devices = put name (Some (record { sectors = has.device.sectors; contents = has.contents })) old.devices })
    by (inl same) = subst IsStanding (sym (same_put old name has.device (record { sectors = has.device.sectors; contents = has.contents }) has.was refl (whole same))) s
    by (inr wiped) =
        standing_put old name (record { sectors = has.device.sectors; contents = has.contents })
        (λ label header large. never_some (header_of (has.contents 0)) label (ap header_of wiped ∙ none_filled 0) header) idle s

pub standing_wiped : (name : Word) (old new : World) → IsStanding old → (IsMemberDevice old.group name → ⊥) → HasContents name (λ c d. (k : ℕ) → d k ≡ written 0 (replicate 512 0) c k) old new → IsStanding new
standing_wiped name old new s idle has =
    standing_torn name old new s idle (record { device = has.device; contents = has.contents; was = has.was; goes = λ k. inr (has.goes k); is = has.is })
