-- What stays sound where the world changes little: headers stay or go, and the group's devices stay.
use Rattle.std.proofs.Common.{◌≡◌, ℕ, true, Option, Some, None, MatchOption, sym, ◌∙◌, ap, subst, inl, arith}
use Rattle.vx_base.specs.Named.{Word}
use Rattle.vx_mask.specs.Mask.{has}
use Rattle.vx_header.specs.Named.{header_of}
use Rattle.vx_copies.specs.Lists.{AllOf}
use Rattle.vx_moments.specs.World.{World, Device, Volume, Member, Group, Lies, OnDevice, OnPlexes}
use Rattle.vx_moments.specs.Holding.{IsLent, HasDevice}
use Rattle.vx_moments.specs.Leaving.{PowerGoes, IsLeftBy, group_gone}
use Rattle.vx_sound.specs.Offers.{IsHeaded}
use Rattle.vx_sound.specs.Sound.{AreSound}
use Rattle.vx_sound.specs.Standing.{HoldsNoHeader, HoldsNoneOn, IsOwn, Carries, IsLeading, IsStanding, NamesAreApart}
use Rattle.vx_sound.proofs.Headers.{size_above, never_some, some_same}
use Rattle.vx_sound.proofs.Fewer.{HadEach, HasOrNone, offered, chained_fewer}
use Rattle.vx_sound.proofs.Lists.{all_two}
use Rattle.vx_moments.proofs.Lone.{lone_was, none_lone, lent_was, lent_still}

-- the world is sound once its group leaves
pub record IsSettled (w : World) : Type 0 where
  pub copies : AreSound w
  pub volumes : (vol : Word) (v : Volume) → w.volumes vol ≡ Some v → HoldsNoHeader v

pub settled : (w : World) → IsStanding w → IsSettled w
settled w s = record { copies = s.copies; volumes = s.volumes }

-- the member's device stays, and is not lent anew
pub record MemberStays (old new : World) (m : Member) : Type 0 where
  pub device : new.devices m.device ≡ old.devices m.device
  pub apart : IsLent new m.device → IsLent old m.device

-- headers stay or go, and the group's devices stay
pub record IsLittle (old new : World) : Type 0 where
  pub had : (dg : Word) → HadEach dg old new
  pub stays : (dg : Word) → HasOrNone dg old new
  pub group : new.group ≡ old.group
  pub members : MatchOption old.group (Unit {0}) (λ g. AllOf (MemberStays old new) g.members)

module _ (old new : World) (change : IsLittle old new) where
  own_kept : (dg : Word) (m : Member) → MemberStays old new m → IsOwn dg old m → IsOwn dg new m
  own_kept dg m stays own = record { device = own.device; is = stays.device ∙ own.is; apart = λ lent. own.apart (stays.apart lent); header = own.header }

  carries_kept : (g : Group) (m : Member) → MemberStays old new m → (has g.good m.slot ≡ true → Carries old g m) → has g.good m.slot ≡ true → Carries new g m
  carries_kept g m stays carries is =
      let was = carries is in
      let h = was.offers.headed in
      record {
        text = was.text;
        text_is = was.text_is;
        offers = record {
          device = was.offers.device;
          headed = record { device = stays.device ∙ h.device; apart = λ lent. h.apart (stays.apart lent); label = h.label; header = h.header; group = h.group; slot_is = h.slot_is; size = h.size };
          offer = was.offers.offer;
        };
      }

  leading_kept : (g : Group) → AllOf (MemberStays old new) g.members → IsLeading old g → IsLeading new g
  leading_kept g stays l = record {
    own = all_two (MemberStays old new) (IsOwn g.config.group old) (IsOwn g.config.group new) g.members (own_kept g.config.group) stays l.own;
    carrying = all_two (MemberStays old new) (λ m. has g.good m.slot ≡ true → Carries old g m) (λ m. has g.good m.slot ≡ true → Carries new g m) g.members (carries_kept g) stays l.carrying;
    newest = λ name slot o h. l.newest name slot o (offered g.config.group old new (change.had g.config.group) name slot o h);
    some = l.some;
    recorded = l.recorded;
  }

  group_kept : (g : Option Group) → MatchOption g (Unit {0}) (λ g. AllOf (MemberStays old new) g.members) → MatchOption g (Unit {0}) (IsLeading old) → MatchOption g (Unit {0}) (IsLeading new)
  group_kept None stays l = tt
  group_kept (Some g) stays l = leading_kept g stays l

  pub sound_still : AreSound old → AreSound new
  sound_still sound dg = chained_fewer dg old new (change.had dg) (change.stays dg) (sound dg)

  pub standing_still : IsStanding old → NamesAreApart new → ((vol : Word) (v : Volume) → new.volumes vol ≡ Some v → HoldsNoHeader v) → IsStanding new
  standing_still s names volumes = record {
    copies = sound_still s.copies;
    group = subst (λ (g : Option Group). MatchOption g (Unit {0}) (IsLeading new)) (sym change.group) (group_kept old.group change.members s.group);
    volumes = volumes;
    names = names;
  }

-- ---- the group leaves

module _ (w : World) where
  pub gone_back : (dg : Word) → HadEach dg w (group_gone w)
  gone_back dg name slot d h = record { device = h.device; apart = λ lent. h.apart (lent_still w name lent); label = h.label; header = h.header; group = h.group; slot_is = h.slot_is; size = h.size }

  gone_fore : (dg : Word) → HasOrNone dg w (group_gone w)
  gone_fore dg name slot d h = inl (record { device = h.device; apart = λ lent. h.apart (lent_was w name lent); label = h.label; header = h.header; group = h.group; slot_is = h.slot_is; size = h.size })

  pub standing_gone : IsSettled w → IsStanding (group_gone w)
  standing_gone s = record {
    copies = λ dg. chained_fewer dg w (group_gone w) (gone_back dg) (gone_fore dg) (s.copies dg);
    group = tt;
    volumes = λ vol v is. s.volumes vol v (lone_was (w.volumes vol) v is);
    names = λ vol is. cc;
  }

-- ---- the power goes

module _ (old new : World) (goes : PowerGoes old new) (s : IsSettled old) where
  -- no volume is left to lie on a device
  none_lent : (name : Word) → IsLent new name → ⊥
  none_lent name (vol, v, is, lies) = never_some (new.volumes vol) v (goes.volumes vol) is

  -- what stands for a volume has no header
  stands : (dg name : Word) (slot : ℕ) (d : Device) (v : Volume) (lies : Lies) → HoldsNoneOn lies v → HasDevice lies name → IsLeftBy v lies new.devices → IsHeaded dg new name slot d → ⊥
  stands dg name slot d v (OnPlexes plexes) holds has left h = has
  stands dg name slot d v (OnDevice device) holds has (e, is, stand) h =
      let same : e ≡ d = some_same e d (sym is ∙ ap (λ (n : Word). new.devices n) has ∙ h.device) in
      let large = size_above dg new name slot d h in
      let size : d.sectors ≡ v.length = ap (λ (x : Device). x.sectors) (sym same) ∙ stand.sectors in
      let first = stand.contents 0 (omega arith) in
      never_some (header_of (d.contents 0)) h.label (ap (λ (x : Device). header_of (x.contents 0)) (sym same) ∙ holds (e.contents 0) first) h.header

  was_apart : (dg name : Word) (slot : ℕ) (d : Device) → IsHeaded dg new name slot d → IsLent old name → ⊥
  was_apart dg name slot d h (vol, v, is, lies) = stands dg name slot d v v.lies (s.volumes vol v is) lies (goes.stand vol v is) h

  pub power_back : (dg : Word) → HadEach dg old new
  power_back dg name slot d h =
      let apart = was_apart dg name slot d h in
      record { device = sym (goes.others name apart) ∙ h.device; apart = apart; label = h.label; header = h.header; group = h.group; slot_is = h.slot_is; size = h.size }

  power_fore : (dg : Word) → HasOrNone dg old new
  power_fore dg name slot d h = inl (record { device = goes.others name h.apart ∙ h.device; apart = none_lent name; label = h.label; header = h.header; group = h.group; slot_is = h.slot_is; size = h.size })

  pub standing_left : IsStanding new
  standing_left = record {
    copies = λ dg. chained_fewer dg old new (power_back dg) (power_fore dg) (s.copies dg);
    group = subst (λ (g : Option Group). MatchOption g (Unit {0}) (IsLeading new)) (sym goes.no_group) tt;
    volumes = λ vol v is. never_some (new.volumes vol) v (goes.volumes vol) is;
    names = λ vol is. none_lone (new.volumes vol) (goes.volumes vol);
  }
