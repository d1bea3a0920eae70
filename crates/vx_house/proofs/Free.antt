-- Which devices are free, as the shelf tells it and as the world has it.
use Rattle.std.proofs.Common.{◌≡◌, ◌∙◌, ◌⊎◌, Bool, true, false, cond, ◌||◌, List, [], ◌∷◌, ◌++◌, map, Option, Some, None, refl, sym, ap, subst, inl, inr}
use Rattle.std.specs.Prelude.{IsSome}
use Rattle.std.specs.Str.{bytes_eq}
use Rattle.vx_pages.specs.declared.local_piece.LocalPiece.{Ghosts}
use Rattle.vx_base.specs.Named.{Word}
use Rattle.vx_base.proofs.NamedLemmas.{bytes_eq_same}
use Rattle.vx_piece.specs.Seen.{Seen}
use Rattle.vx_shelf.specs.Shelf.{Held, IsNowhere}
use Rattle.vx_shelf.specs.Shelf.{held_as as held_of}
use Rattle.vx_copies.specs.Lists.{AllOf, AnyOf}
use Rattle.vx_copies.specs.Disks.{DiskSeen}
use Rattle.vx_started.specs.declared.started.Started.{Started}
use Rattle.vx_moments.specs.World.{World, Device, Volume, Member, Lies, OnDevice}
use Rattle.vx_moments.specs.Leaving.{lone}
use Rattle.vx_moments.proofs.Lone.{lone_was, lone_stays}
use Rattle.vx_moments.specs.Holding.{IsHeld, IsLent, IsMemberDevice, HasDevice, is_among}
use Rattle.vx_stages.specs.Stages.{IsFree}
use Rattle.vx_house.specs.Holders.{Holder, holders, volume_holder, holder_in, hand_holder, group_holders, whole_members, hand_names, volume_at, held_as, AreHeld, IsTakenFrom}
use Rattle.vx_house.specs.Scene.{Scene, seen_in, seen_at}
use Rattle.vx_house.specs.View.{IsDeviceOf, IsVolumeOf, IsAtVolume, member_in, group_of, is_lent, KeepsHouse}
use Rattle.vx_house.specs.declared.house.House.{House}
use Rattle.vx_house.specs.declared.house.Imported.{Imported}
use Rattle.vx_house.specs.declared.house.Taken.{Taken}
use Rattle.vx_house.proofs.AllLaws.{all_front, all_back, all_unmapped, held_by_one, found_by_one, found_each}
use Rattle.vx_house.proofs.Wholes.{group_members}

-- an entry that passes both, in a list where each that passes the first passes the other
gone : (o : Option Held) (h : Held) → o ≡ None → o ≡ Some h → ⊥
gone o h n is = cc

-- nothing is held under a name that the shelf did not give
pub not_held : (held : Word → Option Held) (hs : List Holder) (name : Word) → AllOf (IsTakenFrom held) hs → held name ≡ None → held_as hs name ≡ None
not_held held hs name taken none = by_seen (held_as hs name) refl
  where
    by_seen : (o : Option Seen) → held_as hs name ≡ o → held_as hs name ≡ None
    by_seen None e = e
    by_seen (Some seen) e = absurd (held_by_one (IsTakenFrom held) hs name seen e taken (λ h named is from. gone (held h.name) (held_of h.seen) (ap held named ∙ none) from.1))

disks_out : (held : Word → Option Held) (hs : List DiskSeen) (name : Word) → AllOf (IsTakenFrom held) (map holder_in hs) → AnyOf (λ (m : Member). m.device ≡ name) (map member_in hs) → IsSome (held name)
disks_out held [] name taken any = absurd any
disks_out held (h ∷ hs) name taken (inl is) = subst IsSome (sym (ap held (sym is) ∙ taken.0.1)) refl
disks_out held (h ∷ hs) name taken (inr any) = disks_out held hs name taken.1 any

group_out : {P : Type 0} {ghosts : Ghosts P} (see : P → Seen) (held : Word → Option Held) (o : Option (Imported P ghosts)) (name : Word) → AllOf (IsTakenFrom held) (group_holders see o) → IsMemberDevice (group_of see o) name → IsSome (held name)
group_out see held None name taken is = absurd is
group_out see held (Some g) name taken is = disks_out held (whole_members see g) name taken (subst (AnyOf (λ (m : Member). m.device ≡ name)) (group_members see g) is)

hand_out : {P : Type 0} (see : P → Seen) (held : Word → Option Held) (ts : List (Taken P)) (name : Word) → AllOf (IsTakenFrom held) (map (hand_holder see) ts) → is_among name (map (λ t. t.device) ts) ≡ true → IsSome (held name)
hand_out see held [] name taken is = cc
hand_out see held (t ∷ ts) name taken is = by_test (bytes_eq t.device name) refl (hand_out see held ts name taken.1) is
  where
    by_test : (b : Bool) → bytes_eq t.device name ≡ b → (is_among name (map (λ t. t.device) ts) ≡ true → IsSome (held name)) → (b || is_among name (map (λ t. t.device) ts)) ≡ true → IsSome (held name)
    by_test true e rest is = subst IsSome (sym (ap held (sym (bytes_eq_same t.device name e)) ∙ taken.0.1)) refl
    by_test false e rest is = rest is

-- the device that a volume has
on_device : (l : Lies) (device name : Word) → l ≡ OnDevice device → HasDevice l name → device ≡ name
on_device l device name is has = subst (λ x. HasDevice x name) is has

pub at_world : {P : Type 0} (see : P → Seen) (o : Option (Started P)) (v : Volume) → IsAtVolume see o (Some v) → (b : Started P) × (o ≡ Some b) × IsVolumeOf see b v
at_world see None v is = absurd is
at_world see (Some b) v is = (b, refl, is)

pub at_house : {P : Type 0} (see : P → Seen) (b : Started P) (o : Option Volume) → IsAtVolume see (Some b) o → (v : Volume) × (o ≡ Some v) × IsVolumeOf see b v
at_house see b None is = absurd is
at_house see b (Some v) is = (v, refl, is)

pub at_lone : {P : Type 0} (see : P → Seen) (b : Started P) (o : Option Volume) → IsAtVolume see (Some b) (lone o) → (v : Volume) × (o ≡ Some v) × IsVolumeOf see b v
at_lone see b o is = let v = at_house see b (lone o) is in (v.0, lone_was o v.0 v.1, v.2)

-- held under a name by one of two lists
held_either : (xs ys : List Holder) (name : Word) (seen : Seen) → held_as (xs ++ ys) name ≡ Some seen → (held_as xs name ≡ Some seen) ⊎ (held_as ys name ≡ Some seen)
held_either [] ys name seen is = inr is
held_either (x ∷ xs) ys name seen is = by_test (bytes_eq x.name name) (held_either xs ys name seen) is
  where
    by_test : (b : Bool) → (held_as (xs ++ ys) name ≡ Some seen → (held_as xs name ≡ Some seen) ⊎ (held_as ys name ≡ Some seen)) → cond b (Some x.seen) (held_as (xs ++ ys) name) ≡ Some seen → (cond b (Some x.seen) (held_as xs name) ≡ Some seen) ⊎ (held_as ys name ≡ Some seen)
    by_test true rest e = inl e
    by_test false rest e = rest e

disks_in : (hs : List DiskSeen) (name : Word) (seen : Seen) → held_as (map holder_in hs) name ≡ Some seen → AnyOf (λ (m : Member). m.device ≡ name) (map member_in hs)
disks_in [] name seen is = cc
disks_in (h ∷ hs) name seen is = by_test (bytes_eq h.device name) refl (disks_in hs name seen) is
  where
    by_test : (b : Bool) → bytes_eq h.device name ≡ b → (held_as (map holder_in hs) name ≡ Some seen → AnyOf (λ (m : Member). m.device ≡ name) (map member_in hs)) → cond b (Some h.seen) (held_as (map holder_in hs) name) ≡ Some seen → AnyOf (λ (m : Member). m.device ≡ name) (map member_in (h ∷ hs))
    by_test true e rest is = inl (bytes_eq_same h.device name e)
    by_test false e rest is = inr (rest is)

group_in : {P : Type 0} {ghosts : Ghosts P} (see : P → Seen) (o : Option (Imported P ghosts)) (name : Word) (seen : Seen) → held_as (group_holders see o) name ≡ Some seen → IsMemberDevice (group_of see o) name
group_in see None name seen is = cc
group_in see (Some g) name seen is = subst (AnyOf (λ (m : Member). m.device ≡ name)) (sym (group_members see g)) (disks_in (whole_members see g) name seen is)

hand_in : {P : Type 0} (see : P → Seen) (ts : List (Taken P)) (name : Word) (seen : Seen) → held_as (map (hand_holder see) ts) name ≡ Some seen → is_among name (map (λ t. t.device) ts) ≡ true
hand_in see [] name seen is = cc
hand_in see (t ∷ ts) name seen is = by_test (bytes_eq t.device name) (hand_in see ts name seen) is
  where
    by_test : (b : Bool) → (held_as (map (hand_holder see) ts) name ≡ Some seen → is_among name (map (λ t. t.device) ts) ≡ true) → cond b (Some (see t.piece)) (held_as (map (hand_holder see) ts) name) ≡ Some seen → (b || is_among name (map (λ t. t.device) ts)) ≡ true
    by_test true rest is = refl
    by_test false rest is = rest is

-- a volume whose entry has the device
volumes_in : {P : Type 0} (see : P → Seen) (es : List (Word × Started P)) (w : World) (name : Word) (seen : Seen) → AllOf (λ e. (v : Volume) × (w.volumes e.0 ≡ Some v) × IsVolumeOf see e.1 v) es → held_as (map (volume_holder see) es) name ≡ Some seen → IsLent w name
volumes_in see [] w name seen all is = cc
volumes_in see (e ∷ es) w name seen all is = by_test (bytes_eq e.1.device name) refl (volumes_in see es w name seen all.1) is
  where
    by_test : (b : Bool) → bytes_eq e.1.device name ≡ b → (held_as (map (volume_holder see) es) name ≡ Some seen → IsLent w name) → cond b (Some (see e.1.piece)) (held_as (map (volume_holder see) es) name) ≡ Some seen → IsLent w name
    by_test true same rest is = (e.0, all.0.0, all.0.1, subst (λ l. HasDevice l name) (sym all.0.2.lies) (bytes_eq_same e.1.device name same))
    by_test false same rest is = rest is

module _ {P : Type 0} {ghosts : Ghosts P} (see : P → Seen) (h : House P ghosts) (w : World) (volumes : (vol : Word) → IsAtVolume see (volume_at h vol) (lone (w.volumes vol))) (group : w.group ≡ group_of see h.group) where
  volume_out : (held : Word → Option Held) → AllOf (IsTakenFrom held) (map (volume_holder see) h.volumes.entries) → (name vol : Word) (v : Volume) → w.volumes vol ≡ Some v → HasDevice v.lies name → IsSome (held name)
  volume_out held each name vol v is lies =
      let b = at_world see (volume_at h vol) v (subst (IsAtVolume see (volume_at h vol)) (lone_stays (w.volumes vol) v name is lies) (volumes vol)) in
      found_by_one (λ e. IsTakenFrom held (volume_holder see e)) h.volumes.entries vol b.0 b.1
      (all_unmapped (IsTakenFrom held) (volume_holder see) h.volumes.entries each)
      (λ e named one taken. subst IsSome (sym (ap held (sym (on_device v.lies b.0.device name b.2.lies lies) ∙ ap (λ (x : Started P). x.device) (sym one)) ∙ taken.1)) refl)

  -- what the world holds was taken from the shelf
  pub held_out : (held : Word → Option Held) → AllOf (IsTakenFrom held) (holders see h) → (name : Word) → IsHeld w name → IsSome (held name)
  held_out held each name (inl (vol, v, is, lies)) = volume_out held (all_front (IsTakenFrom held) (map (volume_holder see) h.volumes.entries) _ each) name vol v is lies
  held_out held each name (inr is) =
      let rest = all_back (IsTakenFrom held) (map (volume_holder see) h.volumes.entries) _ each in
      group_out see held h.group name (all_front (IsTakenFrom held) (group_holders see h.group) _ rest) (subst (λ o. IsMemberDevice o name) group is)

  pub hand_was_out : (held : Word → Option Held) → AllOf (IsTakenFrom held) (holders see h) → (name : Word) → is_among name (hand_names h) ≡ true → IsSome (held name)
  hand_was_out held each name is =
      let rest = all_back (IsTakenFrom held) (map (volume_holder see) h.volumes.entries) _ each in
      hand_out see held h.hand.items name (all_back (IsTakenFrom held) (group_holders see h.group) _ rest) is

  entry_at : (keeps : KeepsHouse see h) → AllOf (λ e. (v : Volume) × (w.volumes e.0 ≡ Some v) × IsVolumeOf see e.1 v) h.volumes.entries
  entry_at keeps = all_entries h.volumes.entries (found_each h.volumes.entries keeps.ordered)
    where
      all_entries : (es : List (Word × Started P)) → AllOf (λ e. volume_at h e.0 ≡ Some e.1) es → AllOf (λ e. (v : Volume) × (w.volumes e.0 ≡ Some v) × IsVolumeOf see e.1 v) es
      all_entries [] all = tt
      all_entries (e ∷ es) all = (at_lone see e.1 (w.volumes e.0) (subst (λ o. IsAtVolume see o (lone (w.volumes e.0))) all.0 (volumes e.0)), all_entries es all.1)

  -- what the house holds is in hand, or held in the world
  pub held_in : KeepsHouse see h → (name : Word) (seen : Seen) → held_as (holders see h) name ≡ Some seen → (is_among name (hand_names h) ≡ true) ⊎ IsHeld w name
  held_in keeps name seen is = by_front (held_either (map (volume_holder see) h.volumes.entries) _ name seen is)
    where
      by_back : (held_as (group_holders see h.group) name ≡ Some seen) ⊎ (held_as (map (hand_holder see) h.hand.items) name ≡ Some seen) → (is_among name (hand_names h) ≡ true) ⊎ IsHeld w name
      by_back (inl in_group) = inr (inr (subst (λ o. IsMemberDevice o name) (sym group) (group_in see h.group name seen in_group)))
      by_back (inr in_hand) = inl (hand_in see h.hand.items name seen in_hand)

      by_front : (held_as (map (volume_holder see) h.volumes.entries) name ≡ Some seen) ⊎ (held_as (group_holders see h.group ++ map (hand_holder see) h.hand.items) name ≡ Some seen) → (is_among name (hand_names h) ≡ true) ⊎ IsHeld w name
      by_front (inl at_volume) = inr (inl (volumes_in see h.volumes.entries w name seen (entry_at keeps) at_volume))
      by_front (inr behind) = by_back (held_either (group_holders see h.group) _ name seen behind)

-- a device that is told and not held
some_device : (lent : Bool) (seen : Seen) (o : Option Device) → IsDeviceOf lent (Some seen) o → IsSome o
some_device lent seen None of = absurd of
some_device lent seen (Some d) of = refl

no_device : (lent : Bool) (o : Option Device) → IsDeviceOf lent None o → o ≡ None
no_device lent None of = refl
no_device lent (Some d) of = absurd of

some_seen : (lent : Bool) (x : Option Seen) (o : Option Device) → IsDeviceOf lent x o → IsSome o → (seen : Seen) × (x ≡ Some seen)
some_seen lent None None of some = cc
some_seen lent None (Some d) of some = absurd of
some_seen lent (Some seen) o of some = (seen, refl)

not_some : (o : Option Held) → IsSome o → o ≡ None → ⊥
not_some o some none = cc

-- what the world says of devices, where the house holds all that was taken
module _ {P : Type 0} {ghosts : Ghosts P} (see : P → Seen) (s : Scene) (h : House P ghosts) (are : AreHeld s.shelf.held (holders see h)) (taken : s.taken ≡ holders see h) (keeps : KeepsHouse see h) (w : World)
    (volumes : (vol : Word) → IsAtVolume see (volume_at h vol) (lone (w.volumes vol))) (group : w.group ≡ group_of see h.group) (devices : Word → Option Seen) (told : s.shelf.free ≡ Some devices)
    (devices_are : (name : Word) → IsDeviceOf (is_lent h name) (seen_at s name) (w.devices name)) where
  seen_none : (name : Word) → s.shelf.held name ≡ None → seen_at s name ≡ devices name
  seen_none name none =
      ap (λ hs. seen_in (held_as hs name) s.shelf.free name) taken
      ∙ ap (λ o. seen_in o s.shelf.free name) (not_held s.shelf.held (holders see h) name are.each none)
      ∙ ap (λ f. seen_in None f name) told

  -- a device that is told is free
  pub told_is_free : (name : Word) (seen : Seen) → s.shelf.held name ≡ None → devices name ≡ Some seen → IsFree w (hand_names h) name
  told_is_free name seen none is = (
    some_device (is_lent h name) seen (w.devices name) (subst (λ o. IsDeviceOf (is_lent h name) o (w.devices name)) (seen_none name none ∙ is) (devices_are name)),
    (λ held. not_some (s.shelf.held name) (held_out see h w volumes group s.shelf.held are.each name held) none, by_test (is_among name (hand_names h)) refl),
  )
    where
      by_test : (b : Bool) → is_among name (hand_names h) ≡ b → is_among name (hand_names h) ≡ false
      by_test false e = e
      by_test true e = absurd (not_some (s.shelf.held name) (hand_was_out see h w volumes group s.shelf.held are.each name e) none)

  -- a device that was taken is in hand, or held in the world
  pub taken_is_held : (name : Word) → IsSome (s.shelf.held name) → (is_among name (hand_names h) ≡ true) ⊎ IsHeld w name
  taken_is_held name some = by_seen (held_as (holders see h) name) refl
    where
      by_seen : (o : Option Seen) → held_as (holders see h) name ≡ o → (is_among name (hand_names h) ≡ true) ⊎ IsHeld w name
      by_seen None e = absurd (not_some (s.shelf.held name) some (are.only name e))
      by_seen (Some seen) e = held_in see h w volumes group keeps name seen e

  -- where no device has the name, the world has none
  pub nowhere_is_none : (name : Word) → IsNowhere name devices s.shelf.held → w.devices name ≡ None
  nowhere_is_none name nowhere = no_device (is_lent h name) (w.devices name) (subst (λ o. IsDeviceOf (is_lent h name) o (w.devices name)) (seen_none name nowhere.not_held ∙ nowhere.not_free) (devices_are name))

  -- a device that is free is told, and not held
  pub free_is_told : (name : Word) → IsFree w (hand_names h) name → (s.shelf.held name ≡ None) × ((seen : Seen) × (devices name ≡ Some seen))
  free_is_told name free = by_held (s.shelf.held name) refl
    where
      away : (is_among name (hand_names h) ≡ true) ⊎ IsHeld w name → ⊥
      away (inl among) = let no = free.1.1 in cc
      away (inr held) = free.1.0 held

      by_held : (o : Option Held) → s.shelf.held name ≡ o → (s.shelf.held name ≡ None) × ((seen : Seen) × (devices name ≡ Some seen))
      by_held (Some x) e = absurd (away (taken_is_held name (subst IsSome (sym e) refl)))
      by_held None e =
          let there = some_seen (is_lent h name) (seen_at s name) (w.devices name) (devices_are name) free.0 in
          (e, (there.0, sym (seen_none name e) ∙ there.1))
