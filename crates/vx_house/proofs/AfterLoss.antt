-- The moments behind a command: the same where nothing was lost; without the group; or without the group and all volumes.
use Rattle.std.proofs.Common.{◌≡◌, ◌∙◌, ℕ, Bool, true, false, ◌||◌, List, [], ◌∷◌, map, Option, Some, None, refl, sym, ap, subst}
use Rattle.std.specs.Prelude.{IsSome}
use Rattle.std.specs.List.{list_any}
use Rattle.std.specs.Str.{bytes_eq}
use Rattle.std.specs.BTreeMap.{BTreeMap, get}
use Rattle.std.specs.Cmp.Lexicographic.{slice_cmp}
use Rattle.std.specs.Ordering.{nat_cmp}
use Rattle.vx_pages.specs.declared.local_piece.LocalPiece.{Ghosts}
use Rattle.vx_base.specs.Blocks.{Contents}
use Rattle.vx_base.specs.Named.{Word}
use Rattle.vx_base.proofs.NamedLemmas.{bytes_eq_self, bytes_eq_same}
use Rattle.vx_piece.specs.Seen.{Seen}
use Rattle.vx_life.specs.Candidates.{Candidates, IsChosen}
use Rattle.vx_copies.specs.Lists.{AllOf}
use Rattle.vx_started.specs.Stands.{IsAmongTold}
use Rattle.vx_started.specs.declared.started.Started.{Started}
use Rattle.vx_answers.specs.declared.answer.End.TheVariants as ends
use Rattle.vx_moments.specs.Holding.{IsLent, HasDevice}
use Rattle.vx_moments.specs.Leaving.{PowerGoes, IsLeftBy, group_gone, lone}
use Rattle.vx_moments.proofs.Lone.{lone_stays, lone_twice, lone_grouped}
use Rattle.vx_moments.specs.Moment.{Moment}
use Rattle.vx_moments.specs.World.{World, Device, Volume, Lies, OnDevice, OnPlexes}
use Rattle.vx_house.specs.Holders.{holders, held_as, volume_at, volume_holder}
use Rattle.vx_house.specs.Leaves.{IsLeft}
use Rattle.vx_house.specs.Runs.{AreRuns, IsAtRun}
use Rattle.vx_house.specs.Scene.{seen_in, seen_at}
use Rattle.vx_house.specs.Unmoved.{Unmoved}
use Rattle.vx_house.specs.View.{View, scene, is_lent, IsDeviceOf, IsVolumeOf, IsAtVolume, group_of, IsMoment, IsMomentButGroup, KeepsButGroup}
use Rattle.vx_house.specs.declared.house.House.{House}
use Rattle.vx_house.proofs.Free.{at_world, at_lone}
use Rattle.vx_house.proofs.AllLaws.{found_in, found_by_one, found_each, held_each, all_front}
use Rattle.vx_house.proofs.Moments.{counts_moved}

-- the contents that are told
abbrev pub contents_in : Option Contents → Contents
contents_in None = λ k. []
contents_in (Some contents) = contents

told_in : (o : Option Contents) → IsSome o → o ≡ Some (contents_in o)
told_in None some = cc
told_in (Some c) some = refl

-- a device as it is seen
abbrev device_in : Option Seen → Option Device
device_in None = None
device_in (Some seen) = Some (record { sectors = seen.sectors; contents = contents_in seen.told })

-- the device is one that a volume has: it gets what it holds; else it has what it had
abbrev left_device : Bool → Option Seen → Option Device → Option Device
left_device true seen before = device_in seen
left_device false seen before = before

-- an entry has the device
any_entry : {P : Type 0} (es : List (Word × Started P)) (name : Word) → list_any (λ e. bytes_eq e.1.device name) es ≡ true → {R : Type 0} → (Q : Word × Started P → Type 0) → AllOf Q es → ((e : Word × Started P) → e.1.device ≡ name → Q e → R) → R
any_entry [] name is Q all f = cc
any_entry (e ∷ es) name is {R = R} Q all f = by_test (bytes_eq e.1.device name) refl (λ rest. any_entry es name rest Q all.1 f) is
  where
    by_test : (b : Bool) → bytes_eq e.1.device name ≡ b → (list_any (λ e. bytes_eq e.1.device name) es ≡ true → R) → (b || list_any (λ e. bytes_eq e.1.device name) es) ≡ true → R
    by_test true same rest is = f e (bytes_eq_same e.1.device name same) all.0
    by_test false same rest is = rest is

entry_any : {P : Type 0} (es : List (Word × Started P)) → AllOf (λ e. list_any (λ x. bytes_eq x.1.device e.1.device) es ≡ true) es
entry_any [] = tt
entry_any {P = P} (e ∷ es) = (by (bytes_eq e.1.device e.1.device) (bytes_eq_self e.1.device), later es (entry_any es))
  where
    by : (b : Bool) → b ≡ true → (b || list_any (λ x. bytes_eq x.1.device e.1.device) es) ≡ true
    by true is = refl
    by false is = cc

    or_true : (a b : Bool) → b ≡ true → (a || b) ≡ true
    or_true true b is = refl
    or_true false b is = is

    later : (xs : List (Word × Started P)) → AllOf (λ x. list_any (λ y. bytes_eq y.1.device x.1.device) es ≡ true) xs → AllOf (λ x. list_any (λ y. bytes_eq y.1.device x.1.device) (e ∷ es) ≡ true) xs
    later [] all = tt
    later (x ∷ xs) all = (or_true (bytes_eq e.1.device x.1.device) (list_any (λ y. bytes_eq y.1.device x.1.device) es) all.0, later xs all.1)

module _ {P : Type 0} {ghosts : Ghosts P} (see : P → Seen) (old : View P ghosts) (m : Moment) (is : IsMomentButGroup see old m) (keeps : KeepsButGroup see old) where
  abbrev h : House P ghosts
  h = old.house

  -- each volume that is started is one of the world's
  started : AllOf (λ e. (v : Volume) × (m.world.volumes e.0 ≡ Some v) × IsVolumeOf see e.1 v) h.volumes.entries
  started = all_entries h.volumes.entries (found_each h.volumes.entries keeps.ordered)
    where
      all_entries : (es : List (Word × Started P)) → AllOf (λ e. volume_at h e.0 ≡ Some e.1) es → AllOf (λ e. (v : Volume) × (m.world.volumes e.0 ≡ Some v) × IsVolumeOf see e.1 v) es
      all_entries [] all = tt
      all_entries (e ∷ es) all = (at_lone see e.1 (m.world.volumes e.0) (subst (λ o. IsAtVolume see o (lone (m.world.volumes e.0))) all.0 (is.volumes_are e.0)), all_entries es all.1)

  -- a device that a volume has is lent in the world
  lent_there : (name : Word) → is_lent h name ≡ true → IsLent m.world name
  lent_there name lent = any_entry h.volumes.entries name lent (λ e. (v : Volume) × (m.world.volumes e.0 ≡ Some v) × IsVolumeOf see e.1 v) started
      (λ e named v. (e.0, v.0, v.1, subst (λ l. HasDevice l name) (sym v.2.lies) named))

  -- the device of a volume is lent, and seen as its piece
  module _ (vol : Word) (b : Started P) (here : volume_at h vol ≡ Some b) where
    lent_device : is_lent h b.device ≡ true
    lent_device = found_by_one (λ e. list_any (λ x. bytes_eq x.1.device e.1.device) h.volumes.entries ≡ true) h.volumes.entries vol b here (entry_any h.volumes.entries)
        (λ e named one any. subst (λ (x : Started P). list_any (λ y. bytes_eq y.1.device x.device) h.volumes.entries ≡ true) one any)

    seen_device : seen_at (scene see old) b.device ≡ Some (see b.piece)
    seen_device = ap (λ o. seen_in o old.shelf.free b.device) (found_by_one (λ e. held_as (holders see h) e.1.device ≡ Some (see e.1.piece)) h.volumes.entries vol b here
        (unmapped h.volumes.entries (all_front (λ x. held_as (holders see h) x.name ≡ Some x.seen) (map (volume_holder see) h.volumes.entries) _ (held_each (holders see h) keeps.devices.apart)))
        (λ e named one held. subst (λ (x : Started P). held_as (holders see h) x.device ≡ Some (see x.piece)) one held))
      where
        unmapped : (es : List (Word × Started P)) → AllOf (λ x. held_as (holders see h) x.name ≡ Some x.seen) (map (volume_holder see) es) → AllOf (λ e. held_as (holders see h) e.1.device ≡ Some (see e.1.piece)) es
        unmapped [] all = tt
        unmapped (e ∷ es) all = (all.0, unmapped es all.1)

  -- the world without the group and volumes
  abbrev pub left : World
  left = record {
    devices = λ name. left_device (is_lent h name) (seen_at (scene see old) name) (m.world.devices name);
    volumes = λ vol. None;
    group = None;
  }

  among_told : (n : ℕ) (o : Option Contents) (cs : Candidates) → IsAmongTold n o cs → IsSome o
  among_told n None cs among = absurd among
  among_told n (Some c) cs among = refl

  chosen_told : (n : ℕ) (o : Option Contents) (cs : Candidates) → IsAmongTold n o cs → IsChosen n cs (contents_in o)
  chosen_told n None cs among = absurd among
  chosen_told n (Some c) cs among = among

  stands : (vol : Word) (v : Volume) → m.world.volumes vol ≡ Some v → IsLeftBy v v.lies left.devices
  stands vol v here =
      by v.lies refl
    where
      lone_here : (device : Word) → v.lies ≡ OnDevice device → lone (m.world.volumes vol) ≡ Some v
      lone_here device lies = lone_stays (m.world.volumes vol) v device here (subst (λ l. HasDevice l device) (sym lies) refl)

      by_device : (device : Word) → v.lies ≡ OnDevice device → IsLeftBy v v.lies left.devices
      by_device device lies = let b = at_world see (volume_at h vol) v (subst (IsAtVolume see (volume_at h vol)) (lone_here device lies) (is.volumes_are vol)) in
          subst (λ l. IsLeftBy v l left.devices) (sym b.2.lies) (
            record { sectors = (see b.0.piece).sectors; contents = contents_in (see b.0.piece).told },
            ap (λ x. left_device x (seen_at (scene see old) b.0.device) (m.world.devices b.0.device)) (lent_device vol b.0 b.1) ∙ ap device_in (seen_device vol b.0 b.1),
            record { sectors = keeps.volumes vol b.0 b.1 ∙ sym b.2.length_is; contents = chosen_told v.length (see b.0.piece).told v.life.candidates b.2.stands.told },
          )

      by : (l : Lies) → v.lies ≡ l → IsLeftBy v v.lies left.devices
      by (OnDevice device) lies = by_device device lies
      by (OnPlexes plexes) lies = subst (λ l. IsLeftBy v l left.devices) (sym lies) tt

  pub power_goes : PowerGoes m.world left
  power_goes = record {
    volumes = λ vol. refl;
    no_group = refl;
    stand = stands;
    others = λ name none. others name none (is_lent h name) refl;
  }
    where
      others : (name : Word) → (IsLent m.world name → ⊥) → (b : Bool) → is_lent h name ≡ b → left_device b (seen_at (scene see old) name) (m.world.devices name) ≡ m.world.devices name
      others name none true lent = absurd (none (lent_there name lent))
      others name none false lent = refl

  -- the house holds nothing, and this is the moment
  module _ (new : View P ghosts) (gone : IsLeft see (ends.Lost []) old new) where
    no_lent : (name : Word) → is_lent new.house name ≡ false
    no_lent name = ap (λ es. list_any (λ e. bytes_eq e.1.device name) es) gone.stays.volumes

    told_lent : (name : Word) → is_lent h name ≡ true → (seen : Seen) × (seen_at (scene see old) name ≡ Some seen) × IsSome seen.told
    told_lent name lent = any_entry h.volumes.entries name lent (λ e. (volume_at h e.0 ≡ Some e.1) × ((v : Volume) × (m.world.volumes e.0 ≡ Some v) × IsVolumeOf see e.1 v)) (both h.volumes.entries (found_each h.volumes.entries keeps.ordered) started)
        (λ e named two. (see e.1.piece, subst (λ n. seen_at (scene see old) n ≡ Some (see e.1.piece)) named (seen_device e.0 e.1 two.0), among_told two.1.0.length (see e.1.piece).told two.1.0.life.candidates two.1.2.stands.told))
      where
        both : (es : List (Word × Started P)) → AllOf (λ e. volume_at h e.0 ≡ Some e.1) es → AllOf (λ e. (v : Volume) × (m.world.volumes e.0 ≡ Some v) × IsVolumeOf see e.1 v) es → AllOf (λ e. (volume_at h e.0 ≡ Some e.1) × ((v : Volume) × (m.world.volumes e.0 ≡ Some v) × IsVolumeOf see e.1 v)) es
        both [] one two = tt
        both (e ∷ es) one two = ((one.0, two.0), both es one.1 two.1)

    of_device : (name : Word) (b : Bool) → is_lent h name ≡ b → IsDeviceOf false (seen_at (scene see old) name) (left_device b (seen_at (scene see old) name) (m.world.devices name))
    of_device name true lent =
        let t = told_lent name lent in
        subst (λ o. IsDeviceOf false o (device_in o)) (sym t.1) (refl, λ e. told_in t.0.told t.2)
    of_device name false lent = subst (λ b. IsDeviceOf b (seen_at (scene see old) name) (m.world.devices name)) lent (is.devices_are name)

    pub all_gone : IsMoment see new (record { world = left; counts = m.counts })
    all_gone = record {
      told = gone.later.moved.told is.told;
      devices_are = λ name. subst (λ b. IsDeviceOf b (seen_at (scene see new) name) (left.devices name)) (sym (no_lent name))
          (subst (λ o. IsDeviceOf false o (left.devices name)) (sym (gone.later.moved.seen is.told name)) (of_device name (is_lent h name) refl));
      volumes_are = λ vol. subst (λ (o : Option (Started P)). IsAtVolume see o None) (sym (ap (λ es. found_in es vol) gone.stays.volumes)) tt;
      runs_are = subst (λ o. AreRuns see o None (λ vol. None)) (sym gone.stays.group) (λ name. tt);
      group_is = ap (group_of see) (sym gone.stays.group);
      counts = counts_moved (scene see old) (scene see new) m.counts gone.later.moved is.told is.counts;
    }

  -- the group has left, and all else is as before
  pub group_away : (new : View P ghosts) → Unmoved (scene see old) (scene see new) → new.house.volumes ≡ h.volumes → new.house.group ≡ None → IsMoment see new (record { world = group_gone m.world; counts = m.counts })
  group_away new moved volumes none = record {
    told = moved.told is.told;
    devices_are = λ name. subst (λ b. IsDeviceOf b (seen_at (scene see new) name) (m.world.devices name)) (ap (λ (v : BTreeMap Word (Started P)). list_any (λ e. bytes_eq e.1.device name) v.entries) (sym volumes))
        (subst (λ o. IsDeviceOf (is_lent h name) o (m.world.devices name)) (sym (moved.seen is.told name)) (is.devices_are name));
    volumes_are = λ vol. subst (λ o. IsAtVolume see o (lone (lone (m.world.volumes vol)))) (ap (λ (v : BTreeMap Word (Started P)). get (slice_cmp nat_cmp) v vol) (sym volumes))
        (subst (IsAtVolume see (volume_at h vol)) (sym (lone_twice (m.world.volumes vol))) (is.volumes_are vol));
    runs_are = subst (λ o. AreRuns see o None (group_gone m.world).volumes) (sym none) (λ name. subst (IsAtRun {ghosts = ghosts} see [] None name None) (sym (lone_grouped (m.world.volumes name))) tt);
    group_is = ap (group_of see) (sym none);
    counts = counts_moved (scene see old) (scene see new) m.counts moved is.told is.counts;
  }

  -- the group leaves at the end of a command
  pub without_group : (new : View P ghosts) → IsLeft see ends.GroupLost old new → IsMoment see new (record { world = group_gone m.world; counts = m.counts })
  without_group new gone = group_away new gone.later.moved gone.stays.volumes gone.stays.group
