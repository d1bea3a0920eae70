-- The stage that starts the only device in hand as a volume.
use Rattle.std.proofs.Common.{◌≡◌, ◌∙◌, ◌⊎◌, ◌||◌, ◌<◌, Bool, true, false, cond, List, [], ◌∷◌, ◌++◌, map, Option, Some, None, Ok, Err, Result, refl, sym, ap, subst, inl, inr, append_assoc}
use Rattle.std.specs.Prelude.{IfSome, is_some, option_map}
use Rattle.std.specs.BTreeMap.{is_at}
use Rattle.std.specs.List.{list_any}
use Rattle.std.specs.List.Sorted.{IsStrictlySortedBy}
use Rattle.std.specs.Map.{lookup, keys_of}
use Rattle.std.specs.Cmp.Lexicographic.{slice_cmp}
use Rattle.std.specs.Ordering.{nat_cmp}
use Rattle.std.specs.Str.{bytes_eq}
use Rattle.std.proofs.lemmas.List.{map-append, append-nil}
use Rattle.vx_pages.specs.declared.local_piece.LocalPiece.{Ghosts}
use Rattle.vx_base.specs.Blocks.{Contents}
use Rattle.vx_base.specs.Named.{Word, put}
use Rattle.vx_base.proofs.NamedLemmas.{bytes_eq_same, bytes_eq_self}
use Rattle.vx_piece.specs.Seen.{Seen}
use Rattle.vx_shelf.specs.Shelf.{Held}
use Rattle.vx_life.specs.Candidates.{known}
use Rattle.vx_copies.specs.Lists.{AllOf}
use Rattle.vx_script_words.specs.declared.value.DiskAt.{DiskAt}
use Rattle.vx_block.specs.Geometry.{is_geometry}
use Rattle.vx_answers.specs.declared.refusal.Refusal.{Refusal}
use Rattle.vx_answers.specs.declared.refusal.Refusal.TheVariants.{Exists}
use Rattle.vx_started.specs.Stands.{IsAmongTold, IsSized}
use Rattle.vx_started.specs.declared.started.Started.{Started}
use Rattle.vx_moments.specs.World.{World, Device, Group, Lies, Volume, OnDevice, OnPlexes}
use Rattle.vx_moments.specs.Leaving.{grouped_by, lone_by, grouped as on_plexes}
use Rattle.vx_moments.specs.Moment.{Moment}
use Rattle.vx_moments.specs.Holding.{has_volume}
use Rattle.vx_stages.specs.Ends.{refused}
use Rattle.vx_stages.specs.Stages.{bare_volume}
use Rattle.vx_stages.specs.Records.{sectors_in}
use Rattle.vx_stages.specs.Tests.{is_volume, fails, unless}
use Rattle.vx_stages.specs.declared.test.Test.TheVariants as tests
use Rattle.vx_stages.specs.declared.stage.Stage.TheVariants as stage
use Rattle.vx_house.specs.Goes.{StageGoes}
use Rattle.vx_house.specs.Holders.{Holder, holders, volume_holder, group_holders, hand_holder, volume_at, held_as, AreApart, AreHeld, IsTakenFrom}
use Rattle.vx_house.specs.Plain.{plain, sized_device}
use Rattle.vx_house.specs.Scene.{Shelved, seen_at}
use Rattle.vx_house.specs.Unmoved.{Unmoved}
use Rattle.vx_house.specs.View.{View, at, scene, is_lent, IsDeviceOf, IsAtVolume, group_of, IsMoment, Keeps, KeepsHouse, IsGroupKept}
use Rattle.vx_house.specs.declared.house.House.{House}
use Rattle.vx_house.specs.declared.house.Imported.{Imported}
use Rattle.vx_house.specs.declared.house.Taken.{Taken}
use Rattle.vx_house.specs.declared.stop.Stop.{Stop}
use Rattle.vx_house.specs.declared.stop.Stop.TheVariants.{Ended, OutOfMemory}
use Rattle.vx_house.proofs.Holders.{all_here, all_others, all_put, apart_others, apart_here, apart_put, held_at, IsApart}
use Rattle.vx_house.proofs.Moments.{later_refl, counts_moved, faults_moved, faults_refl}
use Rattle.vx_house.proofs.Scenes.{unmoved_held}
use Rattle.vx_house.proofs.Takes.{rests_self}
use Rattle.vx_stage_devices.specs.Starts.{is_recorded, is_named, CanStart, IsStarted, IsSameHouse, Starts}
use Rattle.vx_stage_devices.proofs.Entries.{IsPutAt, put_at, any_less}
use Rattle.vx_house.proofs.Hands.{IsInWorld, hand_in_world}
use Rattle.vx_moments.specs.Leaving.{lone}
use Rattle.vx_copies.specs.Disks.{DiskSeen}
use Rattle.vx_lending.specs.declared.public.Running.{Running}
use Rattle.vx_house.specs.Runs.{AreRuns, IsAtRun, fronts_in, run_in}
use Rattle.vx_house.proofs.Recorded.{run_recorded, unrecorded_rests}
use Rattle.vx_house.proofs.Runs.{none_at}

-- the names of volumes
recorded_same : {P : Type 0} {ghosts : Ghosts P} (see : P → Seen) (o : Option (Imported P ghosts)) (vol : Word) → has_volume (group_of see o) vol ≡ is_recorded o vol
recorded_same see None vol = refl
recorded_same see (Some g) vol = refl

-- a volume is started or recorded just where the house tells so: one that runs is recorded
volume_same : {P : Type 0} {ghosts : Ghosts P} (see : P → Seen) (hs : List DiskSeen) (g : Option Group) (name : Word) (recorded : Bool) → has_volume g name ≡ recorded → (b : Option (Started P)) (r : Option (Running P ghosts)) (w : Option Volume) → IsAtVolume see b (lone w) → IsAtRun see hs g name r (on_plexes w) → (is_some w || recorded) ≡ (is_some b || recorded)
volume_same see hs g name recorded is None r None at run = refl
volume_same see hs g name recorded is (Some b) r None at run = absurd at
volume_same {P = P} {ghosts = ghosts} see hs g name recorded is b r (Some w) at run = by w.lies b r at run
  where
    by : (lies : Lies) (b : Option (Started P)) (r : Option (Running P ghosts)) → IsAtVolume see b (lone_by lies w) → IsAtRun see hs g name r (grouped_by lies w) → true ≡ (is_some b || recorded)
    by (OnDevice device) None r at run = absurd at
    by (OnDevice device) (Some b) r at run = refl
    by (OnPlexes plexes) None None at run = absurd run
    by (OnPlexes plexes) None (Some r) at run = sym (run_recorded see hs g name (Some r) (Some w) run refl) ∙ is
    by (OnPlexes plexes) (Some b) r at run = absurd at

named_same : {P : Type 0} {ghosts : Ghosts P} (see : P → Seen) (v : View P ghosts) (m : Moment) (vol : Word) → IsMoment see v m → is_volume vol m.world ≡ is_named v.house vol
named_same see v m vol is =
    let recorded : has_volume m.world.group vol ≡ is_recorded v.house.group vol = ap (λ g. has_volume g vol) is.group_is ∙ recorded_same see v.house.group vol in
    ap (λ b. is_some (m.world.volumes vol) || b) recorded
    ∙ volume_same see (fronts_in see v.house.group) m.world.group vol (is_recorded v.house.group vol) recorded (volume_at v.house vol) (run_in v.house.group vol) (m.world.volumes vol) (is.volumes_are vol) (is.runs_are vol)

not_recorded : {X : Type 0} (o : Option X) (r : Bool) → (is_some o || r) ≡ false → r ≡ false
not_recorded None r e = e
not_recorded (Some x) r e = cc

none_named : {X : Type 0} (o : Option X) (r : Bool) → (is_some o || r) ≡ false → o ≡ None
none_named None r e = refl
none_named (Some x) r e = cc

-- One of those that are held stands in another place of the list.
module _ (xs : List Holder) (h : Holder) (ys us vs : List Holder) (same : xs ++ ys ≡ us ++ vs) where
  moved_apart : AreApart (xs ++ h ∷ ys) → AreApart (us ++ h ∷ vs)
  moved_apart apart = apart_put us h vs (subst (AllOf (IsApart h)) same (apart_here xs h ys apart)) (subst AreApart same (apart_others xs h ys apart))

  moved_as : AreApart (xs ++ h ∷ ys) → (name : Word) → held_as (us ++ h ∷ vs) name ≡ held_as (xs ++ h ∷ ys) name
  moved_as apart name =
      held_at us h vs name (moved_apart apart)
      ∙ ap (λ hs. cond (bytes_eq h.name name) (Some h.seen) (held_as hs name)) (sym same)
      ∙ sym (held_at xs h ys name apart)

  moved_held : (held : Word → Option Held) → AreHeld held (xs ++ h ∷ ys) → AreHeld held (us ++ h ∷ vs)
  moved_held held are = record {
    each = all_put (IsTakenFrom held) us h vs (all_here (IsTakenFrom held) xs h ys are.each) (subst (AllOf (IsTakenFrom held)) same (all_others (IsTakenFrom held) xs h ys are.each));
    apart = moved_apart are.apart;
    only = λ name none. are.only name (sym (moved_as are.apart name) ∙ none);
    numbers = are.numbers;
  }

begun_told : (told : Option Contents) (d : Device) → told ≡ Some d.contents → IsAmongTold d.sectors told (known d.contents)
begun_told None d e = cc
begun_told (Some contents) d e = λ k lt. let same : contents ≡ d.contents = cc in inl (ap (λ (f : Contents). f k) same)

weaker_lent : (lent now : Bool) (o : Option Seen) (d : Option Device) → (now ≡ false → lent ≡ false) → IsDeviceOf lent o d → IsDeviceOf now o d
weaker_lent lent now None None free of = of
weaker_lent lent now None (Some d) free of = of
weaker_lent lent now (Some s) None free of = of
weaker_lent lent now (Some s) (Some d) free of = (of.0, λ e. of.1 (free e))

-- The device of the hand is started.
module _ {P : Type 0} {ghosts : Ghosts P} (see : P → Seen) (vol : Word) (h k : House P ghosts) (started : IsStarted see vol h k) (new_name : is_named h vol ≡ false) (shelf : Shelved) (are : AreHeld shelf.held (holders see h)) (keeps : KeepsHouse see h) where
  abbrev t : Taken P
  t = started.taken

  abbrev b : Started P
  b = started.put_in.volume

  spot : IsPutAt h.volumes.entries k.volumes.entries vol b
  spot = let e = put_at vol b h.volumes.entries (none_named (volume_at h vol) (is_recorded h.group vol) new_name) in record { before = e.before; behind = e.behind; was = e.was; is = started.put_in.entries ∙ e.is }

  abbrev before : List Holder
  before = map (volume_holder see) spot.before

  abbrev behind : List Holder
  behind = map (volume_holder see) spot.behind

  abbrev grouped : List Holder
  grouped = group_holders see h.group

  abbrev one : Holder
  one = hand_holder see t

  same_one : volume_holder see (vol, b) ≡ one
  same_one i = record { name = started.put_in.device i; seen = see (started.put_in.piece i) }

  were : holders see h ≡ (before ++ (behind ++ grouped)) ++ one ∷ []
  were =
      ap (λ es. map (volume_holder see) es ++ (grouped ++ map (hand_holder see) h.hand.items)) spot.was
      ∙ ap (λ ts. map (volume_holder see) (spot.before ++ spot.behind) ++ (grouped ++ map (hand_holder see) ts)) started.hand
      ∙ ap (λ hs. hs ++ (grouped ++ one ∷ [])) (map-append (volume_holder see) spot.before spot.behind)
      ∙ append_assoc before behind (grouped ++ one ∷ [])
      ∙ ap (λ hs. before ++ hs) (sym (append_assoc behind grouped (one ∷ [])))
      ∙ sym (append_assoc before (behind ++ grouped) (one ∷ []))

  are_now : holders see k ≡ before ++ one ∷ (behind ++ grouped)
  are_now =
      ap (λ es. map (volume_holder see) es ++ (group_holders see k.group ++ map (hand_holder see) k.hand.items)) spot.is
      ∙ ap (λ ts. map (volume_holder see) (spot.before ++ (vol, b) ∷ spot.behind) ++ (group_holders see k.group ++ map (hand_holder see) ts)) started.empty
      ∙ ap (λ g. map (volume_holder see) (spot.before ++ (vol, b) ∷ spot.behind) ++ (group_holders see g ++ [])) started.group
      ∙ ap (λ hs. map (volume_holder see) (spot.before ++ (vol, b) ∷ spot.behind) ++ hs) (append-nil grouped)
      ∙ ap (λ hs. hs ++ grouped) (map-append (volume_holder see) spot.before ((vol, b) ∷ spot.behind))
      ∙ ap (λ x. (before ++ x ∷ behind) ++ grouped) same_one
      ∙ append_assoc before (one ∷ behind) grouped

  same_rest : (before ++ (behind ++ grouped)) ++ [] ≡ before ++ (behind ++ grouped)
  same_rest = append-nil (before ++ (behind ++ grouped))

  was_held : AreHeld shelf.held ((before ++ (behind ++ grouped)) ++ one ∷ [])
  was_held = subst (AreHeld shelf.held) were are

  same_as : (name : Word) → held_as (holders see k) name ≡ held_as (holders see h) name
  same_as name = ap (λ hs. held_as hs name) are_now ∙ moved_as (before ++ (behind ++ grouped)) one [] before (behind ++ grouped) same_rest was_held.apart name ∙ ap (λ hs. held_as hs name) (sym were)

  unmoved : Unmoved (scene see (at shelf h)) (scene see (at shelf k))
  unmoved = unmoved_held shelf (holders see h) (holders see k) same_as

  started_sized : (n : Word) (c : Started P) (x : Bool) → cond x (Some b) (volume_at h n) ≡ Some c → IsSized (see c.piece) c.geometry.length
  started_sized n c true is =
      let same : b ≡ c = cc in
      subst (λ (y : Started P). IsSized (see y.piece) y.geometry.length) same (ap (λ p. (see p).sectors) started.put_in.piece ∙ sym started.put_in.length_is)
  started_sized n c false is = keeps.volumes n c is

  started_keeps : Keeps see (at shelf k)
  started_keeps = record {
    devices = subst (AreHeld shelf.held) (sym are_now) (moved_held (before ++ (behind ++ grouped)) one [] before (behind ++ grouped) same_rest shelf.held was_held);
    house = record {
      ordered = started.put_in.ordered;
      hand = subst (AllOf (λ x. 0 < (see x.piece).sectors)) (sym started.empty) tt;
      volumes = λ n c is. started_sized n c (bytes_eq vol n) (sym (started.put_in.puts n) ∙ is);
      group = subst (λ g. IfSome g (IsGroupKept see)) (sym started.group) keeps.group;
    };
  }

  module _ (m : Moment) (is : IsMoment see (at shelf h) m) where
    there : IsInWorld m.world t.device (see t.piece)
    there = (subst (AllOf (λ x. IsInWorld m.world x.device (see x.piece))) started.hand (hand_in_world see h shelf m are.apart is)).0

    abbrev next : World
    next = record m.world { volumes = put vol (Some (bare_volume t.device there.device)) m.world.volumes }

    started_at : (n : Word) (x : Bool) → IsAtVolume see (cond x (Some b) (volume_at h n)) (lone (m.world.volumes n)) ⊎ (x ≡ true) → IsAtVolume see (cond x (Some b) (volume_at h n)) (lone (cond x (Some (bare_volume t.device there.device)) (m.world.volumes n)))
    started_at n true at = record {
      lies = ap OnDevice (sym started.put_in.device);
      length_is = there.sectors ∙ sym started.put_in.length_is;
      region_is = sym started.put_in.region_is;
      stands = record {
        epoch = refl;
        last = λ r. sym (started.put_in.numbers r);
        told = begun_told (see b.piece).told there.device (ap (λ p. (see p).told) started.put_in.piece ∙ there.told);
      };
    }
    started_at n false (inl at) = at
    started_at n false (inr e) = cc

    at_name : (n : Word) (x : Bool) → IsAtVolume see (volume_at h n) (lone (m.world.volumes n)) → IsAtVolume see (cond x (Some b) (volume_at h n)) (lone (m.world.volumes n)) ⊎ (x ≡ true)
    at_name n true at = inr refl
    at_name n false at = inl at

    lent_less : (name : Word) → is_lent k name ≡ false → is_lent h name ≡ false
    lent_less name e =
        ap (list_any (λ x. bytes_eq x.1.device name)) spot.was
        ∙ any_less (λ x. bytes_eq x.1.device name) spot.before (vol, b) spot.behind (ap (list_any (λ x. bytes_eq x.1.device name)) (sym spot.is) ∙ e)

    -- no volume of its name ran
    none : run_in h.group vol ≡ None
    none = unrecorded_rests see (fronts_in see h.group) m.world.group vol (run_in h.group vol) (on_plexes (m.world.volumes vol)) (is.runs_are vol) (not_recorded (volume_at h vol) (has_volume m.world.group vol) (ap (λ b. is_some (volume_at h vol) || b) (ap (λ g. has_volume g vol) is.group_is ∙ recorded_same see h.group vol) ∙ new_name))

    -- and the others run as before
    runs_at : (n : Word) (x : Bool) → bytes_eq vol n ≡ x → IsAtRun see (fronts_in see h.group) m.world.group n (run_in h.group n) (on_plexes (cond x (Some (bare_volume t.device there.device)) (m.world.volumes n)))
    runs_at n true same = none_at see (fronts_in see h.group) m.world.group n (run_in h.group n) None (ap (run_in h.group) (sym (bytes_eq_same vol n same)) ∙ none) refl
    runs_at n false same = is.runs_are n

    started_moment : IsMoment see (at shelf k) (record { world = next; counts = m.counts })
    started_moment = record {
      told = is.told;
      devices_are = λ name. subst (λ o. IsDeviceOf (is_lent k name) o (m.world.devices name)) (sym (unmoved.seen is.told name))
          (weaker_lent (is_lent h name) (is_lent k name) (seen_at (scene see (at shelf h)) name) (m.world.devices name) (lent_less name) (is.devices_are name));
      volumes_are = λ n. subst (λ o. IsAtVolume see o (lone (put vol (Some (bare_volume t.device there.device)) m.world.volumes n))) (sym (started.put_in.puts n))
          (started_at n (bytes_eq vol n) (at_name n (bytes_eq vol n) (is.volumes_are n)));
      runs_are = λ n. subst (λ o. IsAtRun see (fronts_in see o) m.world.group n (run_in o n) (on_plexes (next.volumes n))) (sym started.group) (runs_at n (bytes_eq vol n) refl);
      group_is = is.group_is ∙ ap (group_of see) (sym started.group);
      counts = counts_moved (scene see (at shelf h)) (scene see (at shelf k)) m.counts unmoved is.told is.counts;
    }

  started_stage : (disks : List DiskAt) → StageGoes {T = Unit {0}} see (stage.StartBare vol t.device) disks (Ok tt) (at shelf h) (at shelf k)
  started_stage disks = record {
    keeps = started_keeps;
    goes = λ m is. (
      record { world = next m is; counts = m.counts },
      started_moment m is,
      later_refl m.counts,
      (named_same see (at shelf h) m vol is ∙ new_name, record { device = (there m is).device; was = (there m is).was; is = refl }, refl),
    );
    gives = tt;
    still = λ e. cc;
    faults = faults_moved (scene see (at shelf h)) (scene see (at shelf k)) unmoved;
    blamed = tt;
  }

module _ {P : Type 0} {ghosts : Ghosts P} (see : P → Seen) (vol name : Word) (h : House P ghosts) (disks : List DiskAt) (shelf : Shelved) (are : AreHeld shelf.held (holders see h)) (keeps : KeepsHouse see h) where
  -- a volume has the name already
  pub exists_stage : is_named h vol ≡ true → StageGoes {T = Unit {0}} see (stage.StartBare vol name) disks (Err (Ended (refused (Exists vol)))) (at shelf h) (at shelf h)
  exists_stage named = record {
    keeps = record { devices = are; house = keeps };
    goes = λ m is. (m, is, later_refl m.counts, (named_same see (at shelf h) m vol is ∙ named, (refl, rests_self m)));
    gives = tt;
    still = λ e. tt;
    faults = faults_refl (scene see (at shelf h));
    blamed = tt;
  }

  -- memory is wanting
  module _ (k : House P ghosts) (same : IsSameHouse h k) where
    holding : holders see k ≡ holders see h
    holding =
        ap (λ es. map (volume_holder see) es ++ (group_holders see k.group ++ map (hand_holder see) k.hand.items)) same.entries
        ∙ ap (λ g. map (volume_holder see) h.volumes.entries ++ (group_holders see g ++ map (hand_holder see) k.hand.items)) same.group
        ∙ ap (λ ts. map (volume_holder see) h.volumes.entries ++ (group_holders see h.group ++ map (hand_holder see) ts)) same.hand

    same_volume : (n : Word) → volume_at k n ≡ volume_at h n
    same_volume n = ap (lookup (is_at (slice_cmp nat_cmp n))) same.entries

    unmoved_same : Unmoved (scene see (at shelf h)) (scene see (at shelf k))
    unmoved_same = unmoved_held shelf (holders see h) (holders see k) (λ n. ap (λ hs. held_as hs n) holding)

    same_moment : (m : Moment) → IsMoment see (at shelf h) m → IsMoment see (at shelf k) m
    same_moment m is = record {
      told = is.told;
      devices_are = λ n. subst (λ o. IsDeviceOf (is_lent k n) o (m.world.devices n)) (sym (unmoved_same.seen is.told n))
          (weaker_lent (is_lent h n) (is_lent k n) (seen_at (scene see (at shelf h)) n) (m.world.devices n) (λ e. ap (list_any (λ x. bytes_eq x.1.device n)) (sym same.entries) ∙ e) (is.devices_are n));
      volumes_are = λ n. subst (λ o. IsAtVolume see o (lone (m.world.volumes n))) (sym (same_volume n)) (is.volumes_are n);
      runs_are = subst (λ o. AreRuns see o m.world.group m.world.volumes) (sym same.group) is.runs_are;
      group_is = is.group_is ∙ ap (group_of see) (sym same.group);
      counts = counts_moved (scene see (at shelf h)) (scene see (at shelf k)) m.counts unmoved_same is.told is.counts;
    }

    same_stage : StageGoes {T = Unit {0}} see (stage.StartBare vol name) disks (Err OutOfMemory) (at shelf h) (at shelf k)
    same_stage = record {
      keeps = record {
        devices = subst (AreHeld shelf.held) (sym holding) are;
        house = record {
          ordered = subst (λ es. IsStrictlySortedBy (slice_cmp nat_cmp) (keys_of es)) (sym same.entries) keeps.ordered;
          hand = subst (AllOf (λ t. 0 < (see t.piece).sectors)) (sym same.hand) keeps.hand;
          volumes = λ n c is. keeps.volumes n c (sym (same_volume n) ∙ is);
          group = subst (λ g. IfSome g (IsGroupKept see)) (sym same.group) keeps.group;
        };
      };
      goes = λ m is. (m, same_moment m is, later_refl m.counts, refl);
      gives = tt;
      still = λ e. tt;
      faults = faults_moved (scene see (at shelf h)) (scene see (at shelf k)) unmoved_same;
      blamed = tt;
    }

-- the only one of the name
only_of : {P : Type 0} (ts : List (Taken P)) (name : Word) → map (λ t. t.device) ts ≡ name ∷ [] → (t : Taken P) × (ts ≡ t ∷ []) × (t.device ≡ name)
only_of [] name e = cc
only_of (t ∷ []) name e = (t, refl, let same : t.device ≡ name = cc in same)
only_of (t ∷ t2 ∷ ts) name e = cc

pub only_named : {P : Type 0} (ts : List (Taken P)) (name : Word) (t : Taken P) → map (λ t. t.device) ts ≡ name ∷ [] → ts ≡ t ∷ [] → t.device ≡ name
only_named ts name t e is = let names : t.device ∷ [] ≡ name ∷ [] = ap (map (λ x. x.device)) (sym is) ∙ e in let same : t.device ≡ name = cc in same

passed : (holds : Bool) (r : Refusal) → unless holds r ≡ None → holds ≡ true
passed true r e = refl
passed false r e = cc

-- the device of the hand was tested
pub can_start : {P : Type 0} {ghosts : Ghosts P} (see : P → Seen) (h : House P ghosts) (name : Word) (disks : List DiskAt) → map (λ t. t.device) h.hand.items ≡ name ∷ [] → fails (tests.Sized name) disks (plain see h) ≡ None → CanStart see h
unfolding fails
can_start see h name disks named fits =
    let only = only_of h.hand.items name named in
    let at_hand : held_as (map (hand_holder see) h.hand.items) name ≡ Some (see only.0.piece) = ap (λ ts. held_as (map (hand_holder see) ts) name) only.1 ∙ ap (λ b. cond b (Some (see only.0.piece)) None) (ap (λ n. bytes_eq n name) only.2 ∙ bytes_eq_self name) in
    record { taken = only.0; hand = only.1; sized = subst (λ o. is_geometry (sectors_in (option_map sized_device o)) 128 ≡ true) at_hand (passed _ _ fits) }

-- the last of a list with one member
pub popped : {X : Type 0} (xs ys : List X) (t x : X) → xs ≡ ys ++ t ∷ [] → xs ≡ x ∷ [] → (t ≡ x) × (ys ≡ [])
popped xs [] t x e is = (let both : t ∷ [] ≡ x ∷ [] = sym e ∙ is in let same : t ≡ x = cc in same, refl)
popped xs (y ∷ []) t x e is = let both : y ∷ t ∷ [] ≡ x ∷ [] = sym e ∙ is in cc
popped xs (y ∷ z ∷ ys) t x e is = let both : y ∷ z ∷ (ys ++ t ∷ []) ≡ x ∷ [] = sym e ∙ is in cc

-- the outcome of the start
pub start_stage : {P : Type 0} {ghosts : Ghosts P} (see : P → Seen) (vol name : Word) (h k : House P ghosts) (disks : List DiskAt) (shelf : Shelved) → AreHeld shelf.held (holders see h) → KeepsHouse see h → is_named h vol ≡ false → ((t : Taken P) → h.hand.items ≡ t ∷ [] → t.device ≡ name) → (result : Result (Unit {0}) Stop) → Starts see vol h result k → StageGoes see (stage.StartBare vol name) disks result (at shelf h) (at shelf k)
start_stage see vol name h k disks shelf are keeps new_name named (Ok u) started =
    subst (λ n. StageGoes {T = Unit {0}} see (stage.StartBare vol n) disks (Ok tt) (at shelf h) (at shelf k)) (named started.taken started.hand) (started_stage see vol h k started new_name shelf are keeps disks)
start_stage see vol name h k disks shelf are keeps new_name named (Err OutOfMemory) same = same_stage see vol name h disks shelf are keeps k same
start_stage see vol name h k disks shelf are keeps new_name named (Err (Ended end)) never = absurd never
