-- Devices that are taken into the hand, one after the other.
use Rattle.std.proofs.Common.{◌≡◌, ◌∙◌, ◌≤◌, ◌<◌, ◌⊎◌, ℕ, List, [], ◌∷◌, ◌++◌, ◌+◌, map, take, drop, Option, Some, None, refl, sym, ap, subst, arith, inl, inr, append_assoc}
use Rattle.std.specs.Prelude.{◌↔◌, IsSome, IfSome}
use Rattle.std.proofs.lemmas.List.{append-nil, map-append, take-append-drop}
use Rattle.vx_pages.specs.declared.local_piece.LocalPiece.{Ghosts}
use Rattle.vx_base.specs.Named.{Word, SameUnder}
use Rattle.vx_base.specs.Counts.{Rose}
use Rattle.vx_piece.specs.Seen.{Seen}
use Rattle.vx_shelf.specs.Shelf.{LeavesShelf, IsNowhere, SameCounts}
use Rattle.vx_copies.specs.Lists.{AllOf}
use Rattle.vx_script_words.specs.declared.value.DiskAt.{DiskAt}
use Rattle.vx_answers.specs.declared.answer.End.{End}
use Rattle.vx_answers.specs.declared.answer.End.TheVariants as ends
use Rattle.vx_answers.specs.declared.refusal.Refusal.{Refusal}
use Rattle.vx_answers.specs.declared.refusal.Refusal.TheVariants as refusal
use Rattle.vx_moments.specs.Moment.{Moment, AreLater, Rests, CallsNone}
use Rattle.vx_moments.specs.World.{World}
use Rattle.vx_stages.specs.Records.{devices_of}
use Rattle.vx_stages.specs.Ends.{EndsIn, fault_of, refused}
use Rattle.vx_stages.specs.Stages.{IsFree, AreFree, IsAway, ShelfFailsAt, TakingStops, IsDone, Stops, Wants}
use Rattle.vx_stages.specs.declared.stage.Stage.TheVariants as stage
use Rattle.vx_house.specs.Goes.{Goes, StageGoes}
use Rattle.vx_house.specs.Holders.{Holder, volume_holder, group_holders, hand_holder, holders, held_as, hand_names, AreHeld}
use Rattle.vx_house.specs.Scene.{Shelved, Scene, seen_in, seen_at, faults_in, faults_at, count_in, counts_of, FaultsGoOn, IsBlamed}
use Rattle.vx_house.specs.Takes.{Rested, Took, TakesEnd, TakeGives}
use Rattle.vx_house.specs.Unmoved.{Unmoved}
use Rattle.vx_house.specs.View.{View, at, scene, Keeps, KeepsHouse, IsMoment, IsDeviceOf, IsAtVolume, is_lent, group_of}
use Rattle.std.specs.BTreeMap.{BTreeMap, get}
use Rattle.std.specs.List.{list_any}
use Rattle.std.specs.Str.{bytes_eq}
use Rattle.std.specs.Cmp.Lexicographic.{slice_cmp}
use Rattle.std.specs.Ordering.{nat_cmp}
use Rattle.vx_started.specs.declared.started.Started.{Started}
use Rattle.vx_house.specs.declared.house.House.{House}
use Rattle.vx_house.specs.declared.house.Taken.{Taken}
use Rattle.vx_house.specs.declared.stop.Stop.{Stop}
use Rattle.vx_house.specs.declared.stop.Stop.TheVariants as stops
use Rattle.std.specs.Prelude.{Result, Ok, Err}
use Rattle.vx_house.proofs.LaterFaults.{hand_split}
use Rattle.vx_house.proofs.Ends.{keeps_ended, goes_ended}
use Rattle.vx_house.proofs.Free.{told_is_free, taken_is_held, nowhere_is_none}
use Rattle.vx_house.proofs.Holders.{take_one, same_held}
use Rattle.vx_house.proofs.AllLaws.{all_append}
use Rattle.vx_house.proofs.Moments.{later_refl, faults_moved, faults_trans, moment_moved, counts_own, counts_later, place_refl, PlaceGoesOn, moment_at}
use Rattle.vx_house.proofs.Scenes.{scene_of, unmoved_refl, unmoved_trans, IsHanded, take_scene}
use Rattle.vx_moments.specs.Leaving.{lone}
use Rattle.vx_house.specs.Runs.{AreRuns}

-- nothing has happened
pub rests_self : (m : Moment) → Rests m m
rests_self m = record {
  stays = record { world = refl; later = later_refl m.counts };
  calls = record { reads = λ name. refl; writes = λ name. refl };
  quiet = record { devices = λ name. refl; shelf = refl };
}

pub some_of : {X : Type 0} (o : Option X) → IsSome o → (x : X) × (o ≡ Some x)
some_of None some = cc
some_of (Some x) some = (x, refl)

-- the moment is the same
pub rested_moment : {P : Type 0} {ghosts : Ghosts P} (see : P → Seen) (old new : View P ghosts) → Rested see old new → (m : Moment) → IsMoment see old m → IsMoment see new m
rested_moment see old new rested m is = moment_moved see (scene see old) (scene see new) old.house new.house m rested.moved rested.volumes rested.group is

pub rested_trans : {P : Type 0} {ghosts : Ghosts P} (see : P → Seen) (a b c : View P ghosts) → Rested see a b → Rested see b c → Rested see a c
rested_trans see a b c p q = record { keeps = q.keeps; moved = unmoved_trans (scene see a) (scene see b) (scene see c) p.moved q.moved; volumes = q.volumes ∙ p.volumes; group = q.group ∙ p.group }

-- a house with the same things holds the same devices
pub same_holders : {P : Type 0} {ghosts : Ghosts P} (see : P → Seen) (h k : House P ghosts) → k.volumes ≡ h.volumes → k.group ≡ h.group → k.hand.items ≡ h.hand.items → holders see k ≡ holders see h
same_holders {P = P} see h k volumes group hand =
    ap (λ (v : BTreeMap Word (Started P)). map (volume_holder see) v.entries ++ (group_holders see k.group ++ map (hand_holder see) k.hand.items)) volumes
    ∙ ap (λ g. map (volume_holder see) h.volumes.entries ++ (group_holders see g ++ map (hand_holder see) k.hand.items)) group
    ∙ ap (λ ts. map (volume_holder see) h.volumes.entries ++ (group_holders see h.group ++ map (hand_holder see) ts)) hand

pub same_kept : {P : Type 0} {ghosts : Ghosts P} (see : P → Seen) (h k : House P ghosts) → k.volumes ≡ h.volumes → k.group ≡ h.group → k.hand.items ≡ h.hand.items → KeepsHouse see h → KeepsHouse see k
same_kept {P = P} {ghosts = ghosts} see h k volumes group hand keeps = subst (KeepsHouse see) whole (record { ordered = keeps.ordered; hand = subst (AllOf (λ t. 0 < (see t.piece).sectors)) (sym hand) keeps.hand; volumes = keeps.volumes; group = keeps.group })
  where
    whole : (let x : House P ghosts = record { volumes = h.volumes; group = h.group; hand = k.hand } in x) ≡ k
    whole i = record { volumes = sym volumes i; group = sym group i; hand = k.hand }

-- a house that is as before beside a shelf that is
module _ {P : Type 0} {ghosts : Ghosts P} (see : P → Seen) (v : View P ghosts) (keeps : Keeps see v) (shelf : Shelved) (k : House P ghosts) (volumes : k.volumes ≡ v.house.volumes) (group : k.group ≡ v.house.group) where
  -- a device stands behind the others in hand
  module _ (t : Taken P) (hand : k.hand.items ≡ v.house.hand.items ++ t ∷ []) (handed : IsHanded t.device (see t.piece) v.shelf shelf) where
    abbrev one : Holder
    one = hand_holder see t

    abbrev before : List Holder
    before = holders see v.house

    now : holders see k ≡ before ++ one ∷ []
    now =
        same_holders see (record { volumes = v.house.volumes; group = v.house.group; hand = k.hand }) k volumes group refl
        ∙ hand_split see (record { volumes = v.house.volumes; group = v.house.group; hand = k.hand }) v.house.hand.items t [] hand

    are : AreHeld shelf.held (before ++ one ∷ [])
    are = take_one v.shelf.held shelf.held before one [] handed.numbers handed.taken (subst (AreHeld v.shelf.held) (sym (append-nil before)) keeps.devices)

    pub took_keeps : Keeps see (at shelf k)
    took_keeps = record {
      devices = subst (AreHeld shelf.held) (sym now) are;
      house = same_kept see (record { volumes = v.house.volumes; group = v.house.group; hand = k.hand }) k volumes group refl (record {
        ordered = keeps.house.ordered;
        hand = subst (AllOf (λ t. 0 < (see t.piece).sectors)) (sym hand) (all_append (λ t. 0 < (see t.piece).sectors) v.house.hand.items (t ∷ []) keeps.house.hand (handed.taken.some, tt));
        volumes = keeps.house.volumes;
        group = keeps.house.group;
      });
    }

    took_moved : Unmoved (scene see v) (scene see (at shelf k))
    took_moved =
        subst (λ hs. Unmoved (scene see v) (scene_of shelf hs)) (sym now)
        (subst (λ hs. Unmoved (scene_of v.shelf hs) (scene_of shelf (before ++ one ∷ []))) (append-nil before)
        (take_scene v.shelf shelf before one [] are.apart handed))

    pub took_rested : Rested see v (at shelf k)
    took_rested = record { keeps = took_keeps; moved = took_moved; volumes = volumes; group = group }

    was_free : (m : Moment) → IsMoment see v m → IsFree m.world (hand_names v.house) t.device
    was_free m is =
        let devices = some_of v.shelf.free is.told in
        told_is_free see (scene see v) v.house keeps.devices refl keeps.house m.world is.volumes_are is.group_is devices.0 devices.1 is.devices_are t.device (see t.piece) handed.taken.before
        (was_told devices.0 shelf.free (subst (λ o. LeavesShelf t.device (see t.piece) o shelf.free) devices.1 handed.left))
      where
        was_told : (o : Word → Option Seen) (n : Option (Word → Option Seen)) → LeavesShelf t.device (see t.piece) (Some o) n → o t.device ≡ Some (see t.piece)
        was_told o None leaves = absurd leaves
        was_told o (Some n) leaves = leaves.0

    pub took_one : Took see (t.device ∷ []) v (at shelf k)
    took_one = record {
      rested = took_rested;
      hand = ap (map (λ t. t.device)) hand ∙ map-append (λ t. t.device) v.house.hand.items (t ∷ []);
      free = λ m is. (was_free m is, tt);
    }

  -- the hand is the same, and the shelf has not changed but for its count of failures
  module _ (hand : k.hand.items ≡ v.house.hand.items) (free : shelf.free ≡ v.shelf.free) (held : SameUnder v.shelf.held shelf.held) (counts : SameCounts v.shelf.counted shelf.counted) where
    same : holders see k ≡ holders see v.house
    same = same_holders see v.house k volumes group hand

    pub still_keeps : Keeps see (at shelf k)
    still_keeps = record {
      devices = subst (AreHeld shelf.held) (sym same) (same_held v.shelf.held shelf.held (holders see v.house) held keeps.devices);
      house = same_kept see v.house k volumes group hand keeps.house;
    }

    still_seen : (name : Word) → seen_at (scene see (at shelf k)) name ≡ seen_at (scene see v) name
    still_seen name = ap (λ hs. seen_at (scene_of shelf hs) name) same ∙ ap (λ f. seen_in (held_as (holders see v.house) name) f name) free

    still_faults : (name : Word) → faults_at (scene see (at shelf k)) name ≡ faults_at (scene see v) name
    still_faults name = ap (λ hs. faults_at (scene_of shelf hs) name) same ∙ ap (λ n. faults_in (held_as (holders see v.house) name) n) (counts name)

    -- nothing has failed
    pub still_rested : shelf.faults ≡ v.shelf.faults → Rested see v (at shelf k)
    still_rested quiet = record {
      keeps = still_keeps;
      moved = record {
        told = λ t. subst IsSome (sym free) t;
        seen = λ t name. still_seen name;
        same = λ t name. still_faults name;
        faults = λ name. let e = still_faults name in omega (arith, e);
        shelf = quiet;
      };
      volumes = volumes;
      group = group;
    }

    -- the shelf has failed
    module _ (later : v.shelf.faults ≤ shelf.faults) where
      pub failing_faults : FaultsGoOn (scene see v) (scene see (at shelf k))
      failing_faults = record { devices = λ name. let e = still_faults name in omega (arith, e); shelf = later }

      -- the moment with the shelf's count as it is now
      pub failing_moment : (m : Moment) → IsMoment see v m → IsMoment see (at shelf k) (moment_at m.world (scene see (at shelf k)))
      failing_moment m is = record {
        told = subst IsSome (sym free) is.told;
        devices_are = λ name. subst (λ b. IsDeviceOf b (seen_at (scene see (at shelf k)) name) (m.world.devices name)) (ap (λ (w : BTreeMap Word (Started P)). list_any (λ e. bytes_eq e.1.device name) w.entries) (sym volumes))
            (subst (λ o. IsDeviceOf (is_lent v.house name) o (m.world.devices name)) (sym (still_seen name)) (is.devices_are name));
        volumes_are = λ vol. subst (λ o. IsAtVolume see o (lone (m.world.volumes vol))) (ap (λ (w : BTreeMap Word (Started P)). get (slice_cmp nat_cmp) w vol) (sym volumes)) (is.volumes_are vol);
        runs_are = subst (λ o. AreRuns see o m.world.group m.world.volumes) (sym group) is.runs_are;
        group_is = is.group_is ∙ ap (group_of see) (sym group);
        counts = counts_own (scene see (at shelf k));
      }

      pub failing_later : (m : Moment) → IsMoment see v m → AreLater m.counts (counts_of (scene see (at shelf k)))
      failing_later m is = counts_later (scene see v) (scene see (at shelf k)) m.counts is.counts (λ name. subst (PlaceGoesOn (seen_at (scene see v) name)) (sym (still_seen name)) (place_refl (seen_at (scene see v) name))) failing_faults

      pub failing_calls : (m : Moment) → IsMoment see v m → CallsNone m.counts (counts_of (scene see (at shelf k)))
      failing_calls m is = record {
        reads = λ name. ap (count_in (λ (seen : Seen). seen.reads) 0) (still_seen name) ∙ sym (is.counts.reads name);
        writes = λ name. ap (count_in (λ (seen : Seen). seen.writes) 0) (still_seen name) ∙ sym (is.counts.writes name);
      }

-- a device that is held, or that is not there, ends the command
pub away_ends : {P : Type 0} {ghosts : Ghosts P} (see : P → Seen) (name : Word) (r : Refusal) (old new : View P ghosts) → Rested see old new → ((m : Moment) → IsMoment see old m → IsAway m.world (hand_names old.house) name r) → TakesEnd see name (refused r) old new
away_ends see name r old new rested away = record {
  keeps = rested.keeps;
  goes = λ m is. (m, rested_moment see old new rested m is, later_refl m.counts, inl (r, away m is, (refl, rests_self m)));
  faults = faults_moved (scene see old) (scene see new) rested.moved;
  blamed = tt;
}

-- what a shelf says of a device that it does not hand over
module _ {P : Type 0} {ghosts : Ghosts P} (see : P → Seen) (v : View P ghosts) (keeps : Keeps see v) (name : Word) where
  pub held_away : IsSome (v.shelf.held name) → (m : Moment) → IsMoment see v m → IsAway m.world (hand_names v.house) name (refusal.Held name)
  held_away some m is =
      let devices = some_of v.shelf.free is.told in
      inl (taken_is_held see (scene see v) v.house keeps.devices refl keeps.house m.world is.volumes_are is.group_is devices.0 devices.1 is.devices_are name some, refl)

  pub none_away : {X : Type 0} → IfSome v.shelf.free (λ devices. X ↔ IsNowhere name devices v.shelf.held) → X → (m : Moment) → IsMoment see v m → IsAway m.world (hand_names v.house) name (refusal.NoDisk name)
  none_away {X = X} nowhere here m is =
      let devices = some_of v.shelf.free is.told in
      inr (
        nowhere_is_none see (scene see v) v.house keeps.devices refl keeps.house m.world is.volumes_are is.group_is devices.0 devices.1 is.devices_are name
            ((subst (λ (o : Option (Word → Option Seen)). IfSome o (λ d. X ↔ IsNowhere name d v.shelf.held)) devices.1 nowhere).0 here),
        refl,
      )

  -- the shelf has failed
  pub shelf_ends : (shelf : Shelved) (k : House P ghosts) → k.volumes ≡ v.house.volumes → k.group ≡ v.house.group → k.hand.items ≡ v.house.hand.items → shelf.free ≡ v.shelf.free → SameUnder v.shelf.held shelf.held → SameCounts v.shelf.counted shelf.counted → Rose v.shelf.faults shelf.faults → v.shelf.faults ≤ shelf.faults → TakesEnd see name (fault_of name) v (at shelf k)
  shelf_ends shelf k volumes group hand free held counts rose later = record {
    keeps = still_keeps see v keeps shelf k volumes group hand free held counts;
    goes = λ m is. (
      moment_at m.world (scene see (at shelf k)),
      failing_moment see v keeps shelf k volumes group hand free held counts later m is,
      failing_later see v keeps shelf k volumes group hand free held counts later m is,
      inr (refl, failing_calls see v keeps shelf k volumes group hand free held counts later m is, refl, subst (λ n. Rose n shelf.faults) (sym is.counts.shelf) rose),
    );
    faults = failing_faults see v keeps shelf k volumes group hand free held counts later;
    blamed = inr rose;
  }

pub rested_refl : {P : Type 0} {ghosts : Ghosts P} (see : P → Seen) (v : View P ghosts) → Keeps see v → Rested see v v
rested_refl see v keeps = record { keeps = keeps; moved = unmoved_refl (scene see v); volumes = refl; group = refl }

pub took_none : {P : Type 0} {ghosts : Ghosts P} (see : P → Seen) (v : View P ghosts) → Keeps see v → Took see [] v v
took_none see v keeps = record { rested = rested_refl see v keeps; hand = sym (append-nil (hand_names v.house)); free = λ m is. tt }

free_then : (w : World) (taken xs : List Word) (x : Word) → AreFree w taken xs → IsFree w (taken ++ xs) x → AreFree w taken (xs ++ x ∷ [])
free_then w taken [] x all free = (subst (λ ns. IsFree w ns x) (append-nil taken) free, tt)
free_then w taken (y ∷ xs) x all free = (all.0, free_then w (taken ++ y ∷ []) xs x all.1 (subst (λ ns. IsFree w ns x) (sym (append_assoc taken (y ∷ []) xs)) free))

-- one more is taken
pub took_then : {P : Type 0} {ghosts : Ghosts P} (see : P → Seen) (xs : List Word) (x : Word) (a b c : View P ghosts) → Took see xs a b → Took see (x ∷ []) b c → Took see (xs ++ x ∷ []) a c
took_then see xs x a b c p q = record {
  rested = rested_trans see a b c p.rested q.rested;
  hand = q.hand ∙ ap (λ ns. ns ++ x ∷ []) p.hand ∙ append_assoc (hand_names a.house) xs (x ∷ []);
  free = λ m is. free_then m.world (hand_names a.house) xs x (p.free m is) (subst (λ ns. IsFree m.world ns x) p.hand (q.free m (rested_moment see a b p.rested m is)).0);
}

stops_behind : (taken xs : List Word) (x : Word) (ys : List Word) (m : Moment) (end : End) (n : Moment) → AreFree m.world taken xs
    → ((r : Refusal) × IsAway m.world (taken ++ xs) x r × EndsIn r m end n) ⊎ ShelfFailsAt x m end n → TakingStops taken (xs ++ x ∷ ys) m end n
stops_behind taken [] x ys m end n all stops = inl (subst (λ ns. ((r : Refusal) × IsAway m.world ns x r × EndsIn r m end n) ⊎ ShelfFailsAt x m end n) (append-nil taken) stops)
stops_behind taken (y ∷ xs) x ys m end n all stops =
    inr (all.0, stops_behind (taken ++ y ∷ []) xs x ys m end n all.1 (subst (λ ns. ((r : Refusal) × IsAway m.world ns x r × EndsIn r m end n) ⊎ ShelfFailsAt x m end n) (sym (append_assoc taken (y ∷ []) xs)) stops))

-- some were taken, and the next ends the command
pub record TakingEnds {P : Type 0} {ghosts : Ghosts P} (see : P → Seen) (names : List Word) (end : End) (old new : View P ghosts) : Type 0 where
  pub keeps : Keeps see new
  pub goes : Goes see (λ m n. TakingStops (hand_names old.house) names m end n) old new
  pub faults : FaultsGoOn (scene see old) (scene see new)
  pub blamed : IsBlamed end (scene see old) (scene see new)

rose_on : (a b c : ℕ) → a ≤ b → Rose b c → Rose a c
rose_on a b c le rose = omega (arith, le, rose)

pub blamed_later : (end : End) (a b c : Scene) → FaultsGoOn a b → IsBlamed end b c → IsBlamed end a c
blamed_later (ends.Done copied parts blocks) a b c on blamed = tt
blamed_later (ends.Refused r) a b c on blamed = tt
blamed_later (ends.Fault told device parts) a b c on (inl rose) = inl (rose_on (faults_at a device) (faults_at b device) (faults_at c device) (on.devices device) rose)
blamed_later (ends.Fault told device parts) a b c on (inr rose) = inr (rose_on a.shelf.faults b.shelf.faults c.shelf.faults on.shelf rose)
blamed_later ends.ShelfFailed a b c on blamed = rose_on a.shelf.faults b.shelf.faults c.shelf.faults on.shelf blamed
blamed_later ends.GroupLost a b c on blamed = tt
blamed_later (ends.Lost parts) a b c on blamed = tt

pub took_ends : {P : Type 0} {ghosts : Ghosts P} (see : P → Seen) (xs : List Word) (x : Word) (ys : List Word) (end : End) (a b c : View P ghosts) → Took see xs a b → TakesEnd see x end b c → TakingEnds see (xs ++ x ∷ ys) end a c
took_ends see xs x ys end a b c p q = record {
  keeps = q.keeps;
  goes = λ m is.
      let went = q.goes m (rested_moment see a b p.rested m is) in
      (went.0, went.1, went.2, stops_behind (hand_names a.house) xs x ys m end went.0 (p.free m is) (subst (λ ns. ((r : Refusal) × IsAway m.world ns x r × EndsIn r m end went.0) ⊎ ShelfFailsAt x m end went.0) p.hand went.3));
  faults = faults_trans (scene see a) (scene see b) (scene see c) (faults_moved (scene see a) (scene see b) p.rested.moved) q.faults;
  blamed = blamed_later end (scene see a) (scene see b) (scene see c) (faults_moved (scene see a) (scene see b) p.rested.moved) q.blamed;
}

no_names : {P : Type 0} {ghosts : Ghosts P} (h : House P ghosts) → h.hand.items ≡ [] → hand_names h ≡ []
no_names h is = ap (map (λ t. t.device)) is

-- the stages of taking, from an empty hand
module _ {P : Type 0} {ghosts : Ghosts P} (see : P → Seen) (old new : View P ghosts) (disks : List DiskAt) (empty : old.house.hand.items ≡ []) where
  pub take_stage : (name : Word) (result : Result (Unit {0}) Stop) → TakeGives see name result old new → StageGoes see (stage.Take name) disks result old new
  take_stage name (Ok u) took = record {
    keeps = took.rested.keeps;
    goes = λ m is. (m, rested_moment see old new took.rested m is, later_refl m.counts, (subst (λ ns. IsFree m.world ns name) (no_names old.house empty) (took.free m is).0, rests_self m));
    gives = took.hand ∙ ap (λ ns. ns ++ name ∷ []) (no_names old.house empty);
    still = λ is. cc;
    faults = faults_moved (scene see old) (scene see new) took.rested.moved;
    blamed = tt;
  }
  take_stage name (Err (stops.Ended end)) stops = record {
    keeps = keeps_ended see end new stops.keeps;
    goes = goes_ended see (IsDone (stage.Take name) disks) (Stops (stage.Take name) disks) (Wants (stage.Take name)) end old new (λ m is.
        let went = stops.goes m is in
        (went.0, went.1, went.2, inl (subst (λ ns. ((r : Refusal) × IsAway m.world ns name r × EndsIn r m end went.0) ⊎ ShelfFailsAt name m end went.0) (no_names old.house empty) went.3)));
    gives = tt;
    still = λ is. tt;
    faults = stops.faults;
    blamed = stops.blamed;
  }
  take_stage name (Err stops.OutOfMemory) rested = record {
    keeps = rested.keeps;
    goes = λ m is. (m, rested_moment see old new rested m is, later_refl m.counts, refl);
    gives = tt;
    still = λ is. tt;
    faults = faults_moved (scene see old) (scene see new) rested.moved;
    blamed = tt;
  }

  pub disks_taken : Took see (devices_of disks) old new → StageGoes {T = Unit {0}} see stage.TakeDisks disks (Ok tt) old new
  disks_taken took = record {
    keeps = took.rested.keeps;
    goes = λ m is. (m, rested_moment see old new took.rested m is, later_refl m.counts, (subst (λ ns. AreFree m.world ns (devices_of disks)) (no_names old.house empty) (took.free m is), rests_self m));
    gives = took.hand ∙ ap (λ ns. ns ++ devices_of disks) (no_names old.house empty);
    still = λ is. cc;
    faults = faults_moved (scene see old) (scene see new) took.rested.moved;
    blamed = tt;
  }

  pub disks_end : (end : End) → TakingEnds see (devices_of disks) end old new → StageGoes {T = Unit {0}} see stage.TakeDisks disks (Err (stops.Ended end)) old new
  disks_end end ends = record {
    keeps = keeps_ended see end new ends.keeps;
    goes = goes_ended see (IsDone stage.TakeDisks disks) (Stops stage.TakeDisks disks) (Wants stage.TakeDisks) end old new (λ m is. let went = ends.goes m is in (went.0, went.1, went.2, subst (λ ns. TakingStops ns (devices_of disks) m end went.0) (no_names old.house empty) went.3));
    gives = tt;
    still = λ is. tt;
    faults = ends.faults;
    blamed = ends.blamed;
  }

  pub disks_refused : Rested see old new → StageGoes {T = Unit {0}} see stage.TakeDisks disks (Err stops.OutOfMemory) old new
  disks_refused rested = record {
    keeps = rested.keeps;
    goes = λ m is. (m, rested_moment see old new rested m is, later_refl m.counts, refl);
    gives = tt;
    still = λ is. tt;
    faults = faults_moved (scene see old) (scene see new) rested.moved;
    blamed = tt;
  }

split_at : (disks : List DiskAt) (i : ℕ) (p : DiskAt) → take (i + 1) disks ≡ take i disks ++ p ∷ [] → devices_of disks ≡ devices_of (take i disks) ++ p.device ∷ devices_of (drop (i + 1) disks)
split_at disks i p more =
    ap devices_of (sym (take-append-drop (i + 1) disks) ∙ ap (λ xs. xs ++ drop (i + 1) disks) more ∙ append_assoc (take i disks) (p ∷ []) (drop (i + 1) disks))
    ∙ map-append (λ q. q.device) (take i disks) (p ∷ drop (i + 1) disks)

-- one more of the words' devices
pub took_next : {P : Type 0} {ghosts : Ghosts P} (see : P → Seen) (disks : List DiskAt) (i : ℕ) (p : DiskAt) (a b c : View P ghosts) → take (i + 1) disks ≡ take i disks ++ p ∷ [] → Took see (devices_of (take i disks)) a b → Took see (p.device ∷ []) b c → Took see (devices_of (take (i + 1) disks)) a c
took_next see disks i p a b c more took one =
    subst (λ ns. Took see ns a c) (sym (ap devices_of more ∙ map-append (λ q. q.device) (take i disks) (p ∷ []))) (took_then see (devices_of (take i disks)) p.device a b c took one)

-- one of the words' devices is not taken
pub stop_next : {P : Type 0} {ghosts : Ghosts P} (see : P → Seen) (disks : List DiskAt) (i : ℕ) (p : DiskAt) (stop : Stop) (a b c : View P ghosts) → a.house.hand.items ≡ [] → take (i + 1) disks ≡ take i disks ++ p ∷ [] → Took see (devices_of (take i disks)) a b → TakeGives see p.device (Err stop) b c
    → StageGoes {T = Unit {0}} see stage.TakeDisks disks (Err stop) a c
stop_next see disks i p (stops.Ended end) a b c empty more took gives =
    disks_end see a c disks empty end (subst (λ ns. TakingEnds see ns end a c) (sym (split_at disks i p more)) (took_ends see (devices_of (take i disks)) p.device (devices_of (drop (i + 1) disks)) end a b c took gives))
stop_next see disks i p stops.OutOfMemory a b c empty more took gives = disks_refused see a c disks empty (rested_trans see a b c took.rested gives)
