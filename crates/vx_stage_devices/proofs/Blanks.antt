-- The stages that look for headers in hand.
use Rattle.std.proofs.Common.{◌≡◌, ◌∙◌, ◌⊎◌, ◌||◌, Bool, true, false, arith, List, [], ◌∷◌, map, Option, Some, None, Ok, Err, Result, refl, sym, ap, subst, inl, inr}
use Rattle.std.specs.Prelude.{IfSome, IsSome}
use Rattle.std.specs.Str.{bytes_eq}
use Rattle.vx_pages.specs.declared.local_piece.LocalPiece.{Ghosts}
use Rattle.vx_base.specs.Counts.{Rose}
use Rattle.vx_base.specs.Named.{Word}
use Rattle.vx_base.specs.Blocks.{Contents}
use Rattle.vx_base.proofs.NamedLemmas.{bytes_eq_self}
use Rattle.vx_header.specs.Named.{header_of}
use Rattle.vx_piece.specs.Seen.{Seen}
use Rattle.vx_copies.specs.Lists.{Each, AllOf}
use Rattle.vx_script_words.specs.declared.value.DiskAt.{DiskAt}
use Rattle.vx_answers.specs.declared.answer.End.{End}
use Rattle.vx_answers.specs.declared.refusal.Refusal.TheVariants.{InUse}
use Rattle.vx_moments.specs.World.{World}
use Rattle.vx_moments.specs.Moment.{Moment}
use Rattle.vx_moments.specs.Holding.{is_among}
use Rattle.vx_stages.specs.Records.{devices_of}
use Rattle.vx_stages.specs.Ends.{refused}
use Rattle.vx_stages.specs.Stages.{OfDevice, AreBlank, ReadsEach, HasHeader, LookingStops, DeviceEnds, ReadsAtMost, OnlyReads, IsDone, Stops, Wants}
use Rattle.vx_stages.specs.declared.stage.Stage.TheVariants as stage
use Rattle.vx_house.specs.Goes.{Goes, StageGoes, IsBlankSeen, IsHandBlank, Still}
use Rattle.vx_house.specs.Holders.{Holder, holders, hand_holder, hand_names, held_as, AreHeld}
use Rattle.vx_house.specs.Scene.{Shelved, seen_in, faults_in, faults_at, count_in, FaultsGoOn, IsBlamed}
use Rattle.vx_house.specs.View.{at, scene, IsMoment, Keeps, KeepsHouse}
use Rattle.vx_house.specs.declared.house.House.{House}
use Rattle.vx_house.specs.declared.house.Taken.{Taken}
use Rattle.vx_house.specs.declared.stop.Stop.{Stop}
use Rattle.vx_house.specs.declared.stop.Stop.TheVariants.{Ended, OutOfMemory}
use Rattle.vx_house.proofs.AllLaws.{all_each}
use Rattle.vx_house.proofs.Ends.{keeps_ended, goes_ended}
use Rattle.vx_house.proofs.Moments.{moment_at}
use Rattle.vx_house.proofs.Scenes.{scene_of}
use Rattle.vx_stage_devices.specs.Looks.{IsOnlyRead, IsReadOnce, IsReadBlank, IsHeadedSeen, EndsBy, HandStops, HandLooks}
use Rattle.vx_stage_devices.proofs.Readings.{IsCounted, counted_on, counted_told, counted_self, counted_each, reads_these, IsLooked, looked_on, looked_told, looked_self, looked_each, reads_most, still_each}
use Rattle.vx_house.proofs.Steps.{IsStep}
use Rattle.vx_copies.proofs.StepLaws.{each_map}
use Rattle.vx_copies.proofs.ToggleOrder.{each_all}
use Rattle.vx_house.proofs.Hands.{after, IsInWorld, volumes_held, group_held, volumes_others, group_others, hand_held, hand_in_world, hand_steps, hand_keeps, hand_faults, hand_later, hand_moment}

or_true : (a b : Bool) → b ≡ true → (a || b) ≡ true
or_true true b e = refl
or_true false b e = e

true_or : (a b : Bool) → a ≡ true → (a || b) ≡ true
true_or true b e = refl
true_or false b e = cc

-- each in hand is among those in hand
among_hand : {P : Type 0} (ts : List (Taken P)) → AllOf (λ t. is_among t.device (map (λ u. u.device) ts) ≡ true) ts
among_hand [] = tt
among_hand {P = P} (t ∷ ts) = (
  true_or (bytes_eq t.device t.device) (is_among t.device (map (λ (u : Taken P). u.device) ts)) (bytes_eq_self t.device),
  all_each (λ u. is_among u.device (map (λ (u : Taken P). u.device) ts) ≡ true) (λ u. is_among u.device (map (λ (u : Taken P). u.device) (t ∷ ts)) ≡ true) (λ u e. or_true (bytes_eq t.device u.device) (is_among u.device (map (λ (u : Taken P). u.device) ts)) e) ts (among_hand ts),
)

-- what is told of the device is so of the world's
pub of_world : (w : World) (name : Word) (seen : Seen) (Q : Contents → Type 0) → IsInWorld w name seen → IfSome seen.told Q → OfDevice w name (λ d. Q d.contents)
of_world w name seen Q there told = (there.device, there.was, subst (λ (o : Option Contents). IfSome o Q) there.told told)

module _ {P : Type 0} (see : P → Seen) (w : World) where
  are_blank : (ts us : List (Taken P)) → AllOf (λ t. IsInWorld w t.device (see t.piece)) ts → Each (IsReadBlank see) ts us → AreBlank w (map (λ t. t.device) ts)
  are_blank [] [] there each = tt
  are_blank [] (u ∷ us) there each = absurd each
  are_blank (t ∷ ts) [] there each = absurd each
  are_blank (t ∷ ts) (u ∷ us) there each = (of_world w t.device (see t.piece) (λ c. header_of (c 0) ≡ None) there.0 each.0.1, are_blank ts us there.1 each.1)

-- a device that ends the command, as the counts have it
module _ {P : Type 0} (see : P → Seen) (shelf : Shelved) (hs ns : List Holder) (t u : Taken P) (same : u.device ≡ t.device) (before : held_as hs t.device ≡ Some (see t.piece)) (behind : held_as ns u.device ≡ Some (see u.piece)) where
  held_now : held_as ns t.device ≡ Some (see u.piece)
  held_now = ap (held_as ns) (sym same) ∙ behind

  rose_here : Rose (see t.piece).faults (see u.piece).faults → Rose (faults_at (scene_of shelf hs) t.device) (faults_at (scene_of shelf ns) t.device)
  rose_here rose =
      subst (λ o. Rose (faults_in o (shelf.counted t.device)) (faults_at (scene_of shelf ns) t.device)) (sym before)
      (subst (λ o. Rose (see t.piece).faults (faults_in o (shelf.counted t.device))) (sym held_now) rose)

  pub ends_counted : (m : Moment) (end : End) → m.counts.faults t.device ≡ faults_at (scene_of shelf hs) t.device → EndsBy see t end u → DeviceEnds t.device m end (moment_at m.world (scene_of shelf ns))
  ends_counted m end counted (inl (is, rose)) = inl (is, subst (λ n. Rose n (faults_at (scene_of shelf ns) t.device)) (sym counted) (rose_here rose))
  ends_counted m end counted (inr (is, cut)) = inr (is, ap (λ o. count_in (λ seen. seen.cut) false (seen_in o shelf.free t.device)) held_now ∙ cut)

  pub ends_blamed : (end : End) → EndsBy see t end u → IsBlamed end (scene_of shelf hs) (scene_of shelf ns)
  ends_blamed end (inl (is, rose)) = subst (λ e. IsBlamed e (scene_of shelf hs) (scene_of shelf ns)) (sym is) (inl (rose_here rose))
  ends_blamed end (inr (is, cut)) = subst (λ e. IsBlamed e (scene_of shelf hs) (scene_of shelf ns)) (sym is) tt

module _ {P : Type 0} (see : P → Seen) where
  -- a hand of which one device ended the command was read at most
  read_same : (t : Taken P) → IsOnlyRead see t t
  read_same t = record { device = refl; kept = record { device = refl; start = refl; sectors = refl; stop = refl; faults = omega arith; cut = λ c. c }; same = record { told = refl; writes = refl }; most = omega arith }

  all_same : (ts : List (Taken P)) → Each (IsOnlyRead see) ts ts
  all_same [] = tt
  all_same (t ∷ ts) = (read_same t, all_same ts)

  stops_read : (end : End) (ts us : List (Taken P)) → HandStops see ts (Ended end) us → Each (IsOnlyRead see) ts us
  stops_read end [] us stops = absurd stops
  stops_read end (t ∷ ts) [] stops = absurd stops
  stops_read end (t ∷ ts) (u ∷ us) (inl (stop, same)) = (stop.0, subst (Each (IsOnlyRead see) ts) (sym same) (all_same ts))
  stops_read end (t ∷ ts) (u ∷ us) (inr (blank, rest)) = (blank.0.read, stops_read end ts us rest)

  never_refused : (ts us : List (Taken P)) → HandStops see ts OutOfMemory us → ⊥
  never_refused [] us stops = stops
  never_refused (t ∷ ts) [] stops = stops
  never_refused (t ∷ ts) (u ∷ us) (inl (stop, same)) = stop
  never_refused (t ∷ ts) (u ∷ us) (inr (blank, rest)) = never_refused ts us rest

  module _ (shelf : Shelved) (hs ns : List Holder) where
    stops_counted : (m : Moment) (end : End) (ts us : List (Taken P)) → ((name : Word) → m.counts.faults name ≡ faults_at (scene_of shelf hs) name) → AllOf (λ t. IsInWorld m.world t.device (see t.piece)) ts
        → AllOf (λ t. held_as hs t.device ≡ Some (see t.piece)) ts → AllOf (λ u. held_as ns u.device ≡ Some (see u.piece)) us → HandStops see ts (Ended end) us → LookingStops (map (λ t. t.device) ts) m end (moment_at m.world (scene_of shelf ns))
    stops_counted m end [] us counted there before behind stops = absurd stops
    stops_counted m end (t ∷ ts) [] counted there before behind stops = absurd stops
    stops_counted m end (t ∷ ts) (u ∷ us) counted there before behind (inl (stop, same)) = inl (by_end stop.1)
      where
        by_end : (IsHeadedSeen (see t.piece) × (end ≡ refused (InUse t.device))) ⊎ EndsBy see t end u → (HasHeader m.world t.device × (end ≡ refused (InUse t.device))) ⊎ DeviceEnds t.device m end (moment_at m.world (scene_of shelf ns))
        by_end (inl (headed, is)) = inl (of_world m.world t.device (see t.piece) (λ c. IsSome (header_of (c 0))) there.0 headed, is)
        by_end (inr ends) = inr (ends_counted see shelf hs ns t u stop.0.device before.0 behind.0 m end (counted t.device) ends)
    stops_counted m end (t ∷ ts) (u ∷ us) counted there before behind (inr (blank, rest)) =
        inr (of_world m.world t.device (see t.piece) (λ c. header_of (c 0) ≡ None) there.0 blank.1, stops_counted m end ts us counted there.1 before.1 behind.1 rest)

    stops_blamed : (end : End) (ts us : List (Taken P)) → AllOf (λ t. held_as hs t.device ≡ Some (see t.piece)) ts → AllOf (λ u. held_as ns u.device ≡ Some (see u.piece)) us → HandStops see ts (Ended end) us → IsBlamed end (scene_of shelf hs) (scene_of shelf ns)
    stops_blamed end [] us before behind stops = absurd stops
    stops_blamed end (t ∷ ts) [] before behind stops = absurd stops
    stops_blamed end (t ∷ ts) (u ∷ us) before behind (inl (stop, same)) = by_end stop.1
      where
        by_end : (IsHeadedSeen (see t.piece) × (end ≡ refused (InUse t.device))) ⊎ EndsBy see t end u → IsBlamed end (scene_of shelf hs) (scene_of shelf ns)
        by_end (inl (headed, is)) = subst (λ e. IsBlamed e (scene_of shelf hs) (scene_of shelf ns)) (sym is) tt
        by_end (inr ends) = ends_blamed see shelf hs ns t u stop.0.device before.0 behind.0 end ends
    stops_blamed end (t ∷ ts) (u ∷ us) before behind (inr (blank, rest)) = stops_blamed end ts us before.1 behind.1 rest

-- The hand was read once.
module _ {P : Type 0} {ghosts : Ghosts P} (see : P → Seen) (h k : House P ghosts) (shelf : Shelved) (are : AreHeld shelf.held (holders see h)) (keeps : KeepsHouse see h) (each : Each (IsReadOnce see) h.hand.items k.hand.items) where
  abbrev names : List Word
  names = hand_names h

  volumes_read : AllOf (λ o. IsCounted names o.name o.seen o.seen) (volumes_held see h)
  volumes_read = counted_self names (volumes_held see h) (volumes_others see h are.apart)

  group_read : AllOf (λ o. IsCounted names o.name o.seen o.seen) (group_held see h)
  group_read = counted_self names (group_held see h) (group_others see h are.apart)

  hand_read : Each (IsStep (IsCounted names)) (map (hand_holder see) h.hand.items) (map (hand_holder see) k.hand.items)
  hand_read = counted_each see names h.hand.items k.hand.items (among_hand h.hand.items) each

  pub once_keeps : Keeps see (at shelf (after h k))
  once_keeps = hand_keeps see h k (IsCounted names) (counted_on names) volumes_read group_read hand_read shelf are keeps

  pub once_faults : FaultsGoOn (scene see (at shelf h)) (scene see (at shelf (after h k)))
  once_faults = hand_faults see h k (IsCounted names) (counted_on names) volumes_read group_read hand_read shelf

  pub once_goes : (R : World → Type 0) → ((m : Moment) → IsMoment see (at shelf h) m → R m.world) → Goes see (λ m n. R m.world × (n.world ≡ m.world) × ReadsEach names m.counts n.counts) (at shelf h) (at shelf (after h k))
  once_goes R there m is = (
    moment_at m.world (scene see (at shelf (after h k))),
    hand_moment see h k (IsCounted names) (counted_on names) volumes_read group_read hand_read (counted_told names) shelf m is,
    hand_later see h k (IsCounted names) (counted_on names) volumes_read group_read hand_read shelf m is,
    (there m is, refl, reads_these see h k shelf m is (holders see (after h k)) (hand_steps see h k (IsCounted names) (counted_on names) volumes_read group_read hand_read)),
  )

  pub once_still : Still see h (after h k)
  once_still = record { hand = still_each see h.hand.items k.hand.items each; volumes = refl; group = refl }

-- The hand was read at most.
module _ {P : Type 0} {ghosts : Ghosts P} (see : P → Seen) (h k : House P ghosts) (shelf : Shelved) (are : AreHeld shelf.held (holders see h)) (keeps : KeepsHouse see h) (each : Each (IsOnlyRead see) h.hand.items k.hand.items) where
  abbrev looked : List Word
  looked = hand_names h

  hand_on : Each (IsStep (IsLooked looked)) (map (hand_holder see) h.hand.items) (map (hand_holder see) k.hand.items)
  hand_on = looked_each see looked h.hand.items k.hand.items (among_hand h.hand.items) each

  pub most_keeps : Keeps see (at shelf (after h k))
  most_keeps = hand_keeps see h k (IsLooked looked) (looked_on looked) (looked_self looked (volumes_held see h)) (looked_self looked (group_held see h)) hand_on shelf are keeps

  pub most_faults : FaultsGoOn (scene see (at shelf h)) (scene see (at shelf (after h k)))
  most_faults = hand_faults see h k (IsLooked looked) (looked_on looked) (looked_self looked (volumes_held see h)) (looked_self looked (group_held see h)) hand_on shelf

  -- each in hand is held under its name still
  pub most_held : AllOf (λ u. held_as (holders see (after h k)) u.device ≡ Some (see u.piece)) k.hand.items
  most_held = hand_held see (after h k) most_keeps.devices.apart

  pub most_goes : (end : End) (Stops : Moment → End → Moment → Type 0) → ((m : Moment) → IsMoment see (at shelf h) m → Stops m end (moment_at m.world (scene see (at shelf (after h k))))) → Goes see (λ m n. OnlyReads (ReadsAtMost looked) m n × Stops m end n) (at shelf h) (at shelf (after h k))
  most_goes end Stops stops m is = (
    moment_at m.world (scene see (at shelf (after h k))),
    hand_moment see h k (IsLooked looked) (looked_on looked) (looked_self looked (volumes_held see h)) (looked_self looked (group_held see h)) hand_on (looked_told looked) shelf m is,
    hand_later see h k (IsLooked looked) (looked_on looked) (looked_self looked (volumes_held see h)) (looked_self looked (group_held see h)) hand_on shelf m is,
    (
      (refl, reads_most see h k shelf m is (holders see (after h k)) (hand_steps see h k (IsLooked looked) (looked_on looked) (looked_self looked (volumes_held see h)) (looked_self looked (group_held see h)) hand_on)),
      stops m is,
    ),
  )

-- The stages.
module _ {P : Type 0} {ghosts : Ghosts P} (see : P → Seen) (h k : House P ghosts) (shelf : Shelved) (are : AreHeld shelf.held (holders see h)) (keeps : KeepsHouse see h) where
  only_once : Each (IsReadBlank see) h.hand.items k.hand.items → Each (IsReadOnce see) h.hand.items k.hand.items
  only_once each = each_map (IsReadBlank see) (IsReadOnce see) (λ t u blank. blank.0) h.hand.items k.hand.items each

  -- none had a header, and none has
  blank_now : Each (IsReadBlank see) h.hand.items k.hand.items → IsHandBlank see (after h k)
  blank_now each = each_all (IsReadBlank see) (λ t. Unit {0}) (λ u. IsBlankSeen (see u.piece)) (λ t u blank _. subst (λ (o : Option Contents). IfSome o (λ c. header_of (c 0) ≡ None)) (sym blank.0.read.same.told) blank.1) h.hand.items k.hand.items each (all_units h.hand.items)
    where
      all_units : (ts : List (Taken P)) → AllOf (λ t. Unit {0}) ts
      all_units [] = tt
      all_units (t ∷ ts) = (tt, all_units ts)

  blank_goes : Each (IsReadBlank see) h.hand.items k.hand.items → Goes see (λ m n. AreBlank m.world (hand_names h) × (n.world ≡ m.world) × ReadsEach (hand_names h) m.counts n.counts) (at shelf h) (at shelf (after h k))
  blank_goes each = once_goes see h k shelf are keeps (only_once each) (λ w. AreBlank w (hand_names h)) (λ m is. are_blank see m.world h.hand.items k.hand.items (hand_in_world see h shelf m are.apart is) each)

  stop_goes : (end : End) → HandStops see h.hand.items (Ended end) k.hand.items → Goes see (λ m n. OnlyReads (ReadsAtMost (hand_names h)) m n × LookingStops (hand_names h) m end n) (at shelf h) (at shelf (after h k))
  stop_goes end stops = most_goes see h k shelf are keeps (stops_read see end h.hand.items k.hand.items stops) end (LookingStops (hand_names h))
      (λ m is. stops_counted see shelf (holders see h) (holders see (after h k)) m end h.hand.items k.hand.items is.counts.faults (hand_in_world see h shelf m are.apart is) (hand_held see h are.apart) (most_held see h k shelf are keeps (stops_read see end h.hand.items k.hand.items stops)) stops)

  stop_blamed : (end : End) → HandStops see h.hand.items (Ended end) k.hand.items → IsBlamed end (scene see (at shelf h)) (scene see (at shelf (after h k)))
  stop_blamed end stops = stops_blamed see shelf (holders see h) (holders see (after h k)) end h.hand.items k.hand.items (hand_held see h are.apart) (most_held see h k shelf are keeps (stops_read see end h.hand.items k.hand.items stops)) stops

  pub disks_look : (disks : List DiskAt) (result : Result (Unit {0}) Stop) → hand_names h ≡ devices_of disks → HandLooks see h.hand.items result k.hand.items → StageGoes see stage.LookDisks disks result (at shelf h) (at shelf (after h k))
  disks_look disks (Ok u) named each = record {
    keeps = once_keeps see h k shelf are keeps (only_once each);
    goes = subst (λ ns. Goes see (λ m n. AreBlank m.world ns × (n.world ≡ m.world) × ReadsEach ns m.counts n.counts) (at shelf h) (at shelf (after h k))) named (blank_goes each);
    gives = blank_now each;
    still = λ _. once_still see h k shelf are keeps (only_once each);
    faults = once_faults see h k shelf are keeps (only_once each);
    blamed = tt;
  }
  disks_look disks (Err (Ended end)) named stops = record {
    keeps = keeps_ended see end (at shelf (after h k)) (most_keeps see h k shelf are keeps (stops_read see end h.hand.items k.hand.items stops));
    goes = goes_ended see (IsDone stage.LookDisks disks) (Stops stage.LookDisks disks) (Wants stage.LookDisks) end (at shelf h) (at shelf (after h k)) (subst (λ ns. Goes see (λ m n. OnlyReads (ReadsAtMost ns) m n × LookingStops ns m end n) (at shelf h) (at shelf (after h k))) named (stop_goes end stops));
    gives = tt;
    still = λ _. tt;
    faults = most_faults see h k shelf are keeps (stops_read see end h.hand.items k.hand.items stops);
    blamed = stop_blamed end stops;
  }
  disks_look disks (Err OutOfMemory) named stops = absurd (never_refused see h.hand.items k.hand.items stops)

  pub blank_look : (name : Word) (disks : List DiskAt) (result : Result (Unit {0}) Stop) → hand_names h ≡ name ∷ [] → HandLooks see h.hand.items result k.hand.items → StageGoes see (stage.LookBlank name) disks result (at shelf h) (at shelf (after h k))
  blank_look name disks (Ok u) named each = record {
    keeps = once_keeps see h k shelf are keeps (only_once each);
    goes = λ m is. let went = subst (λ ns. Goes see (λ m n. AreBlank m.world ns × (n.world ≡ m.world) × ReadsEach ns m.counts n.counts) (at shelf h) (at shelf (after h k))) named (blank_goes each) m is in (went.0, went.1, went.2, (went.3.0.0, went.3.1, went.3.2));
    gives = blank_now each;
    still = λ _. once_still see h k shelf are keeps (only_once each);
    faults = once_faults see h k shelf are keeps (only_once each);
    blamed = tt;
  }
  blank_look name disks (Err (Ended end)) named stops = record {
    keeps = keeps_ended see end (at shelf (after h k)) (most_keeps see h k shelf are keeps (stops_read see end h.hand.items k.hand.items stops));
    goes = goes_ended see (IsDone (stage.LookBlank name) disks) (Stops (stage.LookBlank name) disks) (Wants (stage.LookBlank name)) end (at shelf h) (at shelf (after h k)) (subst (λ ns. Goes see (λ m n. OnlyReads (ReadsAtMost ns) m n × LookingStops ns m end n) (at shelf h) (at shelf (after h k))) named (stop_goes end stops));
    gives = tt;
    still = λ _. tt;
    faults = most_faults see h k shelf are keeps (stops_read see end h.hand.items k.hand.items stops);
    blamed = stop_blamed end stops;
  }
  blank_look name disks (Err OutOfMemory) named stops = absurd (never_refused see h.hand.items k.hand.items stops)
