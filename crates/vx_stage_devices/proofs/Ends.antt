-- The stage that searches for a group among the devices that nobody holds.
use Rattle.std.proofs.Common.{◌≡◌, ◌∙◌, ◌⊎◌, ◌||◌, ◌+◌, ◌≤◌, ℕ, Bool, true, false, cond, List, [], ◌∷◌, ◌++◌, map, Option, Some, None, Ok, Err, Result, refl, sym, ap, subst, arith, inl, inr}
use Rattle.std.specs.Prelude.{IsSome, IfSome}
use Rattle.std.specs.List.{list_any}
use Rattle.std.specs.Str.{bytes_eq}
use Rattle.vx_pages.specs.declared.local_piece.LocalPiece.{Ghosts}
use Rattle.vx_base.specs.Blocks.{Contents}
use Rattle.vx_base.specs.Counts.{Rose, later_count}
use Rattle.vx_base.specs.Named.{Word}
use Rattle.vx_header.specs.Named.{header_of}
use Rattle.vx_piece.specs.Seen.{Seen}
use Rattle.vx_shelf.specs.Shelf.{IsUsed}
use Rattle.vx_shelf.specs.Listed.{Lists}
use Rattle.vx_copies.specs.Image.{names_group}
use Rattle.vx_copies.specs.Lists.{Each}
use Rattle.vx_script_words.specs.declared.value.DiskAt.{DiskAt}
use Rattle.vx_started.specs.declared.started.Started.{Started}
use Rattle.vx_answers.specs.declared.answer.End.{End}
use Rattle.vx_answers.specs.declared.answer.End.TheVariants as ends
use Rattle.vx_answers.specs.declared.refusal.Refusal.TheVariants.{Exists}
use Rattle.vx_moments.specs.World.{Device}
use Rattle.vx_moments.specs.Moment.{Moment, AreLater, WritesNone}
use Rattle.vx_moments.specs.Holding.{is_among}
use Rattle.vx_stages.specs.Records.{devices_of}
use Rattle.vx_stages.specs.Ends.{refused}
use Rattle.vx_stages.specs.Stages.{IsFree, NamesGroup, SearchCalls, SearchesAtMost, FailsAt, OnlyReads, ShelfEnds, IsDone, Stops, Wants}
use Rattle.vx_stages.specs.declared.stage.Stage.TheVariants as stage
use Rattle.vx_house.specs.Goes.{Goes, StageGoes, Still, IsStill}
use Rattle.vx_house.specs.Holders.{Holder, volume_holder, holders, hand_names, held_as}
use Rattle.vx_house.specs.Scene.{Shelved, seen_in, seen_at, faults_in, faults_at, count_in, counts_of, FaultsGoOn, IsBlamed}
use Rattle.vx_house.specs.View.{View, at, scene, is_lent, IsMoment, Keeps}
use Rattle.vx_house.specs.declared.house.House.{House}
use Rattle.vx_house.specs.declared.house.Taken.{Taken}
use Rattle.vx_house.specs.declared.stop.Stop.{Stop}
use Rattle.vx_house.specs.declared.stop.Stop.TheVariants.{Ended, OutOfMemory}
use Rattle.vx_house.proofs.Ends.{keeps_ended, goes_ended}
use Rattle.vx_house.proofs.Free.{not_held, told_is_free, free_is_told}
use Rattle.vx_house.proofs.Holders.{same_held}
use Rattle.vx_house.specs.Reading.{Stays}
use Rattle.vx_house.proofs.Moments.{moment_at, counts_own, counts_later}
use Rattle.vx_house.proofs.Readings.{stays_same, stays_device, stays_place, stays_writes}
use Rattle.vx_house.proofs.Takes.{some_of}
use Rattle.vx_stage_devices.specs.Seeks.{NamesSeen, IsSeenOnly, IsSoughtOnce, IsPlace, ArePlaces, IsOnlySought, Seeks, SeekCause, SeekEnds, SeeksThrough}
use Rattle.vx_stage_devices.proofs.Searches.{seeks_only, seeks_then, only_then, ends_then}
use Rattle.vx_house.proofs.Hands.{IsInWorld, in_world}

-- what is seen of a place that was read at most
seen_places : (names : List Word) (o : Option Seen) (a b : Option (Word → Option Seen)) (name : Word) → ArePlaces IsSeenOnly names a b → (x : Bool) × IsPlace IsSeenOnly x (seen_in o a name) (seen_in o b name)
seen_places names (Some s) a b name seen = (false, refl)
seen_places names None None None name seen = (false, refl)
seen_places names None None (Some b) name seen = absurd seen
seen_places names None (Some a) None name seen = absurd seen
seen_places names None (Some a) (Some b) name seen = (is_among name names, seen name)

place_stays : (x : Bool) (a b : Option Seen) → IsPlace IsSeenOnly x a b → Stays a b
place_stays false a b same = stays_same a b same
place_stays true None None place = tt
place_stays true None (Some t) place = absurd place
place_stays true (Some s) None place = absurd place
place_stays true (Some s) (Some t) place = (place.kept, place.same)

place_reads : (x : Bool) (a b : Option Seen) → IsPlace IsSeenOnly x a b → count_in (λ (seen : Seen). seen.reads) 0 b ≤ count_in (λ (seen : Seen). seen.reads) 0 a + 1
place_reads false a b same = let e : count_in (λ (seen : Seen). seen.reads) 0 b ≡ count_in (λ (seen : Seen). seen.reads) 0 a = ap (count_in (λ (seen : Seen). seen.reads) 0) same in omega (arith, e)
place_reads true None None place = omega arith
place_reads true None (Some t) place = absurd place
place_reads true (Some s) None place = absurd place
place_reads true (Some s) (Some t) place = place.most

told_on : (names : List Word) (a b : Option (Word → Option Seen)) → ArePlaces IsSeenOnly names a b → IsSome a → IsSome b
told_on names None b seen some = cc
told_on names (Some a) None seen some = absurd seen
told_on names (Some a) (Some b) seen some = refl

faults_on : (o : Option Seen) (x y : ℕ) → x ≤ y → faults_in o x ≤ faults_in o y
faults_on None x y le = le
faults_on (Some s) x y le = omega arith

faults_still : (o : Option Seen) (x y : ℕ) → y ≡ x → faults_in o y ≡ faults_in o x
faults_still None x y e = e
faults_still (Some s) x y e = refl

-- what nothing is held under is no volume's device
lent_none : {P : Type 0} (see : P → Seen) (es : List (Word × Started P)) (hs : List Holder) (name : Word) → held_as (map (volume_holder see) es ++ hs) name ≡ None → list_any (λ e. bytes_eq e.1.device name) es ≡ false
lent_none see [] hs name none = refl
lent_none see (e ∷ es) hs name none = by_test (bytes_eq e.1.device name) (lent_none see es hs name) none
  where
    by_test : (b : Bool) → (held_as (map (volume_holder see) es ++ hs) name ≡ None → list_any (λ x. bytes_eq x.1.device name) es ≡ false) → cond b (Some (see e.1.piece)) (held_as (map (volume_holder see) es ++ hs) name) ≡ None → (b || list_any (λ x. bytes_eq x.1.device name) es) ≡ false
    by_test true rest is = cc
    by_test false rest is = rest is

all_still : {P : Type 0} (see : P → Seen) (ts : List (Taken P)) → Each (IsStill see) ts ts
all_still see [] = tt
all_still see (t ∷ ts) = (record { device = refl; sectors = refl; told = refl }, all_still see ts)

still_self : {P : Type 0} {ghosts : Ghosts P} (see : P → Seen) (h : House P ghosts) → Still see h h
still_self see h = record { hand = all_still see h.hand.items; volumes = refl; group = refl }

module _ {P : Type 0} {ghosts : Ghosts P} (see : P → Seen) (v : View P ghosts) (keeps : Keeps see v) (shelf : Shelved) where
  abbrev new : View P ghosts
  new = at shelf v.house

  -- The devices of these names were read at most.
  module _ (names : List Word) (only : IsOnlySought names v.shelf shelf) where
    only_keeps : Keeps see new
    only_keeps = record { devices = same_held v.shelf.held shelf.held (holders see v.house) only.held keeps.devices; house = keeps.house }

    only_faults : FaultsGoOn (scene see v) (scene see new)
    only_faults = record { devices = λ name. faults_on (held_as (holders see v.house) name) (v.shelf.counted name) (shelf.counted name) (only.counted name); shelf = only.later }

    place : (name : Word) → (x : Bool) × IsPlace IsSeenOnly x (seen_at (scene see v) name) (seen_at (scene see new) name)
    place name = seen_places names (held_as (holders see v.house) name) v.shelf.free shelf.free name only.told

    stays : (name : Word) → Stays (seen_at (scene see v) name) (seen_at (scene see new) name)
    stays name = place_stays (place name).0 (seen_at (scene see v) name) (seen_at (scene see new) name) (place name).1

    only_moment : (m : Moment) → IsMoment see v m → IsMoment see new (moment_at m.world (scene see new))
    only_moment m is = record {
      told = told_on names v.shelf.free shelf.free only.told is.told;
      devices_are = λ name. stays_device (is_lent v.house name) (seen_at (scene see v) name) (seen_at (scene see new) name) (m.world.devices name) (stays name) (is.devices_are name);
      volumes_are = is.volumes_are;
      runs_are = is.runs_are;
      group_is = is.group_is;
      counts = counts_own (scene see new);
    }

    only_later : (m : Moment) → IsMoment see v m → AreLater m.counts (counts_of (scene see new))
    only_later m is = counts_later (scene see v) (scene see new) m.counts is.counts (λ name. stays_place (seen_at (scene see v) name) (seen_at (scene see new) name) (stays name)) only_faults

    only_writes : (m : Moment) → IsMoment see v m → WritesNone m.counts (counts_of (scene see new))
    only_writes m is name = stays_writes (seen_at (scene see v) name) (seen_at (scene see new) name) (stays name) ∙ sym (is.counts.writes name)

  -- What a shelf tells of its devices, at a moment.
  module _ (m : Moment) (is : IsMoment see v m) (a b : Word → Option Seen) (was : v.shelf.free ≡ Some a) (now : shelf.free ≡ Some b) where
    held_none : (name : Word) → v.shelf.held name ≡ None → held_as (holders see v.house) name ≡ None
    held_none name none = not_held v.shelf.held (holders see v.house) name keeps.devices.each none

    seen_before : (name : Word) → held_as (holders see v.house) name ≡ None → seen_at (scene see v) name ≡ a name
    seen_before name none = ap (λ o. seen_in o v.shelf.free name) none ∙ ap (λ f. seen_in None f name) was

    seen_now : (name : Word) → held_as (holders see v.house) name ≡ None → seen_at (scene see new) name ≡ b name
    seen_now name none = ap (λ o. seen_in o shelf.free name) none ∙ ap (λ f. seen_in None f name) now

    free_told : (name : Word) (s : Seen) → v.shelf.held name ≡ None → a name ≡ Some s → IsFree m.world (hand_names v.house) name
    free_told = told_is_free see (scene see v) v.house keeps.devices refl keeps.house m.world is.volumes_are is.group_is a was is.devices_are

    told_free : (name : Word) → IsFree m.world (hand_names v.house) name → (v.shelf.held name ≡ None) × ((s : Seen) × (a name ≡ Some s))
    told_free = free_is_told see (scene see v) v.house keeps.devices refl keeps.house m.world is.volumes_are is.group_is a was is.devices_are

    -- a device that is told is the world's
    world_of : (name : Word) (s : Seen) → v.shelf.held name ≡ None → a name ≡ Some s → IsInWorld m.world name s
    world_of name s none told =
        in_world m.world name s (is_lent v.house name) (seen_at (scene see v) name) (m.world.devices name) refl (lent_none see v.house.volumes.entries _ name (held_none name none)) (seen_before name (held_none name none) ∙ told) (is.devices_are name)

    -- What is not free was not read.
    module _ (names : List Word) (only : IsOnlySought names v.shelf shelf) where
      seen_each : (name : Word) → IsPlace IsSeenOnly (is_among name names) (a name) (b name)
      seen_each = subst (λ o. ArePlaces IsSeenOnly names (Some a) o) now (subst (λ o. ArePlaces IsSeenOnly names o shelf.free) was only.told)

      same_place : (name : Word) → (IsFree m.world (hand_names v.house) name → ⊥) → (o x : Option Seen) → held_as (holders see v.house) name ≡ o → a name ≡ x → seen_at (scene see new) name ≡ seen_at (scene see v) name
      same_place name not (Some s) x e f = ap (λ o. seen_in o shelf.free name) e ∙ sym (ap (λ o. seen_in o v.shelf.free name) e)
      same_place name not None (Some s) e f = absurd (not (free_told name s (keeps.devices.only name e) f))
      same_place name not None None e f = seen_now name e ∙ none_now (is_among name names) (a name) (b name) f refl (seen_each name) ∙ sym f ∙ sym (seen_before name e)
        where
          none_now : (c : Bool) (x y : Option Seen) → x ≡ None → b name ≡ y → IsPlace IsSeenOnly c x y → b name ≡ None
          none_now false x y is_none at_b place = at_b ∙ place ∙ is_none
          none_now true None None is_none at_b place = at_b
          none_now true None (Some t) is_none at_b place = absurd place
          none_now true (Some s) y is_none at_b place = cc

      reads_other : (name : Word) → (IsFree m.world (hand_names v.house) name → ⊥) → count_in (λ seen. seen.reads) 0 (seen_at (scene see new) name) ≡ m.counts.reads name
      reads_other name not = ap (count_in (λ seen. seen.reads) 0) (same_place name not (held_as (holders see v.house) name) (a name) refl refl) ∙ sym (is.counts.reads name)

      searched_at_most : SearchesAtMost (hand_names v.house) m.world m.counts (counts_of (scene see new))
      searched_at_most = record {
        these = λ name free. let there = place names only name in let up = place_reads there.0 (seen_at (scene see v) name) (seen_at (scene see new) name) there.1 in let e = is.counts.reads name in omega (arith, up, e);
        others = reads_other;
        writes = only_writes names only m is;
      }

    -- All that are free were sought.
    module _ (dg : Word) (names : List Word) (lists : Lists names a v.shelf.held) (seeks : Seeks dg names v.shelf shelf) where
      sought : (name : Word) → IsPlace (IsSoughtOnce dg) (is_among name names) (a name) (b name)
      sought = subst (λ o. ArePlaces (IsSoughtOnce dg) names (Some a) o) now (subst (λ o. ArePlaces (IsSoughtOnce dg) names o shelf.free) was seeks.told)

      among : (name : Word) (s : Seen) → a name ≡ Some s → is_among name names ≡ true
      among name s told = (lists name).1 (inl (subst IsSome (sym told) refl))

      once_by : (name : Word) (x y : Option Seen) (s : Seen) → x ≡ Some s → b name ≡ y → IsPlace (IsSoughtOnce dg) true x y → (t : Seen) × (b name ≡ Some t) × IsSoughtOnce dg s t
      once_by name None y s e f place = cc
      once_by name (Some x) None s e f place = absurd place
      once_by name (Some x) (Some t) s e f place = let same : x ≡ s = cc in (t, f, subst (λ z. IsSoughtOnce dg z t) same place)

      once : (name : Word) (s : Seen) → a name ≡ Some s → (t : Seen) × (b name ≡ Some t) × IsSoughtOnce dg s t
      once name s told = once_by name (a name) (b name) s told refl (subst (λ x. IsPlace (IsSoughtOnce dg) x (a name) (b name)) (among name s told) (sought name))

      none_names : (name : Word) → IsFree m.world (hand_names v.house) name → NamesGroup dg m.world name → ⊥
      none_names name free (d, at_world, names_it) =
          let told = told_free name free in
          let here = world_of name told.1.0 told.0 told.1.1 in
          let other : names_group dg (header_of (here.device.contents 0)) ≡ false = subst (λ (o : Option Contents). IfSome o (λ c. names_group dg (header_of (c 0)) ≡ false)) here.told (once name told.1.0 told.1.1).2.other in
          let same : d ≡ here.device = (let both : Some d ≡ Some here.device = sym at_world ∙ here.was in cc) in
          let both : names_group dg (header_of (here.device.contents 0)) ≡ true = subst (λ (x : Device). names_group dg (header_of (x.contents 0)) ≡ true) same names_it in cc

      reads_free : (name : Word) → IsFree m.world (hand_names v.house) name → count_in (λ seen. seen.reads) 0 (seen_at (scene see new) name) ≡ later_count (m.counts.reads name) 1
      reads_free name free =
          let told = told_free name free in
          let t = once name told.1.0 told.1.1 in
          let none = held_none name told.0 in
          ap (count_in (λ seen. seen.reads) 0) (seen_now name none ∙ t.1) ∙ t.2.once ∙ ap (λ n. later_count n 1) (sym (is.counts.reads name ∙ ap (count_in (λ seen. seen.reads) 0) (seen_before name none ∙ told.1.1)))

      search_calls : SearchCalls (hand_names v.house) m.world m.counts (counts_of (scene see new))
      search_calls = record {
        these = reads_free;
        others = reads_other names (seeks_only dg names v.shelf shelf seeks);
        writes = only_writes names (seeks_only dg names v.shelf shelf seeks) m is;
        quiet = record {
          devices = λ name. faults_still (held_as (holders see v.house) name) (v.shelf.counted name) (shelf.counted name) (seeks.same is.told name) ∙ sym (is.counts.faults name);
          shelf = seeks.quiet ∙ sym is.counts.shelf;
        };
      }

      none_claims : (name : Word) → IsFree m.world (hand_names v.house) name → NamesGroup dg m.world name → ⊥
      none_claims = none_names

    -- One that is free ends the search.
    module _ (dg : Word) (names : List Word) (name : Word) (used : IsUsed name a v.shelf.held) (end : End) (stops : SeekEnds dg names name v.shelf end shelf) where
      told_here : (s : Seen) × (a name ≡ Some s)
      told_here = by_used used
        where
          by_used : IsUsed name a v.shelf.held → (s : Seen) × (a name ≡ Some s)
          by_used (inl some) = some_of (a name) some
          by_used (inr some) = let none : v.shelf.held name ≡ None = stops.none in cc

      none_here : held_as (holders see v.house) name ≡ None
      none_here = held_none name stops.none

      by_cause : SeekCause dg name v.shelf end shelf → (NamesGroup dg m.world name × (end ≡ refused (Exists dg))) ⊎ FailsAt name m end (moment_at m.world (scene see new))
      by_cause (inl (end_is, named)) =
          let there = subst (λ (o : Option (Word → Option Seen)). IfSome o (λ devices. (s : Seen) × (devices name ≡ Some s) × NamesSeen dg true s)) was named in
          let here = world_of name there.0 stops.none there.1 in
          inl ((here.device, here.was, subst (λ (o : Option Contents). IfSome o (λ c. names_group dg (header_of (c 0)) ≡ true)) here.told there.2), end_is)
      by_cause (inr (inl (end_is, inl rose))) = inr (inl (
        end_is,
        inl
            (subst (λ n. Rose n (faults_at (scene see new) name)) (sym (is.counts.faults name))
            (subst (λ o. Rose (faults_in o (v.shelf.counted name)) (faults_in o (shelf.counted name))) (sym none_here) rose)),
      ))
      by_cause (inr (inl (end_is, inr rose))) = inr (inl (end_is, inr (subst (λ n. Rose n shelf.faults) (sym is.counts.shelf) rose)))
      by_cause (inr (inr (end_is, cut))) =
          let there = subst (λ (o : Option (Word → Option Seen)). IfSome o (λ devices. (t : Seen) × (devices name ≡ Some t) × (t.cut ≡ true))) now cut in
          inr (inr (end_is, ap (count_in (λ seen. seen.cut) false) (seen_now name none_here ∙ there.1) ∙ there.2))

      stops_free : IsFree m.world (hand_names v.house) name
      stops_free = free_told name told_here.0 stops.none told_here.1

      stops_cause : (NamesGroup dg m.world name × (end ≡ refused (Exists dg))) ⊎ FailsAt name m end (moment_at m.world (scene see new))
      stops_cause = by_cause stops.cause

  -- a fault is told where one was counted, whatever the shelf tells
  seek_blamed : (dg : Word) (names : List Word) (name : Word) (end : End) → SeekEnds dg names name v.shelf end shelf → IsBlamed end (scene see v) (scene see new)
  seek_blamed dg names name end stops = by_cause stops.cause
    where
      none_here : held_as (holders see v.house) name ≡ None
      none_here = not_held v.shelf.held (holders see v.house) name keeps.devices.each stops.none

      by_cause : SeekCause dg name v.shelf end shelf → IsBlamed end (scene see v) (scene see new)
      by_cause (inl (end_is, named)) = subst (λ e. IsBlamed e (scene see v) (scene see new)) (sym end_is) tt
      by_cause (inr (inl (end_is, inl rose))) = subst (λ e. IsBlamed e (scene see v) (scene see new)) (sym end_is) (inl (subst (λ o. Rose (faults_in o (v.shelf.counted name)) (faults_in o (shelf.counted name))) (sym none_here) rose))
      by_cause (inr (inl (end_is, inr rose))) = subst (λ e. IsBlamed e (scene see v) (scene see new)) (sym end_is) (inr rose)
      by_cause (inr (inr (end_is, cut))) = subst (λ e. IsBlamed e (scene see v) (scene see new)) (sym end_is) tt

-- The stage, by its outcome.
module _ {P : Type 0} {ghosts : Ghosts P} (see : P → Seen) (v : View P ghosts) (keeps : Keeps see v) (shelf : Shelved) (dg : Word) (disks : List DiskAt) (taken : hand_names v.house ≡ devices_of disks) where
  told_now : (names : List Word) → IsOnlySought names v.shelf shelf → (m : Moment) → IsMoment see v m → (b : Word → Option Seen) × (shelf.free ≡ Some b)
  told_now names only m is = some_of shelf.free (only_moment see v keeps shelf names only m is).told

  -- the search has ended so, at each moment
  ended : (names : List Word) (only : IsOnlySought names v.shelf shelf) (end : End)
      → ((m : Moment) → IsMoment see v m → ((name : Word) × IsFree m.world (hand_names v.house) name × ((NamesGroup dg m.world name × (end ≡ refused (Exists dg))) ⊎ FailsAt name m end (moment_at m.world (scene see (at shelf v.house))))) ⊎ ShelfEnds m end (moment_at m.world (scene see (at shelf v.house))))
      → IsBlamed end (scene see v) (scene see (at shelf v.house)) → StageGoes {T = Unit {0}} see (stage.Search dg) disks (Err (Ended end)) v (at shelf v.house)
  ended names only end stops blamed = record {
    keeps = keeps_ended see end (at shelf v.house) (only_keeps see v keeps shelf names only);
    goes = goes_ended see (IsDone (stage.Search dg) disks) (Stops (stage.Search dg) disks) (Wants (stage.Search dg)) end v (at shelf v.house)
        (subst (λ ns. Goes see (λ m n. OnlyReads (SearchesAtMost ns m.world) m n × (((name : Word) × IsFree m.world ns name × ((NamesGroup dg m.world name × (end ≡ refused (Exists dg))) ⊎ FailsAt name m end n)) ⊎ ShelfEnds m end n)) v (at shelf v.house)) taken
        (λ m is.
        let a = some_of v.shelf.free is.told in
        let b = told_now names only m is in (
          moment_at m.world (scene see (at shelf v.house)),
          only_moment see v keeps shelf names only m is,
          only_later see v keeps shelf names only m is,
          ((refl, searched_at_most see v keeps shelf m is a.0 b.0 a.1 b.1 names only), stops m is),
        )));
    gives = tt;
    still = λ e. tt;
    faults = only_faults see v keeps shelf names only;
    blamed = blamed;
  }

  -- memory is wanting
  pub refused_by : (names : List Word) → IsOnlySought names v.shelf shelf → StageGoes {T = Unit {0}} see (stage.Search dg) disks (Err OutOfMemory) v (at shelf v.house)
  refused_by names only = record {
    keeps = only_keeps see v keeps shelf names only;
    goes = λ m is. (moment_at m.world (scene see (at shelf v.house)), only_moment see v keeps shelf names only m is, only_later see v keeps shelf names only m is, refl);
    gives = tt;
    still = λ e. tt;
    faults = only_faults see v keeps shelf names only;
    blamed = tt;
  }

  module _ (names : List Word) (lists : IfSome v.shelf.free (λ devices. Lists names devices v.shelf.held)) where
    listed_at : (a : Word → Option Seen) → v.shelf.free ≡ Some a → Lists names a v.shelf.held
    listed_at a was = subst (λ (o : Option (Word → Option Seen)). IfSome o (λ devices. Lists names devices v.shelf.held)) was lists

    none_claim : Seeks dg names v.shelf shelf → Goes see (λ m n. ((name : Word) → IsFree m.world (hand_names v.house) name → NamesGroup dg m.world name → ⊥) × (n.world ≡ m.world) × SearchCalls (hand_names v.house) m.world m.counts n.counts) v (at shelf v.house)
    none_claim seeks m is =
        let only = seeks_only dg names v.shelf shelf seeks in
        let a = some_of v.shelf.free is.told in
        let b = told_now names only m is in (
          moment_at m.world (scene see (at shelf v.house)),
          only_moment see v keeps shelf names only m is,
          only_later see v keeps shelf names only m is,
          (none_claims see v keeps shelf m is a.0 b.0 a.1 b.1 dg names (listed_at a.0 a.1) seeks, refl, search_calls see v keeps shelf m is a.0 b.0 a.1 b.1 dg names (listed_at a.0 a.1) seeks),
        )

    one_ends : (end : End) (name : Word) → is_among name names ≡ true → SeekEnds dg names name v.shelf end shelf → (m : Moment) → IsMoment see v m
        → ((other : Word) × IsFree m.world (hand_names v.house) other × ((NamesGroup dg m.world other × (end ≡ refused (Exists dg))) ⊎ FailsAt other m end (moment_at m.world (scene see (at shelf v.house))))) ⊎ ShelfEnds m end (moment_at m.world (scene see (at shelf v.house)))
    one_ends end name among stops m is =
        let a = some_of v.shelf.free is.told in
        let b = told_now names stops.only m is in
        let used = (listed_at a.0 a.1 name).0 among in
        inl (name, stops_free see v keeps shelf m is a.0 b.0 a.1 b.1 dg names name used end stops, stops_cause see v keeps shelf m is a.0 b.0 a.1 b.1 dg names name used end stops)

    pub search_stage : (result : Result (Unit {0}) Stop) → SeeksThrough dg names v.shelf result shelf → StageGoes see (stage.Search dg) disks result v (at shelf v.house)
    search_stage (Ok u) seeks = record {
      keeps = only_keeps see v keeps shelf names (seeks_only dg names v.shelf shelf seeks);
      goes = subst (λ ns. Goes see (λ m n. ((name : Word) → IsFree m.world ns name → NamesGroup dg m.world name → ⊥) × (n.world ≡ m.world) × SearchCalls ns m.world m.counts n.counts) v (at shelf v.house)) taken (none_claim seeks);
      gives = tt;
      still = λ e. still_self see v.house;
      faults = only_faults see v keeps shelf names (seeks_only dg names v.shelf shelf seeks);
      blamed = tt;
    }
    search_stage (Err (Ended end)) (name, among, stops) = ended names stops.only end (one_ends end name among stops) (seek_blamed see v keeps shelf dg names name end stops)
    search_stage (Err OutOfMemory) only = refused_by names only

  -- the shelf could not tell its devices
  pub shelf_ends : IsOnlySought [] v.shelf shelf → Rose v.shelf.faults shelf.faults → StageGoes {T = Unit {0}} see (stage.Search dg) disks (Err (Ended ends.ShelfFailed)) v (at shelf v.house)
  shelf_ends only rose = ended [] only ends.ShelfFailed (λ m is. inr (refl, subst (λ n. Rose n shelf.faults) (sym is.counts.shelf) rose)) rose

-- the search behind a shelf's answer
pub seeks_after : (dg : Word) (names : List Word) (a b c : Shelved) → Seeks dg [] a b → (result : Result (Unit {0}) Stop) → SeeksThrough dg names b result c → SeeksThrough dg names a result c
seeks_after dg names a b c first (Ok u) seeks = seeks_then dg [] names (λ name none. cc) a b c first seeks
seeks_after dg names a b c first (Err (Ended end)) (name, among, stops) = (name, among, ends_then dg [] names (λ other none. cc) a b c first name end stops)
seeks_after dg names a b c first (Err OutOfMemory) only = only_then dg [] names (λ name none. cc) a b c first only
