-- A test fails in a moment as it does by what the house itself tells.
use Rattle.std.proofs.Common.{◌≡◌, ◌∙◌, Bool, true, false, cond, List, [], ◌∷◌, map, Option, Some, None, refl, sym, ap, subst, inl, inr}
use Rattle.std.specs.Prelude.{is_some, IfSome}
use Rattle.std.specs.BTreeMap.{BTreeMap, get}
use Rattle.std.specs.Cmp.Lexicographic.{slice_cmp}
use Rattle.std.specs.Ordering.{nat_cmp}
use Rattle.vx_pages.specs.declared.local_piece.LocalPiece.{Ghosts}
use Rattle.vx_base.specs.Blocks.{Contents}
use Rattle.vx_header.specs.Named.{header_of}
use Rattle.std.specs.Option.{option_map}
use Rattle.std.specs.Str.{bytes_eq}
use Rattle.vx_base.specs.Named.{Word}
use Rattle.vx_piece.specs.Seen.{Seen}
use Rattle.vx_copies.specs.Lists.{AllOf, AnyOf, Each}
use Rattle.vx_script_words.specs.declared.value.DiskAt.{DiskAt}
use Rattle.vx_started.specs.declared.started.Started.{Started}
use Rattle.vx_moments.specs.Moment.{Moment}
use Rattle.vx_moments.specs.World.{Device}
use Rattle.vx_stages.specs.Records.{sectors_at, sectors_in}
use Rattle.vx_stages.specs.Tests.{fails}
use Rattle.vx_stages.specs.declared.stage.Stage.{Stage}
use Rattle.vx_stages.specs.declared.stage.Stage.TheVariants as stage
use Rattle.vx_stages.specs.declared.test.Test.{Test}
use Rattle.vx_stages.specs.declared.test.Test.TheVariants as tests
use Rattle.vx_house.specs.Goes.{Gives, IsReady, IsStill, Still, IsBlankSeen}
use Rattle.vx_house.specs.Holders.{Holder, hand_holder, hand_names, held_as, holders, AreHeld, volume_at, volume_holder, group_holders}
use Rattle.vx_house.specs.Plain.{plain, sized_device, told_volume}
use Rattle.vx_house.specs.Runs.{run_in}
use Rattle.vx_house.specs.Scene.{seen_in}
use Rattle.vx_house.proofs.Runs.{started_same}
use Rattle.vx_house.specs.View.{View, is_lent, IsDeviceOf, IsMoment, group_of}
use Rattle.vx_house.specs.declared.house.House.{House}
use Rattle.vx_house.specs.declared.house.Taken.{Taken}
use Rattle.vx_house.proofs.AllLaws.{held_each, all_back}
use Rattle.vx_house.proofs.Returns.{hand_apart}
use Rattle.vx_run.proofs.Same.{named_in, same_fails}

-- a device in hand is seen so in both lists
both_ways : {P : Type 0} (see : P → Seen) (ts : List (Taken P)) (hs : List Holder) (name : Word) → AnyOf (λ n. n ≡ name) (map (λ t. t.device) ts) → AllOf (λ x. held_as hs x.name ≡ Some x.seen) (map (hand_holder see) ts) → AllOf (λ x. held_as (map (hand_holder see) ts) x.name ≡ Some x.seen) (map (hand_holder see) ts) → (seen : Seen) × (held_as hs name ≡ Some seen) × (held_as (map (hand_holder see) ts) name ≡ Some seen)
both_ways {P = P} see ts hs name any wide own = by ts any wide own
  where
    by : (us : List (Taken P)) → AnyOf (λ n. n ≡ name) (map (λ t. t.device) us) → AllOf (λ x. held_as hs x.name ≡ Some x.seen) (map (hand_holder see) us) → AllOf (λ x. held_as (map (hand_holder see) ts) x.name ≡ Some x.seen) (map (hand_holder see) us) → (seen : Seen) × (held_as hs name ≡ Some seen) × (held_as (map (hand_holder see) ts) name ≡ Some seen)
    by [] any one two = absurd any
    by (u ∷ us) (inl is) one two = (see u.piece, ap (held_as hs) (sym is) ∙ one.0, ap (held_as (map (hand_holder see) ts)) (sym is) ∙ two.0)
    by (u ∷ us) (inr any) one two = by us any one.1 two.1

size_of : (lent : Bool) (seen : Seen) (o : Option Device) → IsDeviceOf lent (Some seen) o → sectors_in o ≡ seen.sectors
size_of lent seen None of = absurd of
size_of lent seen (Some d) of = of.0

module _ {P : Type 0} {ghosts : Ghosts P} (see : P → Seen) (v : View P ghosts) (held : AreHeld v.shelf.held (holders see v.house)) (m : Moment) (is : IsMoment see v m) where
  -- the size of a device in hand
  hand_size : (name : Word) → AnyOf (λ n. n ≡ name) (hand_names v.house) → sectors_at m.world name ≡ sectors_at (plain see v.house) name
  hand_size name any =
      let vs = map (volume_holder see) v.house.volumes.entries in
      let gs = group_holders see v.house.group in
      let wide = all_back (λ x. held_as (holders see v.house) x.name ≡ Some x.seen) gs _ (all_back (λ x. held_as (holders see v.house) x.name ≡ Some x.seen) vs _ (held_each (holders see v.house) held.apart)) in
      let own = held_each (map (hand_holder see) v.house.hand.items) (hand_apart see v.house held.apart) in
      let x = both_ways see v.house.hand.items (holders see v.house) name any wide own in
      size_of (is_lent v.house name) x.0 (m.world.devices name) (subst (λ o. IsDeviceOf (is_lent v.house name) o (m.world.devices name)) (ap (λ o. seen_in o v.shelf.free name) x.1) (is.devices_are name))
      ∙ sym (ap (λ o. sectors_in (option_map sized_device o)) x.2)

  -- the devices that the test asks of are in hand
  abbrev AreNamed : Test → List DiskAt → Type 0
  AreNamed test disks = (name : Word) → AnyOf (λ n. n ≡ name) (named_in test disks) → AnyOf (λ n. n ≡ name) (hand_names v.house)

  named : (test : Test) (disks : List DiskAt) → IsReady see (stage.Gate test) disks v.house → AreNamed test disks
  named (tests.Sized device) disks ready = λ name any. subst (AnyOf (λ n. n ≡ name)) (sym ready.wants.0) any
  named (tests.GroupLimits dg) disks ready = λ name any. subst (AnyOf (λ n. n ≡ name)) (sym ready.wants.0) any
  named tests.JoinLimits disks ready = λ name any. subst (AnyOf (λ n. n ≡ name)) (sym ready.wants.0) any
  named (tests.GroupRecords dg) disks ready = λ name any. subst (AnyOf (λ n. n ≡ name)) (sym ready.wants.0) any
  named tests.NoGroup disks ready = λ name any. absurd any
  named (tests.GroupIs dg) disks ready = λ name any. absurd any
  named (tests.HasVolume vol) disks ready = λ name any. absurd any
  named tests.NoneStarted disks ready = λ name any. absurd any
  named (tests.Stopped vol) disks ready = λ name any. absurd any
  named (tests.Unrelated vol) disks ready = λ name any. absurd any
  named (tests.HasPlex vol plex) disks ready = λ name any. absurd any

  pub fails_there : (test : Test) (disks : List DiskAt) → IsReady see (stage.Gate test) disks v.house → fails test disks m.world ≡ fails test disks (plain see v.house)
  fails_there test disks ready = same_fails (plain see v.house) m.world is.group_is (started_same see v.house m.world is.volumes_are is.runs_are) test disks (λ name any. hand_size name (named test disks ready name any))

-- devices that were read at most
still_names : {P : Type 0} (see : P → Seen) (xs ys : List (Taken P)) → Each (IsStill see) xs ys → map (λ t. t.device) ys ≡ map (λ t. t.device) xs
still_names see [] [] still = refl
still_names see [] (y ∷ ys) still = absurd still
still_names see (x ∷ xs) [] still = absurd still
still_names see (x ∷ xs) (y ∷ ys) still = ap (λ n. n ∷ map (λ t. t.device) ys) still.0.device ∙ ap (λ ns. x.device ∷ ns) (still_names see xs ys still.1)

still_blank : {P : Type 0} (see : P → Seen) (xs ys : List (Taken P)) → Each (IsStill see) xs ys → AllOf (λ t. IsBlankSeen (see t.piece)) xs → AllOf (λ t. IsBlankSeen (see t.piece)) ys
still_blank see [] [] still all = tt
still_blank see [] (y ∷ ys) still all = absurd still
still_blank see (x ∷ xs) [] still all = absurd still
still_blank see (x ∷ xs) (y ∷ ys) still all = (subst (λ (o : Option Contents). IfSome o (λ c. header_of (c 0) ≡ None)) (sym still.0.told) all.0, still_blank see xs ys still.1 all.1)

still_size : {P : Type 0} (see : P → Seen) (xs ys : List (Taken P)) (name : Word) → Each (IsStill see) xs ys → sectors_in (option_map sized_device (held_as (map (hand_holder see) ys) name)) ≡ sectors_in (option_map sized_device (held_as (map (hand_holder see) xs) name))
still_size see [] [] name still = refl
still_size see [] (y ∷ ys) name still = absurd still
still_size see (x ∷ xs) [] name still = absurd still
still_size see (x ∷ xs) (y ∷ ys) name still =
    ap (λ n. sectors_in (option_map sized_device (cond (bytes_eq n name) (Some (see y.piece)) (held_as (map (hand_holder see) ys) name)))) still.0.device
    ∙ by (bytes_eq x.device name) (still_size see xs ys name still.1)
  where
    by : (b : Bool) → sectors_in (option_map sized_device (held_as (map (hand_holder see) ys) name)) ≡ sectors_in (option_map sized_device (held_as (map (hand_holder see) xs) name))
        → sectors_in (option_map sized_device (cond b (Some (see y.piece)) (held_as (map (hand_holder see) ys) name))) ≡ sectors_in (option_map sized_device (cond b (Some (see x.piece)) (held_as (map (hand_holder see) xs) name)))
    by true rest = still.0.sectors
    by false rest = rest

module _ {P : Type 0} {ghosts : Ghosts P} (see : P → Seen) (h k : House P ghosts) (still : Still see h k) where
  still_fails : (test : Test) (disks : List DiskAt) → fails test disks (plain see k) ≡ fails test disks (plain see h)
  still_fails test disks = same_fails (plain see h) (plain see k) (ap (group_of see) still.group) (λ vol.
      ap (λ (w : BTreeMap Word (Started P)). is_some (told_volume (get (slice_cmp nat_cmp) w vol) (run_in k.group vol))) still.volumes
      ∙ ap (λ o. is_some (told_volume (volume_at h vol) (run_in o vol))) still.group) test disks (λ name any. still_size see h.hand.items k.hand.items name still.hand)

  -- what was given stays
  pub gives_still : (s : Stage) (disks : List DiskAt) → Gives see s disks h → Gives see s disks k
  gives_still (stage.Gate test) disks gives = still_fails test disks ∙ gives
  gives_still (stage.Take name) disks gives = still_names see h.hand.items k.hand.items still.hand ∙ gives
  gives_still stage.TakeDisks disks gives = still_names see h.hand.items k.hand.items still.hand ∙ gives
  gives_still (stage.LookBlank name) disks gives = still_blank see h.hand.items k.hand.items still.hand gives
  gives_still stage.LookDisks disks gives = still_blank see h.hand.items k.hand.items still.hand gives
  gives_still (stage.LookHeaded name) disks gives = tt
  gives_still (stage.Search dg) disks gives = tt
  gives_still (stage.MakeImage name sectors) disks gives = tt
  gives_still (stage.Wipe name) disks gives = tt
  gives_still (stage.StartBare vol name) disks gives = tt
  gives_still (stage.Change change) disks gives = tt
  gives_still (stage.Make from) disks gives = tt
  gives_still stage.Join disks gives = tt
  gives_still (stage.Create dg) disks gives = tt
  gives_still (stage.Import dg) disks gives = tt
  gives_still stage.LetGo disks gives = tt
  gives_still (stage.Start vol) disks gives = tt
  gives_still (stage.Mirror mirror) disks gives = tt
  gives_still (stage.Prepare logs) disks gives = tt
  gives_still (stage.Unprepare vol) disks gives = tt
  gives_still (stage.Detach plex) disks gives = tt
  gives_still (stage.Attach vol plex) disks gives = tt
  gives_still (stage.Dissociate plex remove) disks gives = tt
  gives_still (stage.Stop vol) disks gives = tt
