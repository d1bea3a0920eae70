-- A house that holds nothing, and its shelf.
use Rattle.std.proofs.Common.{◌≡◌, ◌≢◌, ◌∙◌, ◌<◌, ℕ, Bool, false, List, [], ◌∷◌, ◌++◌, map, Option, Some, None, Result, Ok, Err, refl, sym, ap, subst}
use Rattle.std.specs.Prelude.{IfSome, IsSome, OnOk, OnErr}
use Rattle.std.specs.List.{list_any}
use Rattle.std.specs.List.Sorted.{IsStrictlySortedBy}
use Rattle.std.specs.Map.{keys_of}
use Rattle.std.specs.Str.{bytes_eq}
use Rattle.std.specs.Cmp.Lexicographic.{slice_cmp}
use Rattle.std.specs.Ordering.{nat_cmp}
use Rattle.vx_pages.specs.declared.local_piece.LocalPiece.{Ghosts}
use Rattle.vx_base.specs.Named.{Word}
use Rattle.vx_piece.specs.Seen.{Seen}
use Rattle.vx_shelf.specs.Shelf.{Held}
use Rattle.vx_copies.specs.Disks.{disk_seen}
use Rattle.vx_copies.specs.Lists.{AllOf}
use Rattle.vx_copies.specs.declared.disk.Disk.{Disk}
use Rattle.vx_fronts.specs.Fronts.{Rests, whole_disk}
use Rattle.vx_fronts.specs.Laws.{whole_disks}
use Rattle.vx_script.specs.declared.command.Command.{Command}
use Rattle.vx_answers.specs.declared.answer.Answer.{Answer}
use Rattle.vx_answers.specs.declared.answer.End.TheVariants as ends
use Rattle.vx_moments.specs.Moment.{Moment}
use Rattle.vx_plans.specs.Steps.{IsTranscript}
use Rattle.vx_house.specs.Closing.{NoneHeld}
use Rattle.vx_house.specs.Holders.{AreHeld, IsTakenFrom, holders, group_holders, group_rests, hand_holder, holder_in, volume_holder, volume_at}
use Rattle.vx_house.specs.Leaves.{IsLeft}
use Rattle.vx_house.specs.Scene.{Shelved, Scene, seen_at, AreCountsOf, FaultsGoOn, counts_of}
use Rattle.vx_house.specs.View.{View, at, scene, is_lent, IsDeviceOf, IsAtVolume, group_of, IsMoment, Keeps, KeepsButGroup, HasDisk, IsGroupKept}
use Rattle.vx_house.specs.declared.house.House.{House}
use Rattle.vx_house.specs.declared.house.Imported.{Imported}
use Rattle.vx_house.proofs.Ends.{moment_but_group}
use Rattle.vx_house.proofs.AfterLoss.{all_gone, power_goes}
use Rattle.vx_house.proofs.AfterLoss.{left as left_world}
use Rattle.vx_house.proofs.AllLaws.{all_back, all_front, found_in}
use Rattle.vx_house.proofs.Moments.{faults_moved, faults_trans}
use Rattle.vx_run.specs.Ends.{CarriesOut, IsShelfOf, IsShut, ShelfGoes, StopsShort, bare}
use Rattle.vx_run.specs.Run.{AreBlamed, HasRun, HasRunPartly, IsTranscriptThen}
use Rattle.vx_run.specs.Powers.{GetsPower, GoesOn}
use Rattle.vx_run.specs.Stops.{HoldsSome}
use Rattle.vx_run.proofs.Powers.{bare_back, bare_faults, bare_power}
use Rattle.vx_run.proofs.Runs.{all_on}
use Rattle.vx_moments.specs.Leaving.{lone, grouped}
use Rattle.vx_moments.proofs.Lone.{none_lone}
use Rattle.vx_house.specs.Runs.{AreRuns, IsAtRun}

no_order : {X : Type 0} (es : List (Word × X)) → es ≡ [] → IsStrictlySortedBy (slice_cmp nat_cmp) (keys_of es)
unfolding IsStrictlySortedBy
no_order {X = X} es e = subst (λ (xs : List (Word × X)). IsStrictlySortedBy (slice_cmp nat_cmp) (keys_of xs)) (sym e) tt

none_some : {X Y : Type 0} (o : Option X) (x : X) → o ≡ None → o ≡ Some x → Y
none_some o x e h = cc

-- a house that holds nothing
module _ {P : Type 0} {ghosts : Ghosts P} (see : P → Seen) (h : House P ghosts) (no_volumes : h.volumes.entries ≡ []) (no_group : h.group ≡ None) (no_hand : h.hand.items ≡ []) where
  no_holders : holders see h ≡ []
  no_holders =
      ap (λ es. map (volume_holder see) es ++ (group_holders see h.group ++ map (hand_holder see) h.hand.items)) no_volumes
      ∙ ap (λ g. group_holders see g ++ map (hand_holder see) h.hand.items) no_group
      ∙ ap (λ ts. map (hand_holder see) ts) no_hand

  no_volume : (name : Word) → volume_at h name ≡ None
  no_volume name = ap (λ es. found_in es name) no_volumes

  pub bare_scene : (s : Shelved) → scene see (at s h) ≡ bare s
  bare_scene s = ap (λ hs. let x : Scene = record { shelf = s; taken = hs } in x) no_holders

  none_lent : (name : Word) → is_lent h name ≡ false
  none_lent name = ap (λ es. list_any (λ e. bytes_eq e.1.device name) es) no_volumes

  pub keeps_nothing : (s : Shelved) → NoneHeld s.held → Keeps see (at s h)
  keeps_nothing s none = record {
    devices = subst (AreHeld s.held) (sym no_holders) (record { each = tt; apart = tt; only = λ name _. none name; numbers = λ a b x y is there same. none_some (s.held a) x (none a) is });
    house = record {
      ordered = no_order h.volumes.entries no_volumes;
      hand = subst (AllOf (λ t. 0 < (see t.piece).sectors)) (sym no_hand) tt;
      volumes = λ vol b is. none_some (volume_at h vol) b (no_volume vol) is;
      group = subst (λ o. IfSome o (IsGroupKept see)) (sym no_group) tt;
    };
  }

  pub none_held : (held : Word → Option Held) → AreHeld held (holders see h) → NoneHeld held
  none_held held are name = (subst (AreHeld held) no_holders are).only name refl

  pub moment_there : (s : Shelved) (m : Moment) → IsShelfOf s m → IsMoment see (at s h) m
  moment_there s m is = record {
    told = is.told;
    devices_are = λ name. subst (λ b. IsDeviceOf b (seen_at (scene see (at s h)) name) (m.world.devices name)) (sym (none_lent name)) (subst (λ x. IsDeviceOf false (seen_at x name) (m.world.devices name)) (sym (bare_scene s)) (is.devices_are name));
    volumes_are = λ vol. subst (λ o. IsAtVolume see o (lone (m.world.volumes vol))) (sym (no_volume vol)) (subst (λ o. IsAtVolume see None o) (sym (none_lone (m.world.volumes vol) (is.no_volumes vol))) tt);
    runs_are = subst (λ o. AreRuns see o m.world.group m.world.volumes) (sym no_group) (λ name. subst (IsAtRun {ghosts = ghosts} see [] m.world.group name None) (sym (ap grouped (is.no_volumes name))) tt);
    group_is = is.no_group ∙ ap (group_of see) (sym no_group);
    counts = subst (λ x. AreCountsOf x m.counts) (sym (bare_scene s)) is.counts;
  }

  pub shelf_there : (s : Shelved) (m : Moment) → IsMoment see (at s h) m → ((vol : Word) → m.world.volumes vol ≡ None) → IsShelfOf s m
  shelf_there s m is none = record {
    told = is.told;
    devices_are = λ name. subst (λ x. IsDeviceOf false (seen_at x name) (m.world.devices name)) (bare_scene s) (subst (λ b. IsDeviceOf b (seen_at (scene see (at s h)) name) (m.world.devices name)) (none_lent name) (is.devices_are name));
    no_volumes = none;
    no_group = is.group_is ∙ ap (group_of see) no_group;
    counts = subst (λ x. AreCountsOf x m.counts) (bare_scene s) is.counts;
  }

-- a house that began with nothing, and has given all back
module _ {P : Type 0} {ghosts : Ghosts P} (see : P → Seen) (commands : List Command) (h : House P ghosts) (no_volumes : h.volumes.entries ≡ []) (no_group : h.group ≡ None) (no_hand : h.hand.items ≡ []) (s u : Shelved) (mid : View P ghosts) (k : House P ghosts)
    (keeps : KeepsButGroup see mid) (shut : IsShut see mid u k) (taken taken' : Option (List ℕ)) where
  abbrev t : Shelved
  t = shut.between

  abbrev gone : IsLeft see (ends.Lost []) mid (at shut.between k)
  gone = shut.left

  abbrev without : Word → Bool
  without = shut.gone

  abbrev back : GetsPower shut.gone shut.between u
  back = shut.back

  old_scene : scene see (at s h) ≡ bare s
  old_scene = bare_scene see h no_volumes no_group no_hand s

  new_scene : scene see (at t k) ≡ bare t
  new_scene = bare_scene see k gone.stays.volumes gone.stays.group gone.later.hand t

  last_faults : FaultsGoOn (scene see mid) (scene see (at t k))
  last_faults = faults_moved (scene see mid) (scene see (at t k)) gone.later.moved

  shelf_goes : (R : Moment → Moment → Type 0) → GoesOn see R (at s h) mid → ShelfGoes R s u
  shelf_goes R goes m is =
      let n = goes m (moment_there see h no_volumes no_group no_hand s m is) in
      let but = moment_but_group see mid n.0 n.1 in
      let there = shelf_there see k gone.stays.volumes gone.stays.group gone.later.hand t _ (all_gone see mid n.0 but keeps (at t k) gone) (λ vol. refl) in (
        n.0,
        left_world see mid n.0 but keeps,
        n.3,
        n.2,
        (gone.stands n.0 keeps but, power_goes see mid n.0 but keeps),
        counts_of (bare u),
        bare_power without t u back (record { world = left_world see mid n.0 but keeps; counts = n.0.counts }) there,
        bare_back without t u back (record { world = left_world see mid n.0 but keeps; counts = n.0.counts }) there,
      )

  to_bare : FaultsGoOn (scene see mid) (bare u)
  to_bare = faults_trans (scene see mid) (bare t) (bare u) (subst (FaultsGoOn (scene see mid)) new_scene last_faults) (bare_faults without t u back)

  all_faults : FaultsGoOn (scene see (at s h)) (scene see mid) → FaultsGoOn (bare s) (bare u)
  all_faults on = subst (λ x. FaultsGoOn x (bare u)) old_scene (faults_trans (scene see (at s h)) (scene see mid) (bare u) on to_bare)

  all_blamed : (answers : List Answer) → AreBlamed answers (scene see (at s h)) (scene see mid) → AreBlamed answers (bare s) (bare u)
  all_blamed answers blamed = subst (λ x. AreBlamed answers x (bare u)) old_scene (all_on answers (scene see (at s h)) (scene see mid) (bare u) blamed to_bare)

  pub carried_out : (fine : Bool) → HasRun see 0 commands (at s h) taken mid taken' fine → CarriesOut commands s taken u taken' fine
  carried_out fine run = record {
    answers = run.answers;
    goes = shelf_goes (λ m last. IsTranscript 0 m commands run.answers last) run.goes;
    written = run.written;
    fine_is = run.fine_is;
    faults = all_faults run.faults;
    blamed = all_blamed run.answers run.blamed;
  }

  pub stopped_short : HasRunPartly see 0 commands (at s h) taken mid taken' → StopsShort commands s taken u taken'
  stopped_short run = record {
    begun = run.begun;
    left = run.left;
    split = run.split;
    answers = run.answers;
    goes = shelf_goes (λ m last. IsTranscriptThen 0 m run.begun run.answers run.left last) run.goes;
    written = run.written;
    faults = all_faults run.faults;
    blamed = all_blamed run.answers run.blamed;
  }

-- ---- a group whose devices were not all joined

-- where none is held, none was held up
pub none_holds : {X : Type 0} (held : Word → Option Held) → HoldsSome held → NoneHeld held → X
none_holds held some none = some_none (held some.0) some.1 (none some.0)
  where
    some_none : {X : Type 0} (o : Option Held) → IsSome o → o ≡ None → X
    some_none o is e = cc

module _ {P : Type 0} {ghosts : Ghosts P} (see : P → Seen) (s : Shelved) (h : House P ghosts) (are : AreHeld s.held (holders see h)) where
  first_held : (ds : List (Disk P)) (rests : Rests) → ds ≢ [] → AllOf (IsTakenFrom s.held) (map holder_in (whole_disks rests (map (disk_seen see) ds))) → HoldsSome s.held
  first_held [] rests some all = absurd (some refl)
  first_held (d ∷ ds) rests some all = let out = all.0.1 in ((holder_in (whole_disk rests (disk_seen see d))).name, cc)

  by_group : (o : Option (Imported P ghosts)) → IsSome o → IfSome o HasDisk → AllOf (IsTakenFrom s.held) (group_holders see o) → HoldsSome s.held
  by_group None some disks all = cc
  by_group (Some g) some disks all = first_held g.base.disks.items (group_rests see g) disks all

  pub holds_some : IsSome h.group → IfSome h.group HasDisk → HoldsSome s.held
  holds_some some disks = by_group h.group some disks (all_front (IsTakenFrom s.held) (group_holders see h.group) (map (hand_holder see) h.hand.items)
      (all_back (IsTakenFrom s.held) (map (volume_holder see) h.volumes.entries) (group_holders see h.group ++ map (hand_holder see) h.hand.items) are.each))

-- all went back, where none is held
pub left_or_held : {P E : Type 0} {ghosts : Ghosts P} (see : P → Seen) (result : Result (Unit {0}) E) (held : Word → Option Held) (mid : View P ghosts) (shelf : Shelved) (house : House P ghosts) →
    OnOk result (IsShut see mid shelf house) → OnErr result (HoldsSome held) → NoneHeld held → IsShut see mid shelf house
left_or_held see (Ok u) held mid shelf house shut stuck none = shut
left_or_held see (Err e) held mid shelf house shut stuck none = none_holds held stuck none
