-- A command that is over, and what is left of it.
use Rattle.std.proofs.Common.{◌≡◌, ◌∙◌, ◌≤◌, ◌<◌, ◌⊎◌, ℕ, List, [], Option, Some, None, refl, sym, ap, subst, arith, inl, inr}
use Rattle.std.specs.Prelude.{Result, Ok, Err, IfSome, IfOk, IfErr, OnOk, MatchOption}
use Rattle.std.specs.List.Sorted.{IsStrictlySortedBy}
use Rattle.std.specs.Map.{keys_of}
use Rattle.vx_pages.specs.declared.local_piece.LocalPiece.{Ghosts}
use Rattle.std.proofs.lemmas.List.{append-nil}
use Rattle.std.specs.BTreeMap.{BTreeMap, IsOrdered}
use Rattle.std.specs.Cmp.Lexicographic.{slice_cmp}
use Rattle.std.specs.Ordering.{nat_cmp}
use Rattle.vx_base.specs.Named.{Word}
use Rattle.vx_base.specs.Counts.{Rose}
use Rattle.vx_piece.specs.Seen.{Seen}
use Rattle.vx_copies.specs.Lists.{AllOf}
use Rattle.vx_script_words.specs.declared.value.DiskAt.{DiskAt}
use Rattle.vx_started.specs.declared.started.Started.{Started}
use Rattle.vx_answers.specs.declared.answer.Answer.{Answer}
use Rattle.vx_answers.specs.declared.answer.Answer.TheVariants.{One}
use Rattle.vx_answers.specs.declared.answer.End.{End}
use Rattle.vx_answers.specs.declared.answer.End.TheVariants as ends
use Rattle.vx_answers.specs.declared.answer.View.{View as Shown}
use Rattle.vx_moments.specs.Moment.{Moment, AreLater}
use Rattle.vx_moments.specs.World.{World}
use Rattle.vx_moments.specs.Leaving.{group_gone}
use Rattle.vx_plans.specs.Steps.{Runs, RunsShort, Leaves, Shows, done}
use Rattle.vx_stages.specs.declared.stage.Stage.{Stage}
use Rattle.vx_plans.specs.declared.stages.Finish.{Finish}
use Rattle.vx_plans.specs.declared.stages.Finish.TheVariants.{Hierarchy, Nothing, Records}
use Rattle.vx_house.specs.Goes.{KeepsBy}
use Rattle.vx_house.specs.Holders.{volume_at}
use Rattle.vx_house.specs.Leaves.{StandsAt, IsLeft, IsLater, LeavesBoth, LeavesVolumes, LeavesNone, StaysBy}
use Rattle.vx_house.specs.Plain.{plain}
use Rattle.vx_house.specs.Scene.{Scene, faults_at, FaultsGoOn, IsBlamed}
use Rattle.vx_house.specs.View.{View, scene, Keeps, KeepsButGroup, IsGroupKept, IsGroupWhole, IsMoment, group_of}
use Rattle.vx_house.specs.declared.house.House.{House}
use Rattle.vx_house.specs.declared.house.Imported.{Imported}
use Rattle.vx_house.specs.declared.house.Taken.{Taken}
use Rattle.vx_house.specs.declared.stop.Stop.{Stop}
use Rattle.vx_house.specs.declared.stop.Stop.TheVariants as stops
use Rattle.vx_house.proofs.AfterLoss.{power_goes, all_gone, without_group}
use Rattle.vx_house.proofs.AfterLoss.{left as left_world}
use Rattle.vx_house.proofs.AllLaws.{found_in}
use Rattle.vx_house.proofs.Moments.{faults_trans, faults_moved, moment_moved}
use Rattle.vx_house.proofs.Ends.{keeps_but_group, moment_but_group}
use Rattle.vx_run.specs.Fed.{IsThereAfter, KeepToShow, KeepWorld, ShowsAfter, recent}
use Rattle.vx_run.specs.Runs.{StagesGo, HasRun, IsMomentBy, HasEnded, HasRested}
use Rattle.vx_run.specs.Serving.{CommandEnds, CommandGoes, IsHeldUp, IsRefused}
use Rattle.vx_run.specs.declared.unserved.Unserved.{Unserved}
use Rattle.vx_run.specs.declared.unserved.Unserved.TheVariants as unserved
use Rattle.vx_run.specs.Shows.{CanShow, ShowsIn, ShowsText}
use Rattle.vx_stages.specs.Tests.{fails, unless, is_here}
use Rattle.vx_stages.specs.declared.test.Test.TheVariants as tests
use Rattle.vx_stages.specs.declared.stage.Stage.TheVariants as stage
use Rattle.vx_answers.specs.declared.refusal.Refusal.TheVariants as refusal
use Rattle.vx_run.proofs.ShownWorld.{group_alive, shown_records, shown_volumes}
use Rattle.vx_run.proofs.StageChains.{given_one}

rose_more : (a b c : ℕ) → Rose a b → b ≤ c → Rose a c
rose_more a b c rose le = omega (arith, rose, le)

-- what is laid to failures is laid to them still, once more have come
pub blamed_on : (end : End) (a b c : Scene) → IsBlamed end a b → FaultsGoOn b c → IsBlamed end a c
blamed_on (ends.Done copied parts blocks) a b c blamed on = tt
blamed_on (ends.Refused r) a b c blamed on = tt
blamed_on (ends.Fault told device parts) a b c (inl rose) on = inl (rose_more (faults_at a device) (faults_at b device) (faults_at c device) rose (on.devices device))
blamed_on (ends.Fault told device parts) a b c (inr rose) on = inr (rose_more a.shelf.faults b.shelf.faults c.shelf.faults rose on.shelf)
blamed_on ends.ShelfFailed a b c blamed on = rose_more a.shelf.faults b.shelf.faults c.shelf.faults blamed on.shelf
blamed_on ends.GroupLost a b c blamed on = tt
blamed_on (ends.Lost parts) a b c blamed on = tt

no_order : {X : Type 0} (es : List (Word × X)) → es ≡ [] → IsStrictlySortedBy (slice_cmp nat_cmp) (keys_of es)
unfolding IsStrictlySortedBy
no_order {X = X} es e = subst (λ (xs : List (Word × X)). IsStrictlySortedBy (slice_cmp nat_cmp) (keys_of xs)) (sym e) tt

-- what a house keeps once a command is over
module _ {P : Type 0} {ghosts : Ghosts P} (see : P → Seen) (mid new : View P ghosts) (later : IsLater see mid new) where
  empty_hand : (Q : Taken P → Type 0) → AllOf Q new.house.hand.items
  empty_hand Q = subst (AllOf Q) (sym later.hand) tt

  both_kept : LeavesBoth mid new → Keeps see mid → Keeps see new
  both_kept stays keeps = record {
    devices = later.devices;
    house = record {
      ordered = subst (IsOrdered (slice_cmp nat_cmp)) (sym stays.volumes) keeps.house.ordered;
      hand = empty_hand (λ t. 0 < (see t.piece).sectors);
      volumes = λ vol b is. keeps.house.volumes vol b (ap (λ (v : BTreeMap Word (Started P)). found_in v.entries vol) (sym stays.volumes) ∙ is);
      group = subst (λ o. IfSome o (IsGroupKept see)) (sym stays.group) keeps.house.group;
    };
  }

  -- the same, where some devices of the group may be joined
  but_kept : LeavesBoth mid new → KeepsButGroup see mid → KeepsButGroup see new
  but_kept stays keeps = record {
    devices = later.devices;
    ordered = subst (IsOrdered (slice_cmp nat_cmp)) (sym stays.volumes) keeps.ordered;
    hand = empty_hand (λ t. 0 < (see t.piece).sectors);
    volumes = λ vol b is. keeps.volumes vol b (ap (λ (v : BTreeMap Word (Started P)). found_in v.entries vol) (sym stays.volumes) ∙ is);
    whole = subst (λ o. IfSome o (IsGroupWhole see)) (sym stays.group) keeps.whole;
  }

  volumes_kept : LeavesVolumes mid new → KeepsButGroup see mid → Keeps see new
  volumes_kept stays keeps = record {
    devices = later.devices;
    house = record {
      ordered = subst (IsOrdered (slice_cmp nat_cmp)) (sym stays.volumes) keeps.ordered;
      hand = empty_hand (λ t. 0 < (see t.piece).sectors);
      volumes = λ vol b is. keeps.volumes vol b (ap (λ (v : BTreeMap Word (Started P)). found_in v.entries vol) (sym stays.volumes) ∙ is);
      group = subst (λ o. IfSome o (IsGroupKept see)) (sym stays.group) tt;
    };
  }

  none_kept : LeavesNone mid new → Keeps see new
  none_kept stays = record {
    devices = later.devices;
    house = record {
      ordered = no_order new.house.volumes.entries stays.volumes;
      hand = empty_hand (λ t. 0 < (see t.piece).sectors);
      volumes = λ vol b is. no_volume vol b is;
      group = subst (λ o. IfSome o (IsGroupKept see)) (sym stays.group) tt;
    };
  }
    where
      no_volume : {R : Type 0} (vol : Word) (b : Started P) → volume_at new.house vol ≡ Some b → R
      no_volume vol b is = let gone : volume_at new.house vol ≡ None = ap (λ es. found_in es vol) stays.volumes in cc

  left_kept : (end : End) → StaysBy end mid new → KeepsBy {T = Unit {0}} see (Err (stops.Ended end)) mid → Keeps see new
  left_kept (ends.Done copied parts blocks) stays keeps = both_kept stays keeps
  left_kept (ends.Refused r) stays keeps = both_kept stays keeps
  left_kept (ends.Fault told device parts) stays keeps = both_kept stays keeps
  left_kept ends.ShelfFailed stays keeps = both_kept stays keeps
  left_kept ends.GroupLost stays keeps = volumes_kept stays keeps
  left_kept (ends.Lost parts) stays keeps = none_kept stays

  -- the moment that is left
  left_moment : StandsAt see mid → (end : End) → StaysBy end mid new → KeepsBy {T = Unit {0}} see (Err (stops.Ended end)) mid → (n : Moment) → IsMomentBy end see mid n
      → (w : World) × IsMoment see new (record { world = w; counts = n.counts }) × Leaves end n.world w
  left_moment stands (ends.Done copied parts blocks) stays keeps n is = (n.world, moment_moved see (scene see mid) (scene see new) mid.house new.house n later.moved stays.volumes stays.group is, refl)
  left_moment stands (ends.Refused r) stays keeps n is = (n.world, moment_moved see (scene see mid) (scene see new) mid.house new.house n later.moved stays.volumes stays.group is, refl)
  left_moment stands (ends.Fault told device parts) stays keeps n is = (n.world, moment_moved see (scene see mid) (scene see new) mid.house new.house n later.moved stays.volumes stays.group is, refl)
  left_moment stands ends.ShelfFailed stays keeps n is = (n.world, moment_moved see (scene see mid) (scene see new) mid.house new.house n later.moved stays.volumes stays.group is, refl)
  left_moment stands ends.GroupLost stays keeps n is = (group_gone n.world, without_group see mid n is keeps new (record { later = later; stays = stays; stands = stands }), (stands n keeps is, refl))
  left_moment stands (ends.Lost parts) stays keeps n is = (left_world see mid n is keeps, all_gone see mid n is keeps new (record { later = later; stays = stays; stands = stands }), (stands n keeps is, power_goes see mid n is keeps))

-- a moment of the house, however the command ended
pub moment_end : {P : Type 0} {ghosts : Ghosts P} (see : P → Seen) (end : End) (v : View P ghosts) (m : Moment) → IsMoment see v m → IsMomentBy end see v m
moment_end see (ends.Done copied parts blocks) v m is = is
moment_end see (ends.Refused r) v m is = is
moment_end see (ends.Fault told device parts) v m is = is
moment_end see ends.ShelfFailed v m is = is
moment_end see ends.GroupLost v m is = moment_but_group see v m is
moment_end see (ends.Lost parts) v m is = moment_but_group see v m is

-- what want of memory leaves of these stages
abbrev LeftOff : List DiskAt → List Stage → Moment → Moment → Type 0
LeftOff disks stages m n = (n.world ≡ m.world) ⊎ RunsShort disks stages m n

-- what a command that ended has done by then, and told
pub record HasDone {P : Type 0} {ghosts : Ghosts P} (see : P → Seen) (Does : Moment → List Shown → End → Moment → Type 0) (views : List Shown) (end : End) (mid : View P ghosts) (m n : Moment) : Type 0 where
  pub is : IsMomentBy end see mid n
  pub later : AreLater m.counts n.counts
  pub does : Does m views end n

pub over_goes : {P : Type 0} {ghosts : Ghosts P} (see : P → Seen) (Does : Moment → List Shown → End → Moment → Type 0) (views : List Shown) (end : End) (old mid new : View P ghosts) → KeepsBy {T = Unit {0}} see (Err (stops.Ended end)) mid
    → ((m : Moment) → IsMoment see old m → (n : Moment) × HasDone see Does views end mid m n) → FaultsGoOn (scene see old) (scene see mid) → IsBlamed end (scene see old) (scene see mid) → IsLeft see end mid new → CommandGoes see Does (One views end) old new
over_goes see Does views end old mid new keeps goes faults blamed gone = record {
  keeps = left_kept see mid new gone.later end gone.stays keeps;
  empty = gone.later.hand;
  goes = λ m is.
      let n = goes m is in
      let w = left_moment see mid new gone.later gone.stands end gone.stays keeps n.0 n.1.is in
      (record { world = w.0; counts = n.0.counts }, w.1, n.1.later, record { views = views; end = end; told = refl; over = n.0; does = n.1.does; leaves = w.2; counts = refl });
  faults = faults_trans (scene see old) (scene see mid) (scene see new) faults (faults_moved (scene see mid) (scene see new) gone.later.moved);
  blamed = blamed_on end (scene see old) (scene see mid) (scene see new) blamed (faults_moved (scene see mid) (scene see new) gone.later.moved);
}

module _ {P : Type 0} {ghosts : Ghosts P} (see : P → Seen) (disks : List DiskAt) (stages : List Stage) (finish : Finish) where
  -- a stage has ended the command
  pub ended_goes : (end : End) (old mid new : View P ghosts) → HasEnded see disks stages end old mid → IsLeft see end mid new → CommandGoes see (λ m views end n. Runs disks stages finish m views end n) (One [] end) old new
  ended_goes end old mid new run gone =
      over_goes see (λ m views end n. Runs disks stages finish m views end n) [] end old mid new run.keeps
      (λ m is. let n = run.goes m is in (n.0, record { is = n.1.is; later = n.1.later; does = n.1.runs finish }))
      run.faults run.blamed gone

  shown_there : (mid : View P ghosts) (n : Moment) (views : List Shown) → IsMoment see mid n → ShowsIn see finish mid.house views → Shows finish n.world views
  shown_there mid n views is shows = by finish shows
    where
      by : (f : Finish) → ShowsIn see f mid.house views → Shows f n.world views
      by Nothing shows = shows
      by (Records vol) shows = shown_records see mid.house.group n.world.group vol views is.group_is shows
      by (Hierarchy vol) shows = shown_volumes see mid.house.group n.world vol views is.group_is is.runs_are shows

  -- all stages are done, and this is shown
  pub done_goes : (views : List Shown) (old mid new : View P ghosts) → HasRun see disks stages old mid → ShowsIn see finish mid.house views → IsLeft see done mid new → CommandGoes see (λ m views end n. Runs disks stages finish m views end n) (One views done) old new
  done_goes views old mid new run shows gone = record {
    keeps = both_kept see mid new gone.later gone.stays run.keeps;
    empty = gone.later.hand;
    goes = λ m is.
        let n = run.goes m is in (
          n.0,
          moment_moved see (scene see mid) (scene see new) mid.house new.house n.0 gone.later.moved gone.stays.volumes gone.stays.group n.1.is,
          n.1.later,
          record {
            views = views;
            end = done;
            told = refl;
            over = n.0;
            does = subst (λ ss. Runs disks ss finish m views done n.0) (append-nil stages) (n.1.runs [] finish views done n.0 (shown_there mid n.0 views n.1.is shows, refl, refl));
            leaves = refl;
            counts = refl;
          },
        );
    faults = faults_trans (scene see old) (scene see mid) (scene see new) run.faults (faults_moved (scene see mid) (scene see new) gone.later.moved);
    blamed = tt;
  }

  -- memory was wanting
  pub rested_goes : (Left : Moment → Moment → Type 0) (old mid new : View P ghosts) → HasRested see Left old mid → IsLeft see done mid new → IsRefused see Left old new
  rested_goes Left old mid new run gone = record {
    keeps = but_kept see mid new gone.later gone.stays run.keeps;
    empty = gone.later.hand;
    goes = λ m is.
        let n = run.goes m is in
        (n.0, moment_moved see (scene see mid) (scene see new) mid.house new.house n.0 gone.later.moved gone.stays.volumes gone.stays.group n.1, n.2, n.3);
    faults = faults_trans (scene see old) (scene see mid) (scene see new) run.faults (faults_moved (scene see mid) (scene see new) gone.later.moved);
  }

  -- memory was wanting for what was to be shown
  pub unshown_goes : (old mid new : View P ghosts) → HasRun see disks stages old mid → KeepWorld stages → IsLeft see done mid new → IsRefused see (LeftOff disks stages) old new
  unshown_goes old mid new run kept gone = rested_goes (LeftOff disks stages) old mid new (record {
    keeps = keeps_but_group see mid run.keeps;
    goes = λ m is. let n = run.goes m is in (n.0, n.1.is, n.1.later, inl (n.1.kept kept));
    faults = run.faults;
  }) gone

-- what the end of a command leaves in the house, by its answer
pub over_ends : {P : Type 0} {ghosts : Ghosts P} (see : P → Seen) (Does : Moment → List Shown → End → Moment → Type 0) (Left : Moment → Moment → Type 0) (result : Result Answer Unserved) (views : List Shown) (end : End) (old mid new : View P ghosts)
    → IfOk result (λ a. a ≡ One views end) → OnOk result (IsLeft see end mid new) → IfErr result (λ e. (e ≡ unserved.HeldUp) × IsHeldUp see new)
    → (IsLeft see end mid new → CommandGoes see Does (One views end) old new) → CommandEnds see Does Left result old new
over_ends see Does Left (Ok a) views end old mid new told left held goes = subst (λ x. CommandGoes see Does x old new) (sym told) (goes left)
over_ends see Does Left (Err unserved.OutOfMemory) views end old mid new told left held goes = let is = held.0 in cc
over_ends see Does Left (Err unserved.HeldUp) views end old mid new told left held goes = held.1

-- the group is there that is to be shown
here_some : {P : Type 0} {ghosts : Ghosts P} (see : P → Seen) (dg : Option Word) (disks : List DiskAt) (h : House P ghosts) → fails (tests.GroupIs dg) disks (plain see h) ≡ None → MatchOption h.group ⊥ (λ g. Unit {0})
unfolding fails
here_some {P = P} {ghosts = ghosts} see dg disks h is = by h.group is
  where
    by : (o : Option (Imported P ghosts)) → unless (is_here dg (group_of see o)) (refusal.NoGroup dg) ≡ None → MatchOption o ⊥ (λ g. Unit {0})
    by None is = cc
    by (Some g) is = tt

-- once the test of the group is passed it is there
there_after : {P : Type 0} {ghosts : Ghosts P} (see : P → Seen) (disks : List DiskAt) (stages : List Stage) (vol : Option Word) (old now : View P ghosts) → IsThereAfter (recent stages) vol → HasRun see disks stages old now → MatchOption now.house.group ⊥ (λ g. Unit {0})
there_after see disks stages None old now there run = here_some see there.0 disks now.house (given_one see disks now.house (recent stages) (stage.Gate (tests.GroupIs there.0)) run.gives there.1)
there_after see disks stages (Some vol) old now there run = here_some see there.0.0 disks now.house (given_one see disks now.house (recent stages) (stage.Gate (tests.GroupIs there.0.0)) run.gives there.0.1)

pub can_show : {P : Type 0} {ghosts : Ghosts P} (see : P → Seen) (disks : List DiskAt) (stages : List Stage) (finish : Finish) (old now : View P ghosts) → ShowsAfter (recent stages) finish → HasRun see disks stages old now → CanShow see finish now.house
can_show see disks stages Nothing old now shows run = tt
can_show see disks stages (Records vol) old now shows run = there_after see disks stages vol old now shows run
can_show see disks stages (Hierarchy vol) old now shows run = group_alive see now.house.group run.keeps.house.group (there_after see disks stages vol old now shows run)

module _ {P : Type 0} {ghosts : Ghosts P} (see : P → Seen) (disks : List DiskAt) (stages ss : List Stage) (same : ss ≡ stages) (old mid : View P ghosts) where
  pub ended_from : (stop : Stop) (end : End) → stop ≡ stops.Ended end → StagesGo see disks ss (Err stop) old mid → HasEnded see disks stages end old mid
  ended_from stop end is go = subst (λ x. HasEnded see disks x end old mid) same (subst (λ s. StagesGo see disks ss (Err s) old mid) is go)

  pub rested_from : (stop : Stop) → stop ≡ stops.OutOfMemory → StagesGo see disks ss (Err stop) old mid → HasRested see (LeftOff disks stages) old mid
  rested_from stop is go =
      let run = subst (λ x. HasRested see (RunsShort disks x) old mid) same (subst (λ s. StagesGo see disks ss (Err s) old mid) is go) in record {
        keeps = run.keeps;
        goes = λ m is. let n = run.goes m is in (n.0, n.1, n.2, inr n.3);
        faults = run.faults;
      }

-- where something is to be shown, the stages keep the world
pub world_kept : (stages : List Stage) (finish : Finish) → ShowsText finish → KeepToShow stages finish → KeepWorld stages
world_kept stages Nothing shows kept = absurd shows
world_kept stages (Records vol) shows kept = kept
world_kept stages (Hierarchy vol) shows kept = kept
