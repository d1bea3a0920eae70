-- A test of a stage, and a group that leaves, or for which memory was wanting.
use Rattle.std.proofs.Common.{◌≡◌, ◌∙◌, ◌<◌, true, false, List, [], ◌∷◌, Some, None, refl, sym, ap, subst}
use Rattle.std.specs.Prelude.{Ok, Err, IfSome}
use Rattle.std.specs.List.{list_any}
use Rattle.std.specs.Str.{bytes_eq}
use Rattle.std.specs.BTreeMap.{BTreeMap, IsOrdered}
use Rattle.std.specs.Cmp.Lexicographic.{slice_cmp}
use Rattle.std.specs.Ordering.{nat_cmp}
use Rattle.vx_pages.specs.declared.local_piece.LocalPiece.{Ghosts}
use Rattle.vx_base.specs.Named.{Word}
use Rattle.vx_piece.specs.Seen.{Seen}
use Rattle.vx_copies.specs.Lists.{AllOf, Each}
use Rattle.vx_script_words.specs.declared.value.DiskAt.{DiskAt}
use Rattle.vx_started.specs.declared.started.Started.{Started}
use Rattle.vx_answers.specs.declared.refusal.Refusal.{Refusal}
use Rattle.vx_answers.specs.declared.answer.End.TheVariants as ends
use Rattle.vx_moments.specs.Moment.{Moment}
use Rattle.vx_stages.specs.Tests.{fails}
use Rattle.vx_stages.specs.declared.stage.Stage.TheVariants as stage
use Rattle.vx_stages.specs.declared.test.Test.{Test}
use Rattle.vx_house.specs.Closing.{GivesGroup, KeepsGroup}
use Rattle.vx_house.specs.Goes.{IsReady, IsStill, StageGoes}
use Rattle.vx_house.specs.Plain.{plain}
use Rattle.vx_house.specs.Holders.{AreHeld, holders}
use Rattle.vx_house.specs.Scene.{Shelved, FaultsGoOn, AreCountsOf, seen_at}
use Rattle.vx_house.specs.Unmoved.{Unmoved}
use Rattle.vx_house.specs.View.{View, at, scene, is_lent, Keeps, IsAtVolume, IsDeviceOf, IsGroupKept, IsMoment}
use Rattle.vx_house.specs.declared.house.House.{House}
use Rattle.vx_house.specs.declared.house.Taken.{Taken}
use Rattle.vx_house.specs.declared.stop.Stop.TheVariants.{Ended, OutOfMemory}
use Rattle.vx_house.proofs.Ends.{keeps_but_group, moment_but_group}
use Rattle.vx_house.proofs.Runs.{none_found, none_runs_in, none_still}
use Rattle.vx_run.proofs.NoneRun.{none_runs}
use Rattle.vx_moments.specs.Leaving.{group_gone, lone}
use Rattle.vx_house.proofs.AfterLoss.{group_away}
use Rattle.vx_house.proofs.Leaves.{group_held, group_moved, holders_kept}
use Rattle.vx_house.proofs.AllLaws.{found_in}
use Rattle.vx_house.proofs.Moments.{faults_moved, faults_refl, later_refl}
use Rattle.vx_house.proofs.Scenes.{scene_of}
use Rattle.vx_run.specs.Runs.{HasRested}
use Rattle.vx_run.proofs.Tests.{fails_there}

still_all : {P : Type 0} (see : P → Seen) (ts : List (Taken P)) → Each (IsStill see) ts ts
still_all see [] = tt
still_all see (t ∷ ts) = (record { device = refl; sectors = refl; told = refl }, still_all see ts)

module _ {P : Type 0} {ghosts : Ghosts P} (see : P → Seen) (test : Test) (disks : List DiskAt) (v : View P ghosts) (keeps : Keeps see v) (ready : IsReady see (stage.Gate test) disks v.house) where
  pub test_passed : fails test disks (plain see v.house) ≡ None → StageGoes {T = Unit {0}} see (stage.Gate test) disks (Ok tt) v v
  test_passed none = record {
    keeps = keeps;
    goes = λ m is. (m, is, later_refl m.counts, (fails_there see v keeps.devices m is test disks ready ∙ none, refl));
    gives = none;
    still = λ e. record { hand = still_all see v.house.hand.items; volumes = refl; group = refl };
    faults = faults_refl (scene see v);
    blamed = tt;
  }

  pub test_failed : (r : Refusal) → fails test disks (plain see v.house) ≡ Some r → StageGoes {T = Unit {0}} see (stage.Gate test) disks (Err (Ended (ends.Refused r))) v v
  test_failed r some = record {
    keeps = keeps;
    goes = λ m is. (m, is, later_refl m.counts, (r, fails_there see v keeps.devices m is test disks ready ∙ some, refl, refl));
    gives = tt;
    still = λ e. tt;
    faults = faults_refl (scene see v);
    blamed = tt;
  }

  pub test_refused : StageGoes {T = Unit {0}} see (stage.Gate test) disks (Err OutOfMemory) v v
  test_refused = record {
    keeps = keeps;
    goes = λ m is. (m, is, later_refl m.counts, refl);
    gives = tt;
    still = λ e. tt;
    faults = faults_refl (scene see v);
    blamed = tt;
  }

-- the group leaves, and all else stays
pub group_let_go : {P : Type 0} {ghosts : Ghosts P} (see : P → Seen) (disks : List DiskAt) (old new : Shelved) (h k : House P ghosts) → Keeps see (at old h) → GivesGroup see old h new k → StageGoes {T = Unit {0}} see stage.LetGo disks (Ok tt) (at old h) (at new k)
group_let_go {P = P} see disks old new h k keeps gives = record {
  keeps = record {
    devices = group_held see old new h k keeps.devices gives;
    house = record {
      ordered = subst (IsOrdered (slice_cmp nat_cmp)) (sym gives.volumes) keeps.house.ordered;
      hand = subst (λ xs. AllOf (λ t. 0 < (see t.piece).sectors) xs.items) (sym gives.hand) keeps.house.hand;
      volumes = λ vol b is. keeps.house.volumes vol b (ap (λ (v : BTreeMap Word (Started P)). found_in v.entries vol) (sym gives.volumes) ∙ is);
      group = subst (λ o. IfSome o (IsGroupKept see)) (sym gives.none) tt;
    };
  };
  goes = λ m is. (record { world = group_gone m.world; counts = m.counts }, group_away see (at old h) m (moment_but_group see (at old h) m is) (keeps_but_group see (at old h) keeps) (at new k) moved gives.volumes gives.none, later_refl m.counts, (refl, refl));
  gives = tt;
  still = λ e. absurd (no_read e);
  faults = faults_moved (scene see (at old h)) (scene see (at new k)) moved;
  blamed = tt;
}
  where
    no_read : false ≡ true → ⊥
    no_read e = cc

    moved : Unmoved (scene see (at old h)) (scene see (at new k))
    moved = group_moved see old new h k keeps.devices gives

-- there was no memory to join the group's devices, and all else stays
module _ {P : Type 0} {ghosts : Ghosts P} (see : P → Seen) (s : Shelved) (h k : House P ghosts) (disks : List DiskAt) (ready : IsReady see stage.LetGo disks h) (keeps : Keeps see (at s h)) (stays : KeepsGroup see h k) where
  same : holders see k ≡ holders see h
  same = holders_kept see h k stays

  moment_stays : (m : Moment) → IsMoment see (at s h) m → IsMoment see (at s k) m
  moment_stays m is = record {
    told = is.told;
    devices_are = λ name. subst (λ (v : BTreeMap Word (Started P)). IsDeviceOf (list_any (λ e. bytes_eq e.1.device name) v.entries) (seen_at (scene see (at s k)) name) (m.world.devices name)) (sym stays.volumes)
        (subst (λ hs. IsDeviceOf (is_lent h name) (seen_at (scene_of s hs) name) (m.world.devices name)) (sym same) (is.devices_are name));
    volumes_are = λ vol. subst (λ o. IsAtVolume see o (lone (m.world.volumes vol))) (ap (λ (v : BTreeMap Word (Started P)). found_in v.entries vol) (sym stays.volumes)) (is.volumes_are vol);
    runs_are =
        let none = none_runs see (at s h) disks ready.wants.0 m is in
        none_still see h.group k.group m.world.group m.world.group m.world.volumes none (none_found see k.group (stays.none (none_runs_in see h.group none))) is.runs_are;
    group_is = is.group_is ∙ sym stays.group;
    counts = subst (λ hs. AreCountsOf (scene_of s hs) m.counts) (sym same) is.counts;
  }

  pub group_stays : HasRested see (λ m n. n.world ≡ m.world) (at s h) (at s k)
  group_stays = record {
    keeps = record {
      devices = subst (AreHeld s.held) (sym same) keeps.devices;
      ordered = subst (IsOrdered (slice_cmp nat_cmp)) (sym stays.volumes) keeps.house.ordered;
      hand = subst (λ xs. AllOf (λ t. 0 < (see t.piece).sectors) xs.items) (sym stays.hand) keeps.house.hand;
      volumes = λ vol b is. keeps.house.volumes vol b (ap (λ (v : BTreeMap Word (Started P)). found_in v.entries vol) (sym stays.volumes) ∙ is);
      whole = stays.whole;
    };
    goes = λ m is. (m, moment_stays m is, later_refl m.counts, refl);
    faults = subst (λ hs. FaultsGoOn (scene_of s (holders see h)) (scene_of s hs)) (sym same) (faults_refl (scene see (at s h)));
  }
