-- A commit to disks as a stage of a command: it is done, or the group or the power is lost.
use Rattle.std.proofs.Common.{◌≡◌, ◌∙◌, ◌<◌, false, List, [], Some, Ok, Err, refl, sym, ap, subst}
use Rattle.std.specs.Prelude.{IfSome}
use Rattle.std.specs.BTreeMap.{IsOrdered}
use Rattle.std.specs.Cmp.Lexicographic.{slice_cmp}
use Rattle.std.specs.Ordering.{nat_cmp}
use Rattle.vx_pages.specs.declared.local_piece.LocalPiece.{Ghosts}
use Rattle.vx_base.specs.Named.{Word}
use Rattle.vx_piece.specs.Seen.{Seen}
use Rattle.vx_copies.specs.Disks.{DiskSeen}
use Rattle.vx_copies.specs.Lists.{AllOf}
use Rattle.vx_script_words.specs.declared.value.DiskAt.{DiskAt}
use Rattle.vx_answers.specs.declared.answer.End.TheVariants as ends
use Rattle.vx_started.specs.Stands.{IsSized}
use Rattle.vx_started.specs.declared.started.Started.{Started}
use Rattle.vx_moments.specs.Moment.{Moment}
use Rattle.vx_stages.specs.Stages.{IsDone, Stops}
use Rattle.vx_stages.specs.declared.stage.Stage.{Stage}
use Rattle.vx_house.specs.Goes.{StageGoes, Gives, only_reads}
use Rattle.vx_house.specs.Holders.{Holder, volume_at}
use Rattle.vx_house.specs.Runs.{AreRuns}
use Rattle.vx_house.specs.Scene.{Shelved}
use Rattle.vx_house.specs.View.{at, group_of, IsGroupWhole, IsMoment, KeepsHouse, KeepsButGroup}
use Rattle.vx_house.specs.declared.house.House.{House}
use Rattle.vx_house.specs.declared.stop.Stop.TheVariants as stops
use Rattle.vx_house.proofs.Ends.{moment_but_group}
use Rattle.vx_stage_changes.proofs.CommitJoins.{AreCalled, held_on, faults_on, moment_on, later_on, but_group_on}

-- volumes that stay are kept
pub volumes_kept : {P : Type 0} {ghosts : Ghosts P} (see : P → Seen) (old new : House P ghosts) → new.volumes ≡ old.volumes → KeepsHouse see old → (vol : Word) (b : Started P) → volume_at new vol ≡ Some b → IsSized (see b.piece) b.geometry.length
volumes_kept see old new same keeps vol b e = keeps.volumes vol b (ap (λ v. volume_at (record { volumes = v; group = old.group; hand = old.hand }) vol) (sym same) ∙ e)

module _ {P : Type 0} {ghosts : Ghosts P} {see : P → Seen} {shelf : Shelved} {old new : House P ghosts} {os : List Holder} {hs bs js ks : List DiskSeen} (s : AreCalled see shelf old new os hs bs js ks) (stage : Stage) (disks : List DiskAt) (keeps : KeepsHouse see old) where
  module _ (hand : AllOf (λ t. 0 < (see t.piece).sectors) new.hand.items) (whole : IfSome new.group (IsGroupWhole see)) (runs : (m : Moment) → IsMoment see (at shelf old) m → AreRuns see new.group m.world.group m.world.volumes) where
    but_group : KeepsButGroup see (at shelf new)
    but_group = record { devices = held_on s; ordered = subst (IsOrdered (slice_cmp nat_cmp)) (sym s.volumes) keeps.ordered; hand = hand; volumes = volumes_kept see old new s.volumes keeps; whole = whole }

    pub group_lost_stage : ((m : Moment) → IsMoment see (at shelf old) m → Stops stage disks m ends.GroupLost (moment_on s m m.world.group)) → StageGoes {T = Unit {0}} see stage disks (Err (stops.Ended ends.GroupLost)) (at shelf old) (at shelf new)
    group_lost_stage stops = record {
      keeps = but_group;
      goes = λ m is. let on = moment_but_group see (at shelf old) m is in (moment_on s m m.world.group, but_group_on s m on m.world.group (runs m is), later_on s m on m.world.group, stops m is);
      gives = tt;
      still = λ e. tt;
      faults = faults_on s;
      blamed = tt;
    }

    pub power_lost_stage : ((m : Moment) → IsMoment see (at shelf old) m → Stops stage disks m (ends.Lost []) (moment_on s m m.world.group)) → StageGoes {T = Unit {0}} see stage disks (Err (stops.Ended (ends.Lost []))) (at shelf old) (at shelf new)
    power_lost_stage stops = record {
      keeps = but_group;
      goes = λ m is. let on = moment_but_group see (at shelf old) m is in (moment_on s m m.world.group, but_group_on s m on m.world.group (runs m is), later_on s m on m.world.group, stops m is);
      gives = tt;
      still = λ e. tt;
      faults = faults_on s;
      blamed = tt;
    }

  pub done_stage : KeepsHouse see new → ((m : Moment) → IsMoment see (at shelf old) m → AreRuns see new.group (group_of see new.group) m.world.volumes) → Gives see stage disks new → only_reads stage ≡ false → ((m : Moment) → IsMoment see (at shelf old) m → IsDone stage disks m (moment_on s m (group_of see new.group))) → StageGoes {T = Unit {0}} see stage disks (Ok tt) (at shelf old) (at shelf new)
  done_stage kept runs gives writes done = record {
    keeps = record { devices = held_on s; house = kept };
    goes = λ m is.
        let on = moment_but_group see (at shelf old) m is in
        let there = but_group_on s m on (group_of see new.group) (runs m is) in (
          moment_on s m (group_of see new.group),
          record { told = there.told; devices_are = there.devices_are; volumes_are = there.volumes_are; runs_are = there.runs_are; group_is = refl; counts = there.counts },
          later_on s m on (group_of see new.group),
          done m is,
        );
    gives = gives;
    still = λ e. cc;
    faults = faults_on s;
    blamed = tt;
  }
