-- An import that ends with all devices back on the shelf.
use Rattle.std.proofs.Common.{◌≡◌, ◌∙◌, true, false, Some, List, [], refl, ap, inl, inr, arith}
use Rattle.std.specs.Prelude.{Err}
use Rattle.vx_pages.specs.declared.local_piece.LocalPiece.{Ghosts}
use Rattle.vx_base.specs.Counts.{Rose}
use Rattle.vx_base.specs.Named.{Word}
use Rattle.vx_piece.specs.Seen.{Seen}
use Rattle.vx_script_words.specs.declared.value.DiskAt.{DiskAt}
use Rattle.vx_answers.specs.declared.answer.End.{End}
use Rattle.vx_answers.specs.declared.answer.End.TheVariants as ends
use Rattle.vx_answers.specs.declared.refusal.Refusal.TheVariants.{InUse}
use Rattle.vx_moments.specs.Moment.{Moment, AreLater, Rests}
use Rattle.vx_stages.specs.Stages.{IsDone, Stops, ImportReads, ImportRefused, GroupStops, Wants}
use Rattle.vx_stages.specs.declared.stage.Stage.TheVariants as stage
use Rattle.vx_house.specs.Goes.{StageGoes}
use Rattle.vx_house.specs.Scene.{Shelved, Scene, seen_at, count_in, reads_at, counts_of, IsBlamed}
use Rattle.vx_house.specs.View.{Keeps, IsMoment, is_lent, at, scene, group_of}
use Rattle.vx_house.specs.declared.house.House.{House}
use Rattle.vx_house.specs.declared.house.Imported.{Imported}
use Rattle.vx_house.specs.declared.stop.Stop.TheVariants as stops
use Rattle.vx_house.proofs.Ends.{keeps_ended, goes_ended}
use Rattle.vx_house.proofs.Moments.{counts_own, counts_later, later_refl, faults_refl, moment_at}
use Rattle.vx_house.proofs.Readings.{stays_device, stays_place}
use Rattle.vx_stage_import.specs.Gathering.{IsSomeCut}
use Rattle.vx_stage_import.proofs.ReadAtMost.{reads_so}
use Rattle.vx_house.specs.Reading.{AreRead}

module _ {P : Type 0} {ghosts : Ghosts P} (see : P → Seen) (group : Word) (disks : List DiskAt) (h : House P ghosts) (first new : Shelved) where
  abbrev pub before : Scene
  before = scene see (at first h)

  abbrev pub after : Scene
  after = scene see (at new h)

  module _ (read : AreRead before after) (keeps : Keeps see (at first h)) where
    keeps_read : Keeps see (at new h)
    keeps_read = record { devices = read.held; house = keeps.house }

    module _ (m : Moment) (is : IsMoment see (at first h) m) where
      abbrev pub ended_at : Moment
      ended_at = moment_at m.world after

      -- the world is as it was
      pub read_moment : IsMoment see (at new h) ended_at
      read_moment = record {
        told = read.reads.told is.told;
        devices_are = λ name. stays_device (is_lent h name) (seen_at before name) (seen_at after name) (m.world.devices name) (read.reads.seen is.told name) (is.devices_are name);
        volumes_are = is.volumes_are;
        runs_are = is.runs_are;
        group_is = is.group_is;
        counts = counts_own after;
      }

      pub read_later : AreLater m.counts ended_at.counts
      read_later = counts_later before after m.counts is.counts (λ name. stays_place (seen_at before name) (seen_at after name) (read.reads.seen is.told name)) read.reads.faults

    -- no more of the devices was read than an import reads
    abbrev pub ReadsUpTo : Type 0
    ReadsUpTo = (m : Moment) → IsMoment see (at first h) m → ImportReads group m.world m.counts (counts_of after)

    -- the command ends so
    pub ends_read : (end : End) → ((m : Moment) (is : IsMoment see (at first h) m) → Stops (stage.Import group) disks m end (moment_at m.world after)) → IsBlamed end before after → StageGoes {T = Unit {0}} see (stage.Import group) disks (Err (stops.Ended end)) (at first h) (at new h)
    ends_read end stopped blamed = record {
      keeps = keeps_ended see end (at new h) keeps_read;
      goes = goes_ended see (IsDone (stage.Import group) disks) (Stops (stage.Import group) disks) (Wants (stage.Import group)) end (at first h) (at new h) (λ m is. (moment_at m.world after, read_moment m is, read_later m is, stopped m is));
      gives = tt;
      still = λ e. cc;
      faults = read.reads.faults;
      blamed = blamed;
    }

    pub starves : StageGoes {T = Unit {0}} see (stage.Import group) disks (Err stops.OutOfMemory) (at first h) (at new h)
    starves = record {
      keeps = keeps_read;
      goes = λ m is. (moment_at m.world after, read_moment m is, read_later m is, refl);
      gives = tt;
      still = λ e. cc;
      faults = read.reads.faults;
      blamed = tt;
    }

    -- the power is gone
    pub loses : ReadsUpTo → IsSomeCut before after → StageGoes {T = Unit {0}} see (stage.Import group) disks (Err (stops.Ended (ends.Lost []))) (at first h) (at new h)
    loses reads cut = ends_read (ends.Lost []) (λ m is. inr (inl ((refl, reads m is), inr (inr (refl, cut_now m is))))) tt
      where
        cut_now : (m : Moment) → IsMoment see (at first h) m → (name : Word) × (count_in (λ (seen : Seen). seen.cut) false (seen_at after name) ≡ true)
        cut_now m is = let one = cut is.told in (one.0, ap (count_in (λ (seen : Seen). seen.cut) false) one.2 ∙ one.3)

    -- the shelf cannot tell its devices
    pub fails : ((name : Word) → reads_at after name ≡ reads_at before name) → Rose first.faults new.faults → StageGoes {T = Unit {0}} see (stage.Import group) disks (Err (stops.Ended ends.ShelfFailed)) (at first h) (at new h)
    fails unread rose = ends_read ends.ShelfFailed (λ m is. inr (inl ((refl, none_read m is), inr (inl (refl, let e = is.counts.shelf in omega (arith, rose, e)))))) rose
      where
        none_read : ReadsUpTo
        none_read = λ m is. reads_so see group first h keeps m is after (λ name. read.reads.seen is.told name) (λ name. inl (unread name))

    -- what was found is refused
    pub refuses : ReadsUpTo → (end : End) → ((m : Moment) (is : IsMoment see (at first h) m) → ImportRefused group m.world end m.counts (counts_of after)) → IsBlamed end before after → StageGoes {T = Unit {0}} see (stage.Import group) disks (Err (stops.Ended end)) (at first h) (at new h)
    refuses reads end refused blamed = ends_read end (λ m is. inr (inl ((refl, reads m is), inl (refused m is)))) blamed

-- a group is imported already
pub stands : {P : Type 0} {ghosts : Ghosts P} (see : P → Seen) (group : Word) (disks : List DiskAt) (h : House P ghosts) (shelf : Shelved) (imported : Imported P ghosts) → h.group ≡ Some imported → Keeps see (at shelf h) → StageGoes {T = Unit {0}} see (stage.Import group) disks (Err (stops.Ended (ends.Refused (InUse imported.config.group)))) (at shelf h) (at shelf h)
stands see group disks h shelf imported some keeps = record {
  keeps = keeps;
  goes = λ m is. (m, is, later_refl m.counts, inl (by m is));
  gives = tt;
  still = λ e. cc;
  faults = faults_refl (scene see (at shelf h));
  blamed = tt;
}
  where
    rests : (m : Moment) → Rests m m
    rests m = record {
      stays = record { world = refl; later = later_refl m.counts };
      calls = record { reads = λ name. refl; writes = λ name. refl };
      quiet = record { devices = λ name. refl; shelf = refl };
    }

    by : (m : Moment) → IsMoment see (at shelf h) m → GroupStops m (ends.Refused (InUse imported.config.group)) m
    by m is = (_, is.group_is ∙ ap (group_of see) some, (refl, rests m))
