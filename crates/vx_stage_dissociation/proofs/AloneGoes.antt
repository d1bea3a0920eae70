-- A plex of no volume that is removed, in a house: by a commit alone.
use Rattle.std.proofs.Common.{◌≡◌, ◌∙◌, true, List, [], ◌++◌, Some, None, Result, Ok, Err, refl, sym, ap, subst}
use Rattle.std.specs.Prelude.{IfSome}
use Rattle.vx_piece.specs.Seen.{Seen}
use Rattle.vx_pages.specs.declared.local_piece.LocalPiece.{Ghosts}
use Rattle.vx_config_parts.specs.declared.plex.Plex.{Plex}
use Rattle.vx_objects.specs.declared.edit.Edit.{Edit}
use Rattle.vx_confdb.specs.Groups.{members}
use Rattle.vx_fronts.proofs.Parted.{private_parted}
use Rattle.vx_answers.specs.declared.answer.End.{End}
use Rattle.vx_answers.specs.declared.answer.End.TheVariants as ends
use Rattle.vx_image.proofs.PlexMembers.{IsIn}
use Rattle.vx_moments.specs.Commit.{IsStopped}
use Rattle.vx_moments.specs.Moment.{Moment}
use Rattle.vx_lending.specs.Public.{lent_pieces, still_pieces}
use Rattle.vx_stages.specs.Ends.{IsChange, StopsBy}
use Rattle.vx_house.specs.Scene.{Shelved}
use Rattle.vx_house.specs.View.{IsGroupKept, IsMoment, Keeps, at, scene}
use Rattle.vx_house.specs.declared.house.House.{House}
use Rattle.vx_house.specs.declared.house.Imported.{Imported}
use Rattle.vx_house.specs.declared.stop.Stop.{Stop}
use Rattle.vx_house.specs.declared.stop.Stop.TheVariants as stops
use Rattle.vx_house.proofs.Ends.{moment_but_group}
use Rattle.vx_house.proofs.Moments.{faults_refl, later_refl}
use Rattle.vx_house_calls.specs.Passes.{with_group}
use Rattle.vx_stage_changes.specs.Changing.{IsMeant}
use Rattle.vx_stage_changes.specs.Committing.{CommitEnds, IsTried}
use Rattle.vx_stage_changes.specs.declared.planning.NextConfig.{NextConfig}
use Rattle.vx_stage_changes.proofs.Alone.{IsWrittenIn, alone, cut_alone, lost_alone, x_alone}
use Rattle.vx_stage_changes.proofs.CommitJoins.{but_group_on, later_on, moment_on}
use Rattle.vx_stage_changes.proofs.Holders.{group_before}
use Rattle.vx_stage_changes.proofs.Owns.{Runs}
use Rattle.vx_stage_changes.proofs.Runners.{runs_lost}
use Rattle.vx_stage_volumes.proofs.Commit.{IsCommittedAt, KeepsRunning, committed_at, done_keeps, written_but_group, written_faults}
use Rattle.vx_stage_mirrors.specs.Relogging.{IsRecordedIn, RecordEnds}
use Rattle.vx_stage_mirrors.proofs.DetachFacts.{found_plex}
use Rattle.vx_stage_mirrors.proofs.LogGoing.{same_house}
use Rattle.vx_stage_dissociation.specs.Going.{EachHouseRemoves, GoesAs}
use Rattle.vx_stages.specs.Leaving.{leaving_edits}
use Rattle.vx_stages.specs.Left.{IsRemovedAlone}
use Rattle.vx_stage_dissociation.specs.Planned.{IsPlanFor}
use Rattle.vx_stage_dissociation.proofs.Alone.{all_stay, same_disks, same_group}
use Rattle.vx_stage_dissociation.proofs.Going.{has_done, has_wanted}

module _ {P : Type 0} {ghosts : Ghosts P} (see : P → Seen) (p : Plex) (next : NextConfig) (old new : Imported P ghosts) (planned : IsPlanFor see true p next old) (none : p.vol ≡ None) (shelf : Shelved) (h : House P ghosts) (has : h.group ≡ Some old) (keeps : Keeps see (at shelf h)) where
  abbrev edits : List Edit
  edits = leaving_edits true p

  abbrev Done : Moment → Moment → Type 0
  Done = IsRemovedAlone true p

  abbrev Stops : Moment → End → Moment → Type 0
  Stops m end k = StopsBy (IsChange (leaving_edits true p) m.world) m end k

  abbrev Wants : Moment → Moment → Type 0
  Wants m n = n.world ≡ m.world

  kept : IsGroupKept see old
  kept = subst (λ o. IfSome o (IsGroupKept see)) has keeps.house.group

  there : IsIn old.config.plexes p
  there = (found_plex p.name old.config.plexes p planned.found).0

  -- ---- it is done

  module _ (recorded : IsRecordedIn see next old new) where
    meant : IsMeant edits old.config new.config next.text.items
    meant = subst (λ c. IsMeant edits old.config c next.text.items) (sym recorded.config) (record { edited = planned.next_is.0; printed = planned.next_is.1 })

    keeps_running : KeepsRunning old new.config
    keeps_running = record {
      group = same_group old.config new.config p there none meant.edited;
      disks = same_disks old.config new.config p there none meant.edited;
      stays = all_stay old.config new.config p there none meant.edited (λ v. Runs old v.name);
    }

    done : GoesAs see Done Stops Wants (Ok tt) (at shelf h) (at shelf (with_group h new))
    done = has_done see Done Stops Wants (at shelf h) (at shelf (with_group h new))
        (done_keeps see shelf h old new has keeps kept next.text.items recorded.public recorded.finished edits meant keeps_running)
        (λ m is.
        let a : IsCommittedAt see shelf (with_group h new) edits new.config m = committed_at see shelf h old new has keeps kept next.text.items recorded.public recorded.finished edits meant keeps_running m is in (
          a.then,
          a.is,
          a.later,
          record { commits = (a.writing, a.change, a.committed); rest = a.later },
        ))
        (written_faults see shelf h old new has keeps kept next.text.items recorded.public recorded.finished.tried)

  -- ---- the commit is stopped

  module _ (same : new ≡ record old { base = new.base }) where
    public : new.public ≡ old.public
    public = ap (λ (x : Imported P ghosts). x.public) same

    named : next.config.group ≡ old.base.name
    named = same_group old.config next.config p there none planned.next_is.0 ∙ sym kept.named

    module _ (tried : IsTried see next.text.items old.base new.base) where
      abbrev w : IsWrittenIn see shelf h old new next.text.items
      w = record {
        has = has;
        held = keeps.devices;
        writable = record { slots = kept.slots; ready = kept.carries.alive.ready; private = private_parted (members see old.base) (still_pieces see old.public ++ lent_pieces see old.public) kept.whole.parted };
        tried = tried;
        public = public;
      }

      change : (m : Moment) → IsMoment see (at shelf h) m → IsChange edits m.world (x_alone w next.config)
      change m is = record { group = group_before see shelf h old has m is; edited = planned.next_is.0; joiners = refl; carriers = refl }

      lost_goes : ((m : Moment) → IsMoment see (at shelf h) m → IsStopped (x_alone w next.config) m ends.GroupLost (moment_on (alone w) m m.world.group)) → GoesAs see Done Stops Wants (Err (stops.Ended ends.GroupLost)) (at shelf h) (at shelf (with_group h new))
      lost_goes stopped = record {
        keeps = written_but_group see shelf h old new has keeps kept next.text.items public tried;
        goes = λ m is.
            let on = moment_but_group see (at shelf h) m is in
            (moment_on (alone w) m m.world.group, but_group_on (alone w) m on m.world.group (runs_lost w m is), later_on (alone w) m on m.world.group, (x_alone w next.config, change m is, stopped m is));
        faults = written_faults see shelf h old new has keeps kept next.text.items public tried;
        blamed = tt;
      }

      cut_goes : ((m : Moment) → IsMoment see (at shelf h) m → IsStopped (x_alone w next.config) m (ends.Lost []) (moment_on (alone w) m m.world.group)) → GoesAs see Done Stops Wants (Err (stops.Ended (ends.Lost []))) (at shelf h) (at shelf (with_group h new))
      cut_goes stopped = record {
        keeps = written_but_group see shelf h old new has keeps kept next.text.items public tried;
        goes = λ m is.
            let on = moment_but_group see (at shelf h) m is in
            (moment_on (alone w) m m.world.group, but_group_on (alone w) m on m.world.group (runs_lost w m is), later_on (alone w) m on m.world.group, (x_alone w next.config, change m is, stopped m is));
        faults = written_faults see shelf h old new has keeps kept next.text.items public tried;
        blamed = tt;
      }

    stopped_by : (stop : Stop) → CommitEnds see (Err stop) next.text.items old.base new.base → GoesAs see Done Stops Wants (Err stop) (at shelf h) (at shelf (with_group h new))
    stopped_by stops.OutOfMemory c =
        let is : new ≡ old = same ∙ ap (λ b. (let x : Imported P ghosts = record { config = old.config; base = b; public = old.public } in x)) c in
        subst (λ x. GoesAs see Done Stops Wants (Err stops.OutOfMemory) (at shelf h) (at shelf x)) (same_house see shelf h old has new is)
        (has_wanted see Done Stops Wants (at shelf h) (at shelf h) keeps (λ m is. (m, is, later_refl m.counts, refl)) (faults_refl (scene see (at shelf h))))
    stopped_by (stops.Ended ends.GroupLost) c = lost_goes c.0 (λ m is. lost_alone (w c.0) m (moment_but_group see (at shelf h) m is) next.config planned.next_is.1.0 planned.next_is.1.1 named c.1)
    stopped_by (stops.Ended (ends.Lost parts)) c =
        subst (λ ps. GoesAs see Done Stops Wants (Err (stops.Ended (ends.Lost ps))) (at shelf h) (at shelf (with_group h new))) (sym c.0)
        (cut_goes c.1 (λ m is. cut_alone (w c.1) m (moment_but_group see (at shelf h) m is) next.config planned.next_is.1.0 planned.next_is.1.1 named c.2))
    stopped_by (stops.Ended (ends.Done copied parts blocks)) c = absurd c
    stopped_by (stops.Ended (ends.Refused why)) c = absurd c
    stopped_by (stops.Ended (ends.Fault told device parts)) c = absurd c
    stopped_by (stops.Ended ends.ShelfFailed) c = absurd c

  pub alone_goes : (result : Result (Unit {0}) Stop) → RecordEnds see next result old new →
      GoesAs see (IsRemovedAlone true p) (λ m end k. StopsBy (IsChange (leaving_edits true p) m.world) m end k) (λ m n. n.world ≡ m.world) result (at shelf h) (at shelf (with_group h new))
  alone_goes (Ok u) e = done e
  alone_goes (Err stop) e = stopped_by e.1 stop e.0

pub removes_alone : {P : Type 0} {ghosts : Ghosts P} (see : P → Seen) (p : Plex) (next : NextConfig) (old new : Imported P ghosts) → IsPlanFor see true p next old → p.vol ≡ None → (result : Result (Unit {0}) Stop) → RecordEnds see next result old new → EachHouseRemoves see p next result old new
removes_alone see p next old new planned none result e shelf h has keeps = alone_goes see p next old new planned none shelf h has keeps result e
