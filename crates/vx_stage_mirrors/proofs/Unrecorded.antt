-- A commit of edits of one volume that ends the command: the group or the power is lost, and the volumes run as they did.
use Rattle.std.proofs.Common.{◌≡◌, ◌∙◌, List, [], ◌++◌, Err, Some, refl, sym, ap, subst}
use Rattle.std.specs.Prelude.{IfSome}
use Rattle.vx_base.specs.Named.{Word}
use Rattle.vx_piece.specs.Seen.{Seen}
use Rattle.vx_pages.specs.declared.local_piece.LocalPiece.{Ghosts}
use Rattle.vx_objects.specs.declared.edit.Edit.{Edit}
use Rattle.vx_confdb.specs.Groups.{members}
use Rattle.vx_fronts.proofs.Parted.{private_parted}
use Rattle.vx_answers.specs.declared.answer.End.{End}
use Rattle.vx_answers.specs.declared.answer.End.TheVariants as ends
use Rattle.vx_moments.specs.Commit.{IsStopped}
use Rattle.vx_moments.specs.Moment.{Moment}
use Rattle.vx_lending.specs.Public.{lent_pieces, still_pieces}
use Rattle.vx_group_edits.proofs.DcoEdits.{own_group}
use Rattle.vx_house.specs.Scene.{Shelved}
use Rattle.vx_house.specs.View.{IsGroupKept, IsMoment, Keeps, at}
use Rattle.vx_house.specs.declared.house.House.{House}
use Rattle.vx_house.specs.declared.house.Imported.{Imported}
use Rattle.vx_house.specs.declared.stop.Stop.TheVariants as stops
use Rattle.vx_house.proofs.Ends.{moment_but_group}
use Rattle.vx_house_calls.specs.Passes.{with_group}
use Rattle.vx_stage_changes.specs.Committing.{CommitEnds, IsTried}
use Rattle.vx_stage_changes.specs.declared.planning.NextConfig.{NextConfig}
use Rattle.vx_stage_changes.proofs.Alone.{IsWrittenIn, alone, cut_alone, lost_alone, x_alone}
use Rattle.vx_stage_changes.proofs.CommitJoins.{but_group_on, later_on, moment_on}
use Rattle.vx_stage_changes.proofs.Holders.{group_before}
use Rattle.vx_stage_changes.proofs.Runners.{runs_lost}
use Rattle.vx_stage_volumes.proofs.Commit.{written_but_group, written_faults}
use Rattle.vx_stage_mirrors.specs.LogMoments.{EachFailedRecordStops, IsRecordOf, IsUnrecordedAt, RecordStops}

module _ {P : Type 0} {ghosts : Ghosts P} (see : P → Seen) (shelf : Shelved) (h : House P ghosts) (old new : Imported P ghosts) (has : h.group ≡ Some old) (keeps : Keeps see (at shelf h)) (name : Word) (edits : List Edit) (next : NextConfig)
    (of : IsRecordOf old name edits next) (same : new ≡ record old { base = new.base }) where
  kept : IsGroupKept see old
  kept = subst (λ o. IfSome o (IsGroupKept see)) has keeps.house.group

  public : new.public ≡ old.public
  public = ap (λ (x : Imported P ghosts). x.public) same

  named : next.config.group ≡ old.base.name
  named = (own_group old.config next.config name edits of.own of.edited).0 ∙ sym kept.named

  module _ (tried : IsTried see next.text.items old.base new.base) where
    abbrev w : IsWrittenIn see shelf h old new next.text.items
    w = record {
      has = has;
      held = keeps.devices;
      writable = record { slots = kept.slots; ready = kept.carries.alive.ready; private = private_parted (members see old.base) (still_pieces see old.public ++ lent_pieces see old.public) kept.whole.parted };
      tried = tried;
      public = public;
    }

    -- the moment behind the commit
    unrecorded_at : (end : End) (m : Moment) → IsMoment see (at shelf h) m → IsStopped (x_alone w next.config) m end (moment_on (alone w) m m.world.group) → IsUnrecordedAt see shelf (with_group h new) edits next.config end m
    unrecorded_at end m is stopped =
        let on = moment_but_group see (at shelf h) m is in
        record {
          then = moment_on (alone w) m m.world.group;
          is = but_group_on (alone w) m on m.world.group (runs_lost w m is);
          after = later_on (alone w) m on m.world.group;
          writing = x_alone w next.config;
          config_is = refl;
          change = record { group = group_before see shelf h old has m is; edited = of.edited; joiners = refl; carriers = refl };
          stopped = stopped;
        }

    stops_by : (end : End) → ((m : Moment) → IsMoment see (at shelf h) m → IsStopped (x_alone w next.config) m end (moment_on (alone w) m m.world.group)) → RecordStops see shelf h edits next.config new end
    stops_by end stopped = record {
      keeps = written_but_group see shelf h old new has keeps kept next.text.items public tried;
      faults = written_faults see shelf h old new has keeps kept next.text.items public tried;
      moments = λ m is. unrecorded_at end m is (stopped m is);
    }

  ends_so : (end : End) → CommitEnds see (Err (stops.Ended end)) next.text.items old.base new.base → RecordStops see shelf h edits next.config new end
  ends_so ends.GroupLost c = stops_by c.0 ends.GroupLost (λ m is. lost_alone (w c.0) m (moment_but_group see (at shelf h) m is) next.config of.printed.0 of.printed.1 named c.1)
  ends_so (ends.Lost parts) c = subst (λ ps. RecordStops see shelf h edits next.config new (ends.Lost ps)) (sym c.0)
      (stops_by c.1 (ends.Lost []) (λ m is. cut_alone (w c.1) m (moment_but_group see (at shelf h) m is) next.config of.printed.0 of.printed.1 named c.2))
  ends_so (ends.Done copied parts blocks) c = absurd c
  ends_so (ends.Refused refusal) c = absurd c
  ends_so (ends.Fault told device parts) c = absurd c
  ends_so ends.ShelfFailed c = absurd c

pub record_stops : {P : Type 0} {ghosts : Ghosts P} (see : P → Seen) (h : House P ghosts) (old new : Imported P ghosts) → EachFailedRecordStops see h old new
record_stops see h old new shelf name edits next has keeps of end by = ends_so see shelf h old new has keeps name edits next of by.1 end by.0
