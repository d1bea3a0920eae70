-- A commit that ends the command in place of joining a plex.
use Rattle.std.proofs.Common.{◌≡◌, List, [], ◌∷◌, Err, Some, sym, ap, subst}
use Rattle.std.specs.Prelude.{IfSome}
use Rattle.vx_piece.specs.Seen.{Seen}
use Rattle.vx_pages.specs.declared.local_piece.LocalPiece.{Ghosts}
use Rattle.vx_config_parts.specs.declared.object.Object.{Object}
use Rattle.vx_objects.specs.declared.edit.Edit.TheVariants.{Make}
use Rattle.vx_objects.specs.Applied.{IsEdited}
use Rattle.vx_answers.specs.declared.answer.End.{End}
use Rattle.vx_answers.specs.declared.answer.End.TheVariants as ends
use Rattle.vx_added_records.proofs.SameDisks.{group_kept}
use Rattle.vx_moments.specs.Moment.{Moment}
use Rattle.vx_house.specs.Scene.{Shelved}
use Rattle.vx_house.specs.View.{IsGroupKept, IsMoment, Keeps, at}
use Rattle.vx_house.specs.declared.house.House.{House}
use Rattle.vx_house.specs.declared.house.Imported.{Imported}
use Rattle.vx_house.specs.declared.stop.Stop.TheVariants as stops
use Rattle.vx_house_calls.specs.Passes.{with_group}
use Rattle.vx_stage_changes.specs.Committing.{CommitEnds, IsTried}
use Rattle.vx_stage_changes.specs.Changing.{IsMeant}
use Rattle.vx_stage_changes.specs.Planning.{IsShortText}
use Rattle.vx_stage_changes.specs.declared.planning.NextConfig.{NextConfig}
use Rattle.vx_stage_volumes.proofs.Commit.{IsStoppedAt, group_is_lost, power_is_lost, written_but_group, written_faults}
use Rattle.vx_stage_mirrors.specs.Moments.{EachFailedJoinStops, IsNotJoinedAt, JoinStops}

not_joined : {P : Type 0} {ghosts : Ghosts P} (see : P → Seen) (shelf : Shelved) (h : House P ghosts) (added : List Object) (end : End) (m : Moment) → IsStoppedAt see shelf h (Make added ∷ []) end m → IsNotJoinedAt see shelf h added end m
not_joined see shelf h added end m s = record { then = s.then; is = s.is; later = s.later; writing = s.writing; change = s.change; stopped = s.stopped }

module _ {P : Type 0} {ghosts : Ghosts P} (see : P → Seen) (shelf : Shelved) (h : House P ghosts) (old new : Imported P ghosts) (has : h.group ≡ Some old) (keeps : Keeps see (at shelf h)) (next : NextConfig) (added : List Object)
    (edited : IsEdited (Make added ∷ []) old.config next.config) (printed : IsShortText next.config next.text.items) (same : new ≡ record old { base = new.base }) where
  kept : IsGroupKept see old
  kept = subst (λ o. IfSome o (IsGroupKept see)) has keeps.house.group

  public : new.public ≡ old.public
  public = ap (λ (x : Imported P ghosts). x.public) same

  meant : IsMeant (Make added ∷ []) old.config next.config next.text.items
  meant = record { edited = edited; printed = printed }

  named : next.config.group ≡ old.config.group
  named = group_kept (Make added ∷ []) old.config next.config edited

  stops_by : (end : End) → (tried : IsTried see next.text.items old.base new.base) → ((m : Moment) → IsMoment see (at shelf h) m → IsStoppedAt see shelf (with_group h new) (Make added ∷ []) end m) → JoinStops see shelf h added new end
  stops_by end tried moments = record {
    keeps = written_but_group see shelf h old new has keeps kept next.text.items public tried;
    faults = written_faults see shelf h old new has keeps kept next.text.items public tried;
    moments = λ m is. not_joined see shelf (with_group h new) added end m (moments m is);
  }

  pub join_stops : (end : End) → CommitEnds see (Err (stops.Ended end)) next.text.items old.base new.base → JoinStops see shelf h added new end
  join_stops ends.GroupLost c = stops_by ends.GroupLost c.0 (λ m is. group_is_lost see shelf h old new has keeps kept next.text.items public c.0 (Make added ∷ []) next.config meant named m is c.1)
  join_stops (ends.Lost parts) c = subst (λ ps. JoinStops see shelf h added new (ends.Lost ps)) (sym c.0)
      (stops_by (ends.Lost []) c.1 (λ m is. power_is_lost see shelf h old new has keeps kept next.text.items public c.1 (Make added ∷ []) next.config meant named m is c.2))
  join_stops (ends.Done copied parts blocks) c = absurd c
  join_stops (ends.Refused refusal) c = absurd c
  join_stops (ends.Fault told device parts) c = absurd c
  join_stops ends.ShelfFailed c = absurd c

pub failed_join_stops : {P : Type 0} {ghosts : Ghosts P} (see : P → Seen) (h : House P ghosts) (old new : Imported P ghosts) → EachFailedJoinStops see h old new
failed_join_stops see h old new shelf name m l next added has keeps edited printed end by = join_stops see shelf h old new has keeps next added edited printed by.1 end by.0
