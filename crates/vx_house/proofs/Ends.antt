-- A stage that ended the command and keeps all there is to keep, however it ended.
use Rattle.std.specs.Prelude.{Option, Some, None, IfSome, Err}
use Rattle.vx_pages.specs.declared.local_piece.LocalPiece.{Ghosts}
use Rattle.vx_piece.specs.Seen.{Seen}
use Rattle.vx_answers.specs.declared.answer.End.{End}
use Rattle.vx_answers.specs.declared.answer.End.TheVariants as ends
use Rattle.vx_moments.specs.Moment.{Moment}
use Rattle.vx_house.specs.Goes.{Goes, GoesOff, GoesBy, KeepsBy}
use Rattle.vx_house.specs.View.{View, Keeps, KeepsButGroup, IsGroupKept, IsGroupWhole, IsMoment, IsMomentButGroup}
use Rattle.vx_house.specs.declared.house.Imported.{Imported}
use Rattle.vx_house.specs.declared.stop.Stop.TheVariants as stops

module _ {P : Type 0} {ghosts : Ghosts P} (see : P → Seen) where
  -- the devices of a group that is kept can be joined
  pub whole_kept : (o : Option (Imported P ghosts)) → IfSome o (IsGroupKept see) → IfSome o (IsGroupWhole see)
  whole_kept None kept = tt
  whole_kept (Some g) kept = kept.whole

  pub moment_but_group : (v : View P ghosts) (m : Moment) → IsMoment see v m → IsMomentButGroup see v m
  moment_but_group v m is = record { told = is.told; devices_are = is.devices_are; volumes_are = is.volumes_are; runs_are = is.runs_are; counts = is.counts }

  pub keeps_but_group : (v : View P ghosts) → Keeps see v → KeepsButGroup see v
  keeps_but_group v keeps = record { devices = keeps.devices; ordered = keeps.house.ordered; hand = keeps.house.hand; volumes = keeps.house.volumes; whole = whole_kept v.house.group keeps.house.group }

  goes_off : (R : Moment → Moment → Type 0) (old new : View P ghosts) → Goes see R old new → GoesOff see R old new
  goes_off R old new goes m is = let went = goes m is in (went.0, moment_but_group new went.0 went.1, went.2, went.3)

  pub keeps_ended : (end : End) (v : View P ghosts) → Keeps see v → KeepsBy {T = Unit {0}} see (Err (stops.Ended end)) v
  keeps_ended (ends.Done copied parts blocks) v keeps = keeps
  keeps_ended (ends.Refused r) v keeps = keeps
  keeps_ended (ends.Fault told device parts) v keeps = keeps
  keeps_ended ends.ShelfFailed v keeps = keeps
  keeps_ended ends.GroupLost v keeps = keeps_but_group v keeps
  keeps_ended (ends.Lost parts) v keeps = keeps_but_group v keeps

  pub goes_ended : (Done : Moment → Moment → Type 0) (Ends : Moment → End → Moment → Type 0) (Left : Moment → Moment → Type 0) (end : End) (old new : View P ghosts) → Goes see (λ m n. Ends m end n) old new → GoesBy {T = Unit {0}} see Done Ends Left (Err (stops.Ended end)) old new
  goes_ended Done Ends Left (ends.Done copied parts blocks) old new goes = goes
  goes_ended Done Ends Left (ends.Refused r) old new goes = goes
  goes_ended Done Ends Left (ends.Fault told device parts) old new goes = goes
  goes_ended Done Ends Left ends.ShelfFailed old new goes = goes
  goes_ended Done Ends Left ends.GroupLost old new goes = goes_off (λ m n. Ends m ends.GroupLost n) old new goes
  goes_ended Done Ends Left (ends.Lost parts) old new goes = goes_off (λ m n. Ends m (ends.Lost parts) n) old new goes
