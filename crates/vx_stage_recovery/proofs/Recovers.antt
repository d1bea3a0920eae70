-- The recovery of a volume, as a step.
use Rattle.std.proofs.Common.{Result, Ok, Err, inl, inr}
use Rattle.vx_pages.specs.declared.local_piece.LocalPiece.{Ghosts}
use Rattle.vx_base.specs.Named.{Word}
use Rattle.vx_piece.specs.Seen.{Seen}
use Rattle.vx_answers.specs.declared.answer.End.{End}
use Rattle.vx_group_recover.specs.declared.healing.Healed.{Healed}
use Rattle.vx_moments.specs.Moment.{AreLater, Moment}
use Rattle.vx_house.specs.View.{View}
use Rattle.vx_house.specs.declared.stop.Stop.{Stop}
use Rattle.vx_recovery.specs.Recovering.{IsRecovered, RecoveryStops, RecoveryWants, StopsAtBegin}
use Rattle.vx_recovery.specs.Steps.{HasBegun}
use Rattle.vx_stage_recovery.specs.Steps.{FinishLeft, FinishStops, HasFinished, IsUnchanged}
use Rattle.vx_stage_recovery.proofs.StepChains.{Doing, Does, behind, done_as, stop_as, via}
use Rattle.vx_stage_recovery.proofs.Whole.{end_stops, end_wants, heal_stops, heal_wants, recovered}

abbrev begin : Word → Doing (Unit {0})
begin name = record { done = λ told. HasBegun name; ends = StopsAtBegin name; left = IsUnchanged }

abbrev finish : Word → Doing Healed
finish name = record { done = λ h. HasFinished name h.dirty h.copied; ends = FinishStops name; left = FinishLeft name }

abbrev all : Word → Doing Healed
all name = record { done = λ h. IsRecovered name h.dirty h.copied; ends = RecoveryStops name; left = RecoveryWants name }

-- once its beginning is recorded, what is left of it ends the command
finish_stops : (name : Word) (m b : Moment) → HasBegun name m b → (end : End) (n : Moment) → AreLater b.counts n.counts → FinishStops name b end n → RecoveryStops name m end n
finish_stops name m b has end n rest (inl unhealed) = heal_stops name m b has end n rest unhealed
finish_stops name m b has end n rest (inr (dirty, copied, marks, (w, first, healed, later, stops))) = end_stops name m b has dirty copied marks w first healed end n later stops

-- or wants memory
finish_wants : (name : Word) (m b : Moment) → HasBegun name m b → (n : Moment) → FinishLeft name b n → RecoveryWants name m n
finish_wants name m b has n (inl unhealed) = heal_wants name m b has n unhealed
finish_wants name m b has n (inr (dirty, copied, marks, (w, first, healed, later, left))) = end_wants name m b has dirty copied marks w first healed n left

module _ {P : Type 0} {ghosts : Ghosts P} (see : P → Seen) (name : Word) (old : View P ghosts) where
  -- its beginning ends the command
  pub begin_ends : (stop : Stop) (new : View P ghosts) → Does see old new (begin name) (Err stop) old new → Does see old new (all name) (Err stop) old new
  begin_ends stop new is = stop_as see old new (begin name) (all name) (record { ends = λ m at end n later stops. inl stops; left = λ m at n same. inl same }) stop is

  module _ (a : View P ghosts) (begun : Does see old a (begin name) (Ok tt) old a) where
    -- what is left of it does
    finish_ends : (stop : Stop) (new : View P ghosts) → Does see a new (finish name) (Err stop) a new → Does see old new (all name) (Err stop) old new
    finish_ends stop new is =
        stop_as see old new (via (HasBegun name) (finish name)) (all name)
        (record { ends = λ m at end n later (b, first, has, rest, stops). finish_stops name m b has end n rest stops; left = λ m at n (b, first, has, rest, left). finish_wants name m b has n left }) stop
        (behind see old new (begin name) tt a begun (finish name) (Err stop) is)

    -- all was done
    all_done : (h : Healed) (new : View P ghosts) → Does see a new (finish name) (Ok h) a new → Does see old new (all name) (Ok h) old new
    all_done h new is =
        done_as see old new (via (HasBegun name) (finish name)) (all name) h h
        (λ m at n later (b, first, has, rest, (marks, (w, one, healed, two, ended))). recovered name m b has h.dirty h.copied marks w one healed n ended)
        (behind see old new (begin name) tt a begun (finish name) (Ok h) is)

    -- all of it goes so
    pub all_goes : (result : Result Healed Stop) (new : View P ghosts) → Does see a new (finish name) result a new → Does see old new (all name) result old new
    all_goes (Ok h) new is = all_done h new is
    all_goes (Err stop) new is = finish_ends stop new is
