-- A clear of a settled region.
use Rattle.std.proofs.Common.{◌≡◌, ◌≢◌, inl, inr, ℕ, Bool, true, false, cond, refl, sym, ◌∙◌, ap, subst, List, [], ◌∷◌, Option, Some, None, Result, Ok, Err}
use Rattle.std.specs.Prelude.{◌&&◌, not}
use Rattle.vx_mask.specs.Mask.{has, only, without}
use Rattle.vx_mask.proofs.MaskLemmas.{has-only_other, has-without}
use Rattle.vx_core.specs.declared.stage.Act.{Act}
use Rattle.vx_core.specs.declared.stage.Act.TheVariants.{Mark, Unmark, WriteCall, WriteRegion, ReadCall, ReadRegion, Done, Skipped, Fault, Lost}
use Rattle.vx_core.specs.declared.stage.Event.{Event}
use Rattle.vx_core.specs.declared.stage.Event.TheVariants.{Begin, Unmarked, UnmarkFailed, Cut}
use Rattle.vx_core.specs.declared.stage.Job.{Job}
use Rattle.vx_core.specs.declared.stage.Job.TheVariants.{Clear}
use Rattle.vx_core.specs.declared.stage.Phase.{Phase}
use Rattle.vx_core.specs.declared.stage.Phase.TheVariants.{Settled, Unsettled, Dead, Busy}
use Rattle.vx_core.specs.declared.stage.Stage.{Stage}
use Rattle.vx_core.specs.declared.stage.Step.{Step}
use Rattle.vx_core.specs.declared.stage.Step.TheVariants.{Unmark as AtUnmark}
use Rattle.vx_core.specs.declared.stage.Work.{Work}
use Rattle.vx_core.specs.Region.{MayAnswer}
use Rattle.vx_core.specs.Table.{answered, begun, busy, ended, goes_on, next_of, work}
use Rattle.vx_cell.specs.declared.fault.CellFault.{CellFault}
use Rattle.vx_cell.specs.declared.fault.CellFault.TheVariants as cell
use Rattle.vx_cell.specs.Calls.{CallHasCause, ClearLeaves, LeavesPhase}
use Rattle.vx_cell.specs.Region.{IsCut, RegionSeen}
use Rattle.vx_cell.specs.Running.{AreAnswers, answered_by}
use Rattle.vx_volume.specs.Loop.{stop_of}
use Rattle.vx_volume.specs.Passes.{IsClearedAt}

-- ---- the stages that a clear goes through

abbrev SameBut : Stage → Stage → Type 0
SameBut s0 s = (k : ℕ) → k ≢ 30 → has s.bits k ≡ has s0.bits k

abbrev StandsAt : Phase → Type 0
StandsAt (Busy w) = w.step ≡ AtUnmark
StandsAt Settled = Unit {0}
StandsAt Unsettled = ⊥
StandsAt Dead = Unit {0}

-- it waits for the unmark, or has ended, and the marks are those of the first stage but for the dirty one
record Clearing (s0 : Stage) (x : Stage × Act) : Type 0 where
  pub at : StandsAt x.0.phase
  pub marks : SameBut s0 x.0

-- no answer begins a job
no_begin : (act : Act) (job : Job) → MayAnswer act (Begin job) → ⊥
no_begin (Mark b) job h = h
no_begin (Unmark b) job h = h
no_begin (WriteCall k) job h = h
no_begin (WriteRegion k) job h = h
no_begin (ReadCall k) job h = h
no_begin (ReadRegion k) job h = h
no_begin Done job h = h
no_begin Skipped job h = h
no_begin Fault job h = h
no_begin Lost job h = h

unmarks : (s0 s : Stage) (w : Work) (event : Event) → w.step ≡ AtUnmark → SameBut s0 s → Clearing s0 (answered s w AtUnmark event)
unmarks s0 s w Unmarked at same = record { at = tt; marks = same }
unmarks s0 s w UnmarkFailed at same = record { at = tt; marks = same }
unmarks s0 s w event at same = record { at = at; marks = same }

goes : (s0 s : Stage) (phase : Phase) (event : Event) → StandsAt phase → SameBut s0 s → Clearing s0 (goes_on s phase event)
goes s0 s (Busy w) event at same = subst (λ (step : Step). Clearing s0 (answered s w step event)) (sym at) (unmarks s0 s w event at same)
goes s0 s Settled event at same = record { at = tt; marks = same }
goes s0 s Unsettled event at same = absurd at
goes s0 s Dead event at same = record { at = tt; marks = same }

next : (s0 : Stage) (x : Stage × Act) (event : Event) → Clearing s0 x → MayAnswer x.1 event → Clearing s0 (next_of x.0 event)
next s0 x (Begin job) h may = absurd (no_begin x.1 job may)
next s0 x Cut h may = record { at = tt; marks = h.marks }
next s0 x event h may = goes s0 x.0 x.0.phase event h.at h.marks

all : (s0 : Stage) (x : Stage × Act) (events : List Event) → Clearing s0 x → AreAnswers x events → Clearing s0 (answered_by x events)
all s0 x [] h answers = h
all s0 x (event ∷ events) h answers = all s0 (next_of x.0 event) events (next s0 x event h answers.0) answers.1

dirty_gone : (s0 : Stage) → SameBut s0 (record s0 { bits = without s0.bits (only 30) })
dirty_gone s0 k apart = has-without s0.bits (only 30) k ∙ ap (λ (b : Bool). has s0.bits k && not b) (has-only_other 30 k apart) ∙ and_true (has s0.bits k)
  where
    and_true : (b : Bool) → (b && true) ≡ b
    and_true true = refl
    and_true false = refl

begins : (s0 : Stage) → s0.phase ≡ Settled → Clearing s0 (next_of s0 (Begin Clear))
begins s0 is = subst (λ (p : Phase). Clearing s0 (begun s0 p Clear)) (sym is) (by (has s0.bits 30))
  where
    by : (dirty : Bool) → Clearing s0 (cond dirty (busy (record s0 { bits = without s0.bits (only 30) }) (work Clear AtUnmark 0)) (ended s0 Settled Skipped))
    by true = record { at = refl; marks = dirty_gone s0 }
    by false = record { at = tt; marks = λ k apart. refl }

-- ---- a region

-- how a clear leaves the region, by what stopped it
abbrev pub LeftBy : Option CellFault → RegionSeen → Type 0
LeftBy None r = (r.stage.phase ≡ Settled) × (has r.stage.bits 30 ≡ false)
LeftBy (Some (cell.Fault place)) r = r.stage.phase ≡ Settled
LeftBy (Some cell.PowerLost) r = (r.stage.phase ≡ Dead) × IsCut r
LeftBy (Some cell.Held) r = Unit {0}
LeftBy (Some (cell.Only map)) r = Unit {0}

left_by : (result : Result (Unit {0}) CellFault) (old new : RegionSeen) → LeavesPhase result new.stage.phase → CallHasCause Clear old new result → ClearLeaves old.stage new.stage result → StandsAt new.stage.phase → LeftBy (stop_of result) new
left_by (Ok u) old new phase cause marks at = (phase, marks.2)
left_by (Err (cell.Fault place)) old new (inl settled) cause marks at = settled
left_by (Err (cell.Fault place)) old new (inr unsettled) cause marks at = absurd (subst StandsAt unsettled at)
left_by (Err cell.PowerLost) old new phase cause marks at = (phase, cause)
left_by (Err cell.Held) old new phase cause marks at = tt
left_by (Err (cell.Only map)) old new phase cause marks at = tt

module _ (stop : Option CellFault) (old new : RegionSeen) (settled : old.stage.phase ≡ Settled) (clears : IsClearedAt stop old new) where
  alive : old.stage.phase ≡ Dead → ⊥
  alive dead = apart (sym settled ∙ dead)
    where
      apart : Settled ≡ Dead → ⊥
      apart e = cc

  clearing : Clearing old.stage (new.stage, (clears.ends.ended.ended alive).calls.act)
  clearing =
      let called = (clears.ends.ended.ended alive).calls.calls in
      subst (λ (x : Stage × Act). Clearing old.stage x) called.comes (all old.stage (next_of old.stage (Begin Clear)) called.events (begins old.stage settled) called.answers)

  pub clear_marks : (k : ℕ) → k ≢ 30 → has new.stage.bits k ≡ has old.stage.bits k
  clear_marks = clearing.marks

  pub clear_left : LeftBy stop new
  clear_left =
      let end = clears.ends.ended.ended alive in
      subst (λ (s : Option CellFault). LeftBy s new) (sym clears.stopped) (left_by clears.result old new end.phase end.cause clears.marks clearing.at)
