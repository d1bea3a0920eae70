-- A pass that settles takes no mark away.
use Rattle.std.proofs.Common.{◌≡◌, inl, inr, ℕ, zero, suc, ◌<◌, ◌≤◌, Bool, true, false, cond, refl, sym, ap, ◌∙◌, subst, arith, List, [], ◌∷◌, length, Option, None}
use Rattle.std.specs.Prelude.{◌==◌}
use Rattle.std.proofs.lemmas.Bool.{cases_eq}
use Rattle.vx_mask.specs.Mask.{above_lowest, has, lowest, only, union, without}
use Rattle.vx_mask.proofs.Sets.{in_union}
use Rattle.vx_core.specs.declared.stage.Act.{Act}
use Rattle.vx_core.specs.declared.stage.Act.TheVariants.{Mark, Unmark, WriteCall, WriteRegion, ReadCall, ReadRegion, Done, Skipped, Fault, Lost}
use Rattle.vx_core.specs.declared.stage.Event.{Event}
use Rattle.vx_core.specs.declared.stage.Event.TheVariants.{Begin, Marked, MarkFailed, Wrote, WriteFailed, Got, ReadFailed, Cut}
use Rattle.vx_core.specs.declared.stage.Job.{Job}
use Rattle.vx_core.specs.declared.stage.Job.TheVariants.{Settle}
use Rattle.vx_core.specs.declared.stage.Phase.{Phase}
use Rattle.vx_core.specs.declared.stage.Phase.TheVariants.{Settled, Unsettled, Dead, Busy}
use Rattle.vx_core.specs.declared.stage.Stage.{Stage}
use Rattle.vx_core.specs.declared.stage.Step.{Step}
use Rattle.vx_core.specs.declared.stage.Step.TheVariants.{MarkFailed as AtMarkFailed, Find as AtFind, Equal as AtEqual}
use Rattle.vx_core.specs.declared.stage.Work.{Work}
use Rattle.vx_core.specs.Region.{MayAnswer}
use Rattle.vx_core.specs.Schedule.{IsIdle}
use Rattle.vx_core.specs.Table.{answered, begun, busy, current, ended, goes_on, level, marked_failed, next_of, read_from, settle, start}
use Rattle.vx_cell.specs.declared.fault.CellFault.{CellFault}
use Rattle.vx_cell.specs.Changes.{CellSeen}
use Rattle.vx_cell.specs.Region.{RegionSeen}
use Rattle.vx_cell.specs.Running.{AreAnswers, answered_by}
use Rattle.vx_volume.specs.Loop.{AreDone}
use Rattle.vx_volume.specs.Passes.{IsSettledAt, Settles}
use Rattle.vx_volume.specs.Volume.{IsVolume, VolumeSeen, cell_at, region_at}
use Rattle.vx_healed_regions.proofs.Healings.{dead_or_not}

-- ---- the stages that a settling goes through

-- each mark of the one is one of the other
abbrev pub More : Stage → Stage → Type 0
More s t = (k : ℕ) → has s.bits k ≡ true → has t.bits k ≡ true

abbrev IsSettling : Step → Type 0
IsSettling AtFind = Unit {0}
IsSettling AtEqual = Unit {0}
IsSettling AtMarkFailed = Unit {0}
IsSettling step = ⊥

abbrev StandsAt : Phase → Type 0
StandsAt (Busy w) = (w.job ≡ Settle) × IsSettling w.step
StandsAt phase = Unit {0}

-- it settles, or has ended, and the marks of the first stage are there
record Settling (s0 : Stage) (x : Stage × Act) : Type 0 where
  at : StandsAt x.0.phase
  marks : More s0 x.0

either : (s0 : Stage) (b : Bool) (x y : Stage × Act) → Settling s0 x → Settling s0 y → Settling s0 (cond b x y)
either s0 true x y here there = here
either s0 false x y here there = there

started : (s0 s : Stage) (job : Job) → job ≡ Settle → More s0 s → Settling s0 (start s job)
started s0 s job is more = subst (λ (j : Job). Settling s0 (start s j)) (sym is) (record { at = tt; marks = more })

settles : (s0 s : Stage) (job : Job) (left : ℕ) → job ≡ Settle → More s0 s → Settling s0 (settle s job left)
settles s0 s job left is more = either s0 (left == 0) (ended s Unsettled Fault) (busy s (read_from job AtFind left)) (record { at = tt; marks = more }) (record { at = (is, tt); marks = more })

levels : (s0 s : Stage) (w : Work) → w.job ≡ Settle → IsSettling w.step → More s0 s → Settling s0 (level s w)
levels s0 s w is stands more =
    either s0 (w.left == 0) (cond (w.failed == 0) (start (record s { phase = Settled }) w.job) (busy s (record w { step = AtMarkFailed }))) (busy s w)
    (either s0 (w.failed == 0) (start (record s { phase = Settled }) w.job) (busy s (record w { step = AtMarkFailed })) (started s0 (record s { phase = Settled }) w.job is more) (record { at = (is, tt); marks = more }))
    (record { at = (is, stands); marks = more })

marks_failed : (s0 s : Stage) (w : Work) → w.job ≡ Settle → More s0 s → Settling s0 (marked_failed s w)
marks_failed s0 s w is more = either s0 (w.good == 0) (start (record s { phase = Settled }) w.job) (ended s Settled Done) (started s0 (record s { phase = Settled }) w.job is more) (record { at = tt; marks = more })

answers : (s0 s : Stage) (w : Work) (step : Step) (event : Event) → step ≡ w.step → w.job ≡ Settle → IsSettling step → More s0 s → Settling s0 (answered s w step event)
answers s0 s w AtFind Got e is at more = levels s0 s (record w { step = AtEqual; left = without (current s) (only w.source) }) is tt more
answers s0 s w AtFind (ReadFailed plex) e is at more = settles s0 s w.job w.left is more
answers s0 s w AtFind event e is at more = record { at = (is, subst IsSettling e tt); marks = more }
answers s0 s w AtEqual Wrote e is at more = levels s0 s (record w { left = above_lowest w.left }) is (subst IsSettling e tt) more
answers s0 s w AtEqual WriteFailed e is at more = levels s0 s (record w { left = above_lowest w.left; failed = union w.failed (only (lowest w.left)) }) is (subst IsSettling e tt) more
answers s0 s w AtEqual event e is at more = record { at = (is, subst IsSettling e tt); marks = more }
answers s0 s w AtMarkFailed Marked e is at more = marks_failed s0 (record s { bits = union s.bits w.failed }) w is (λ k there. in_union s.bits w.failed k (inl (more k there)))
answers s0 s w AtMarkFailed MarkFailed e is at more = record { at = tt; marks = more }
answers s0 s w AtMarkFailed event e is at more = record { at = (is, subst IsSettling e tt); marks = more }
answers s0 s w step event e is at more = absurd at

-- no answer begins a job
no_begin : (act : Act) (job : Job) → MayAnswer act (Begin job) → ⊥
no_begin (Mark b) job h = h
no_begin (Unmark b) job h = h
no_begin (WriteCall k) job h = h
no_begin (WriteRegion k) job h = h
no_begin (ReadCall k) job h = h
no_begin (ReadRegion k) job h = h
no_begin Done job h = h
no_begin Skipped job h = h
no_begin Fault job h = h
no_begin Lost job h = h

goes : (s0 s : Stage) (phase : Phase) (event : Event) → StandsAt phase → More s0 s → Settling s0 (goes_on s phase event)
goes s0 s (Busy w) event at more = answers s0 s w w.step event refl at.0 at.1 more
goes s0 s Settled event at more = record { at = tt; marks = more }
goes s0 s Unsettled event at more = record { at = tt; marks = more }
goes s0 s Dead event at more = record { at = tt; marks = more }

next : (s0 : Stage) (x : Stage × Act) (event : Event) → Settling s0 x → MayAnswer x.1 event → Settling s0 (next_of x.0 event)
next s0 x (Begin job) h may = absurd (no_begin x.1 job may)
next s0 x Cut h may = record { at = tt; marks = h.marks }
next s0 x event h may = goes s0 x.0 x.0.phase event h.at h.marks

all : (s0 : Stage) (x : Stage × Act) (events : List Event) → Settling s0 x → AreAnswers x events → Settling s0 (answered_by x events)
all s0 x [] h may = h
all s0 x (event ∷ events) h may = all s0 (next_of x.0 event) events (next s0 x event h may.0) may.1

begins : (s0 : Stage) (phase : Phase) → IsIdle phase → Settling s0 (begun s0 phase Settle)
begins s0 Settled idle = record { at = tt; marks = λ k there. there }
begins s0 Unsettled idle = settles s0 s0 Settle (current s0) refl (λ k there. there)
begins s0 Dead idle = record { at = tt; marks = λ k there. there }
begins s0 (Busy w) idle = absurd idle

-- ---- a region

settle_more : (stop : Option CellFault) (old new : RegionSeen) → IsSettledAt stop old new → IsIdle old.stage.phase → More old.stage new.stage
settle_more stop old new is idle = elim (dead_or_not old.stage.phase) [
  | inl dead ↦ λ k there. subst (λ (r : RegionSeen). has r.stage.bits k ≡ true) (sym (is.ends.ended.dead dead).same) there
  | inr alive ↦
      let last = (is.ends.ended.ended alive).calls in
      let called = last.calls in
      (subst (λ (x : Stage × Act). Settling old.stage x) called.comes (all old.stage (next_of old.stage (Begin Settle)) called.events (begins old.stage old.stage.phase idle) called.answers)).marks
]

-- ---- all regions

settles_later : (n : ℕ) (old new : VolumeSeen) → AreDone Settles n old new → (r : ℕ) → n ≤ r → cell_at new r ≡ cell_at old r
settles_later zero old new done r le = ap (λ (v : VolumeSeen). cell_at v r) done
settles_later (suc n) old new (mid, done, last) r le = last.others r (λ e. absurd (omega (arith, e, le))) ∙ settles_later n old mid done r (omega (arith, le))

pub settles_more : (n : ℕ) (old new : VolumeSeen) → IsVolume old → AreDone Settles n old new → (r : ℕ) → r < length old.cells → More (cell_at old r).stage (cell_at new r).stage
settles_more zero old new volume done r lt = λ k there. subst (λ (v : VolumeSeen). has (cell_at v r).stage.bits k ≡ true) (sym done) there
settles_more (suc n) old new volume (mid, done, last) r lt = elim (cases_eq r n) [
  | inl is ↦
      let same : cell_at mid r ≡ cell_at old r = settles_later n old mid done r (omega (arith, is)) in
      let here : More (cell_at mid r).stage (cell_at new r).stage =
      subst (λ (i : ℕ). IsIdle (cell_at mid i).stage.phase → More (cell_at mid i).stage (cell_at new i).stage) (sym is) (settle_more None (region_at mid n) (region_at new n) last.goes) (subst (λ (x : CellSeen). IsIdle x.stage.phase) (sym same) (volume.each r lt).idle) in
      λ k there. here k (subst (λ (x : CellSeen). has x.stage.bits k ≡ true) (sym same) there)
  | inr apart ↦
      let before = settles_more n old mid volume done r lt in
      λ k there. subst (λ (x : CellSeen). has x.stage.bits k ≡ true) (sym (last.others r apart)) (before k there)
]
