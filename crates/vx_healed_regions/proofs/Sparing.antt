-- What a course without calls leaves of a plex: where it is off, or its region is settled and it is unmarked, it holds what it held.
use Rattle.std.proofs.Common.{◌≡◌, ◌≢◌, ◌⊎◌, inl, inr, ℕ, ◌<◌, ◌≤◌, ◌^◌, Bool, true, false, refl, sym, ◌∙◌, ap, subst, arith, List, [], ◌∷◌}
use Rattle.std.specs.Prelude.{◌==◌, ◌||◌}
use Rattle.vx_base.specs.Blocks.{Contents}
use Rattle.vx_life.specs.Entry.{Entry}
use Rattle.vx_mask.specs.Mask.{has, lowest}
use Rattle.vx_mask.proofs.MaskLemmas.{has-lowest}
use Rattle.vx_mask.proofs.Sets.{without_parts}
use Rattle.vx_mask.proofs.Tests.{not_both, true_or_false, or_from_left}
use Rattle.vx_core.specs.declared.stage.Act.{Act}
use Rattle.vx_core.specs.declared.stage.Act.TheVariants.{Mark, Unmark, WriteCall, WriteRegion}
use Rattle.vx_core.specs.declared.stage.Event.{Event}
use Rattle.vx_core.specs.declared.stage.Event.TheVariants.{Begin, Marked, MarkFailed, Unmarked, UnmarkFailed, Wrote, WriteFailed, Got, ReadFailed, Cut}
use Rattle.vx_core.specs.declared.stage.Job.{Job}
use Rattle.vx_core.specs.declared.stage.Job.TheVariants.{Read as ReadJob, Write as WriteJob, Copy as CopyJob, Settle, Clear}
use Rattle.vx_core.specs.declared.stage.Phase.{Phase}
use Rattle.vx_core.specs.declared.stage.Phase.TheVariants.{Settled, Unsettled, Dead, Busy}
use Rattle.vx_core.specs.declared.stage.Stage.{Stage}
use Rattle.vx_core.specs.declared.stage.Step.{Step}
use Rattle.vx_core.specs.declared.stage.Step.TheVariants.{Mark as AtMark, Write as AtWrite, MarkFailed as AtMarkFailed, Find as AtFind, Equal as AtEqual, Copy as AtCopy, Unmark as AtUnmark, Read as AtRead}
use Rattle.vx_core.specs.declared.stage.Work.{Work}
use Rattle.vx_core.specs.Follow.{FollowsFrom, FollowsIn}
use Rattle.vx_core.specs.Form.{FormAt, IsFormed, MayCome}
use Rattle.vx_core.specs.History.{MayBegin, NoCall, Pending, Reads, Writes, number_after}
use Rattle.vx_core.specs.Recovery.{region_after}
use Rattle.vx_core.specs.Region.{Around, Becomes, CallOf, Disks, FitsIn, GoesWell, GoesWrong, RegionState, last_at}
use Rattle.vx_core.specs.Schedule.{Comes, Elsewhere, Fits, Happening, happens}
use Rattle.vx_core.specs.Table.{act_at, answered, begun, goes_on, next_of, read_act, target_of}
use Rattle.vx_core.proofs.FollowLaws.{follows}
use Rattle.vx_core.proofs.FormLaws.{forms}
use Rattle.vx_core.proofs.Keeps.{NotBegin}
use Rattle.vx_core.proofs.Walk.{NotCut}
use Rattle.vx_core_laws.specs.Course.{EachFits}
use Rattle.vx_core_laws.proofs.Goes.{GoesFrom, goes_begun, goes_busy, in_none, job_of, marked_by, marked_in, settling, settling_at}

-- ---- what an answer does to the blocks of a plex

-- the act writes nothing to plex k
abbrev Spares : ℕ → Act → Type 0
Spares k (WriteCall j) = k ≢ j
Spares k (WriteRegion j) = k ≢ j
Spares k act = Unit {0}

module _ (k i : ℕ) (call : Pending) (source : ℕ) where
  well_spares : (act : Act) (old now : Disks) → Spares k act → GoesWell call source act old now → now.blocks k i ≡ old.blocks k i
  well_spares (Mark b) old now spares well = ap (λ (f : ℕ → Contents). f k i) well.0
  well_spares (Unmark b) old now spares well = ap (λ (f : ℕ → Contents). f k i) well.0
  well_spares (WriteCall j) old now spares well = well.0.others k i spares
  well_spares (WriteRegion j) old now spares well = well.0.others k i spares
  well_spares act old now spares well = ap (λ (d : Disks). d.blocks k i) well

  wrong_spares : (act : Act) (old now : Disks) → Spares k act → GoesWrong call source act old now → now.blocks k i ≡ old.blocks k i
  wrong_spares (Mark b) old now spares wrong = ap (λ (f : ℕ → Contents). f k i) wrong.0
  wrong_spares (Unmark b) old now spares wrong = ap (λ (f : ℕ → Contents). f k i) wrong.0
  wrong_spares (WriteCall j) old now spares wrong = wrong.0.others k i spares
  wrong_spares (WriteRegion j) old now spares wrong = wrong.0.others k i spares
  wrong_spares act old now spares wrong = ap (λ (d : Disks). d.blocks k i) wrong

  becomes_spares : (event : Event) (act : Act) (old now : Disks) → Spares k act → Becomes event call source act old now → now.blocks k i ≡ old.blocks k i
  becomes_spares (Begin job) act old now spares becomes = absurd becomes
  becomes_spares Marked act old now spares becomes = well_spares act old now spares becomes
  becomes_spares MarkFailed act old now spares becomes = wrong_spares act old now spares becomes
  becomes_spares Unmarked act old now spares becomes = well_spares act old now spares becomes
  becomes_spares UnmarkFailed act old now spares becomes = wrong_spares act old now spares becomes
  becomes_spares Wrote act old now spares becomes = well_spares act old now spares becomes
  becomes_spares WriteFailed act old now spares becomes = wrong_spares act old now spares becomes
  becomes_spares Got act old now spares becomes = well_spares act old now spares becomes
  becomes_spares (ReadFailed j) act old now spares becomes = wrong_spares act old now spares becomes
  becomes_spares Cut act old now spares becomes = wrong_spares act old now spares becomes

-- ---- when a plex is safe

-- nothing settles, and no call is written
abbrev pub IsCalm : Phase → Type 0
IsCalm Settled = Unit {0}
IsCalm Unsettled = ⊥
IsCalm Dead = Unit {0}
IsCalm (Busy w) = (settling_at w w.step ≡ false) × (w.job ≡ WriteJob → ⊥)

-- the plex is off, or it is unmarked and its region is settled
abbrev pub IsSafe : ℕ → Stage → Phase → Type 0
IsSafe k s phase = (has s.on k ≡ false) ⊎ (IsCalm phase × (has s.bits k ≡ false))

calm_quiet : (phase : Phase) → IsCalm phase → settling phase ≡ false
calm_quiet Settled calm = refl
calm_quiet Unsettled calm = absurd calm
calm_quiet Dead calm = refl
calm_quiet (Busy w) calm = calm.0

-- a plex that has the bit is not one that lacks it
apart : (mask j k : ℕ) → has mask j ≡ true → has mask k ≡ false → k ≢ j
apart mask j k there none same = not_both (subst (λ (m : ℕ). has mask m ≡ true) (sym same) there) none

read_spares : (k : ℕ) (w : Work) (job : Job) → Spares k (read_act w job)
read_spares k w ReadJob = tt
read_spares k w WriteJob = tt
read_spares k w (CopyJob j) = tt
read_spares k w Settle = tt
read_spares k w Clear = tt

module _ (k : ℕ) (s : Stage) (w : Work) (low : w.left < 2 ^ 64) where
  off_at : (step : Step) (job : Job) → w.job ≡ job → FormAt s w step job → has s.on k ≡ false → Spares k (act_at s w step)
  off_at AtMark job is form off = tt
  off_at AtWrite WriteJob is form off =
      apart s.on (lowest w.left) k
      (without_parts s.on s.bits (lowest w.left) (form.0.each (lowest w.left) ∙ or_from_left (has w.left (lowest w.left)) (has w.good (lowest w.left) || has w.failed (lowest w.left)) (has-lowest w.left form.1 low))).0
      off
  off_at AtWrite job is form off = absurd form
  off_at AtMarkFailed job is form off = tt
  off_at AtFind job is form off = tt
  off_at AtEqual job is form off = apart s.on (lowest w.left) k (without_parts s.on s.bits (lowest w.left) (form.0.left_current (lowest w.left) (has-lowest w.left form.2 low))).0 off
  off_at AtCopy (CopyJob j) is form off = subst (λ (job : Job). k ≢ target_of job) (sym is) (apart s.on j k form.1 off)
  off_at AtCopy job is form off = absurd form
  off_at AtUnmark job is form off = tt
  off_at AtRead job is form off = read_spares k w w.job

  calm_at : (step : Step) (job : Job) → w.job ≡ job → FormAt s w step job → settling_at w step ≡ false → (job ≡ WriteJob → ⊥) → has s.bits k ≡ false → Spares k (act_at s w step)
  calm_at AtMark job is form quiet plain clear = tt
  calm_at AtWrite WriteJob is form quiet plain clear = absurd (plain refl)
  calm_at AtWrite job is form quiet plain clear = absurd form
  calm_at AtMarkFailed job is form quiet plain clear = tt
  calm_at AtFind job is form quiet plain clear = tt
  calm_at AtEqual job is form quiet plain clear = not_both refl quiet
  calm_at AtCopy (CopyJob j) is form quiet plain clear = subst (λ (job : Job). k ≢ target_of job) (sym is) (apart s.bits j k form.2 clear)
  calm_at AtCopy job is form quiet plain clear = absurd form
  calm_at AtUnmark job is form quiet plain clear = tt
  calm_at AtRead job is form quiet plain clear = read_spares k w w.job

safe_act : (k : ℕ) (s : Stage) (w : Work) (held : ℕ → Bool) → IsFormed s (Busy w) held → IsSafe k s (Busy w) → Spares k (act_at s w w.step)
safe_act k s w held formed (inl off) = off_at k s w formed.step.0 w.step w.job refl formed.step.3 off
safe_act k s w held formed (inr (calm, clear)) = calm_at k s w formed.step.0 w.step w.job refl formed.step.3 calm.0 calm.1 clear

-- what happens leaves its blocks
step_blocks : (k i : ℕ) (s : Stage) (phase : Phase) (a : Around) (event : Event) (now : Disks) (call : Pending) (values : Contents) → IsFormed s phase a.fixed.held → FitsIn s phase a event now call values → IsSafe k s phase →
    now.blocks k i ≡ a.disks.blocks k i
step_blocks k i s (Busy w) a event now call values formed fits safe = becomes_spares k i a.pending w.source event (act_at s w w.step) a.disks now (safe_act k s w a.fixed.held formed safe) fits.0.1
step_blocks k i s Settled a (Begin job) now call values formed fits safe = ap (λ (d : Disks). d.blocks k i) fits.0
step_blocks k i s Unsettled a (Begin job) now call values formed fits safe = ap (λ (d : Disks). d.blocks k i) fits.0
step_blocks k i s Dead a (Begin job) now call values formed fits safe = ap (λ (d : Disks). d.blocks k i) fits.0
step_blocks k i s Settled a Cut now call values formed fits safe = ap (λ (d : Disks). d.blocks k i) fits
step_blocks k i s Unsettled a Cut now call values formed fits safe = ap (λ (d : Disks). d.blocks k i) fits
step_blocks k i s Dead a Cut now call values formed fits safe = ap (λ (d : Disks). d.blocks k i) fits
step_blocks k i s phase a event now call values formed fits safe = absurd fits

-- ---- it stays safe

-- a region that is calm writes no mark
no_mark : (s : Stage) (w : Work) (step : Step) (job : Job) → FormAt s w step job → settling_at w step ≡ false → (job ≡ WriteJob → ⊥) → (k : ℕ) → has (marked_by (act_at s w step)) k ≡ true → ⊥
no_mark s w AtMark WriteJob form quiet plain k there = plain refl
no_mark s w AtMark job form quiet plain k there = absurd form
no_mark s w AtMarkFailed job (inl level) quiet plain k there = not_both (ap (λ (n : ℕ). n == 0) level.1) quiet
no_mark s w AtMarkFailed job (inr write) quiet plain k there = plain write.4
no_mark s w AtWrite job form quiet plain k there = in_none k there
no_mark s w AtFind job form quiet plain k there = in_none k there
no_mark s w AtEqual job form quiet plain k there = in_none k there
no_mark s w AtCopy job form quiet plain k there = in_none k there
no_mark s w AtUnmark job form quiet plain k there = in_none k there
no_mark s w AtRead job form quiet plain k there = in_none k (subst (λ (n : ℕ). has n k ≡ true) (by w.job) there)
  where
    by : (job : Job) → marked_by (read_act w job) ≡ 0
    by ReadJob = refl
    by WriteJob = refl
    by (CopyJob j) = refl
    by Settle = refl
    by Clear = refl

none_marked : (s : Stage) (phase : Phase) (held : ℕ → Bool) → IsFormed s phase held → IsCalm phase → (k : ℕ) → has (marked_in s phase) k ≡ true → ⊥
none_marked s (Busy w) held formed calm k there = no_mark s w w.step w.job formed.step.3 calm.0 calm.1 k there
none_marked s Settled held formed calm k there = in_none k there
none_marked s Unsettled held formed calm k there = absurd calm
none_marked s Dead held formed calm k there = in_none k there

-- the job stays the one that it is
job_in : (job : Job) (was : Step) (event : Event) (source : ℕ) (act : Act) (phase : Phase) → FollowsIn job was event source act phase → (w : Work) → phase ≡ Busy w → w.job ≡ job
job_in job was event source act (Busy v) follows w is = let same : v ≡ w = cc in sym (ap (λ (x : Work). x.job) same) ∙ follows.same_job
job_in job was event source act Settled follows w is = cc
job_in job was event source act Unsettled follows w is = cc
job_in job was event source act Dead follows w is = cc

-- where nothing settles and no call is written, the next phase is so too, and no mark comes
calm_on : (k : ℕ) (s : Stage) (phase : Phase) (event : Event) (x : Stage × Act) (held : ℕ → Bool) → IsFormed s phase held → GoesFrom s phase event x → ((w : Work) → x.0.phase ≡ Busy w → w.job ≡ job_of phase event) →
    (job_of phase event ≡ WriteJob → ⊥) → IsCalm phase → has s.bits k ≡ false → IsCalm x.0.phase × (has x.0.bits k ≡ false)
calm_on k s phase event x held formed goes same plain calm clear = (by x.0.phase refl, bits)
  where
    settles_not : settling x.0.phase ≡ true → ⊥
    settles_not settles = elim (goes.settles settles) [ inl was ↦ not_both was (calm_quiet phase calm) | inr write ↦ plain write.1 ]

    by : (next : Phase) → x.0.phase ≡ next → IsCalm next
    by Settled is = tt
    by Unsettled is = settles_not (ap settling is)
    by Dead is = tt
    by (Busy w) is = (
      elim (true_or_false (settling_at w w.step)) [ inl settles ↦ absurd (settles_not (ap settling is ∙ settles)) | inr quiet ↦ quiet ],
      λ write. plain (sym (same w is) ∙ write),
    )

    bits : has x.0.bits k ≡ false
    bits = elim (true_or_false (has x.0.bits k)) [
      | inl there ↦ elim (goes.bits k there) [ inl was ↦ not_both was clear | inr marked ↦ absurd (none_marked s phase held formed calm k marked) ]
      | inr none ↦ none
    ]

-- a job without a call writes none
plain_job : (job : Job) (call : Pending) → CallOf job call → call ≡ NoCall → job ≡ WriteJob → ⊥
plain_job WriteJob NoCall of none is = of
plain_job WriteJob (Reads call) of none is = of
plain_job WriteJob (Writes call values) of none is = cc
plain_job ReadJob call of none is = cc
plain_job (CopyJob j) call of none is = cc
plain_job Settle call of none is = cc
plain_job Clear call of none is = cc

begun_safe : (k : ℕ) (s : Stage) (phase : Phase) (a : Around) (job : Job) (now : Disks) (call : Pending) (values : Contents) → IsFormed s phase a.fixed.held → FitsIn s phase a (Begin job) now call values →
    FollowsFrom s phase (Begin job) (begun s phase job) → call ≡ NoCall → IsSafe k s phase → IsSafe k (begun s phase job).0 (begun s phase job).0.phase
begun_safe k s (Busy w) a job now call values formed fits follow none safe = absurd fits.0.1
begun_safe k s Settled a job now call values formed fits follow none (inl off) = inl (ap (λ (m : ℕ). has m k) follow.1.0 ∙ off)
begun_safe k s Settled a job now call values formed fits follow none (inr (calm, clear)) =
    inr (calm_on k s Settled (Begin job) (begun s Settled job) a.fixed.held formed (goes_begun s Settled job a.fixed.held formed.stage tt) (job_in job AtMark (Begin job) 0 (begun s Settled job).1 (begun s Settled job).0.phase follow.0) (plain_job job call fits.1 none) calm clear)
begun_safe k s Unsettled a job now call values formed fits follow none (inl off) = inl (ap (λ (m : ℕ). has m k) follow.1.0 ∙ off)
begun_safe k s Unsettled a job now call values formed fits follow none (inr (calm, clear)) = absurd calm
begun_safe k s Dead a job now call values formed fits follow none (inl off) = inl off
begun_safe k s Dead a job now call values formed fits follow none (inr (calm, clear)) = inr (tt, clear)

answer_safe : (k : ℕ) (s : Stage) (phase : Phase) (a : Around) (event : Event) (now : Disks) (call : Pending) (values : Contents) → NotCut event → NotBegin event → IsFormed s phase a.fixed.held → FitsIn s phase a event now call values →
    FollowsFrom s phase event (goes_on s phase event) → IsSafe k s phase → IsSafe k (goes_on s phase event).0 (goes_on s phase event).0.phase
answer_safe k s (Busy w) a event now call values here there formed fits follow (inl off) = inl (ap (λ (m : ℕ). has m k) (follow a.fixed.held formed fits.0.0).1.0 ∙ off)
answer_safe k s (Busy w) a event now call values here there formed fits follow (inr (calm, clear)) =
    inr (calm_on k s (Busy w) event (answered s w w.step event) a.fixed.held formed (goes_busy s w event a.fixed.held formed here fits.0.0)
    (job_in w.job w.step event w.source (answered s w w.step event).1 (answered s w w.step event).0.phase (follow a.fixed.held formed fits.0.0).0) calm.1 calm clear)
answer_safe k s Settled a (Begin job) now call values here there formed fits follow safe = absurd there
answer_safe k s Unsettled a (Begin job) now call values here there formed fits follow safe = absurd there
answer_safe k s Dead a (Begin job) now call values here there formed fits follow safe = absurd there
answer_safe k s Settled a Cut now call values here there formed fits follow safe = absurd here
answer_safe k s Unsettled a Cut now call values here there formed fits follow safe = absurd here
answer_safe k s Dead a Cut now call values here there formed fits follow safe = absurd here
answer_safe k s phase a event now call values here there formed fits follow safe = absurd fits

-- an event that begins a job begins no call
abbrev BeginsNone : Event → Pending → Type 0
BeginsNone (Begin job) call = call ≡ NoCall
BeginsNone event call = Unit {0}

step_safe : (k : ℕ) (s : Stage) (a : Around) (event : Event) (now : Disks) (call : Pending) (values : Contents) → IsFormed s s.phase a.fixed.held → FitsIn s s.phase a event now call values → BeginsNone event call →
    IsSafe k s s.phase → IsSafe k (next_of s event).0 (next_of s event).0.phase
step_safe k s a (Begin job) now call values formed fits none safe = begun_safe k s s.phase a job now call values formed fits (follows s (Begin job)) none safe
step_safe k s a Cut now call values formed fits none (inl off) = inl off
step_safe k s a Cut now call values formed fits none (inr (calm, clear)) = inr (tt, clear)
step_safe k s a Marked now call values formed fits none safe = answer_safe k s s.phase a Marked now call values tt tt formed fits (follows s Marked) safe
step_safe k s a MarkFailed now call values formed fits none safe = answer_safe k s s.phase a MarkFailed now call values tt tt formed fits (follows s MarkFailed) safe
step_safe k s a Unmarked now call values formed fits none safe = answer_safe k s s.phase a Unmarked now call values tt tt formed fits (follows s Unmarked) safe
step_safe k s a UnmarkFailed now call values formed fits none safe = answer_safe k s s.phase a UnmarkFailed now call values tt tt formed fits (follows s UnmarkFailed) safe
step_safe k s a Wrote now call values formed fits none safe = answer_safe k s s.phase a Wrote now call values tt tt formed fits (follows s Wrote) safe
step_safe k s a WriteFailed now call values formed fits none safe = answer_safe k s s.phase a WriteFailed now call values tt tt formed fits (follows s WriteFailed) safe
step_safe k s a Got now call values formed fits none safe = answer_safe k s s.phase a Got now call values tt tt formed fits (follows s Got) safe
step_safe k s a (ReadFailed j) now call values formed fits none safe = answer_safe k s s.phase a (ReadFailed j) now call values tt tt formed fits (follows s (ReadFailed j)) safe

-- ---- the form

-- the event may come, or a job begins where the power is gone
may_come : (s : Stage) (phase : Phase) (a : Around) (event : Event) (now : Disks) (call : Pending) (values : Contents) → FitsIn s phase a event now call values → MayCome s phase event ⊎ ((phase ≡ Dead) × (job : Job) × (event ≡ Begin job))
may_come s (Busy w) a event now call values fits = inl fits.0.0
may_come s Settled a (Begin job) now call values fits = inl tt
may_come s Unsettled a (Begin job) now call values fits = inl tt
may_come s Dead a (Begin job) now call values fits = inr (refl, job, refl)
may_come s Settled a Cut now call values fits = inl tt
may_come s Unsettled a Cut now call values fits = inl tt
may_come s Dead a Cut now call values fits = inl tt
may_come s phase a event now call values fits = absurd fits

step_form : (s : Stage) (a : Around) (event : Event) (now : Disks) (call : Pending) (values : Contents) → IsFormed s s.phase a.fixed.held → FitsIn s s.phase a event now call values →
    IsFormed (next_of s event).0 (next_of s event).0.phase a.fixed.held
step_form s a event now call values formed fits = elim (may_come s s.phase a event now call values fits) [
  | inl may ↦ forms s event a.fixed.held formed may
  | inr (dead, job, is) ↦
      subst (λ (e : Event). IsFormed (next_of s e).0 (next_of s e).0.phase a.fixed.held) (sym is)
      (subst (λ (p : Phase). IsFormed (begun s p job).0 (begun s p job).0.phase a.fixed.held) (sym dead) (record { stage = formed.stage; readable = (formed.readable.0, formed.readable.1, formed.readable.2, refl); step = tt; marked = tt }))
]

-- ---- a course

number_grows : (region last : ℕ) (entries : List Entry) (call : Pending) → MayBegin region last entries call → last ≤ number_after call last
number_grows region last entries NoCall may = omega arith
number_grows region last entries (Reads call) may = let e = may.number in omega (arith, e)
number_grows region last entries (Writes call values) may = let e = may.number in omega (arith, e)

no_number : (region last : ℕ) (entries : List Entry) (call : Pending) → MayBegin region last entries call → number_after call last ≤ last → call ≡ NoCall
no_number region last entries NoCall may low = refl
no_number region last entries (Reads call) may low = let e = may.number in absurd (omega (arith, e, low))
no_number region last entries (Writes call values) may low = let e = may.number in absurd (omega (arith, e, low))

-- what is begun may begin
fits_begun : (s : Stage) (phase : Phase) (a : Around) (job : Job) (now : Disks) (call : Pending) (values : Contents) → FitsIn s phase a (Begin job) now call values → MayBegin a.fixed.region a.last a.entries call
fits_begun s (Busy w) a job now call values fits = absurd fits.0.1
fits_begun s Settled a job now call values fits = fits.2
fits_begun s Unsettled a job now call values fits = fits.2
fits_begun s Dead a job now call values fits = subst (λ (c : Pending). MayBegin a.fixed.region a.last a.entries c) (sym fits.1) tt

last_grows : (s : Stage) (phase : Phase) (a : Around) (event : Event) (now : Disks) (call : Pending) (values : Contents) → FitsIn s phase a event now call values → a.last ≤ last_at a.last event call
last_grows s phase a (Begin job) now call values fits = number_grows a.fixed.region a.last a.entries call (fits_begun s phase a job now call values fits)
last_grows s phase a event now call values fits = omega arith

begins_none : (s : Stage) (phase : Phase) (a : Around) (event : Event) (now : Disks) (call : Pending) (values : Contents) → FitsIn s phase a event now call values → last_at a.last event call ≤ a.last → BeginsNone event call
begins_none s phase a (Begin job) now call values fits low = no_number a.fixed.region a.last a.entries call (fits_begun s phase a job now call values fits) low
begins_none s phase a event now call values fits low = tt

step_grows : (r : RegionState) (h : Happening) → Fits r h → r.around.last ≤ (happens r h).around.last
step_grows r (Comes event now call values) fits = last_grows r.stage r.stage.phase r.around event now call values fits
step_grows r (Elsewhere marks) fits = omega arith

course_grows : (course : List Happening) (r : RegionState) → EachFits course r → r.around.last ≤ (region_after course r).around.last
course_grows [] r fits = omega arith
course_grows (h ∷ hs) r fits =
    let first = step_grows r h fits.0 in
    let rest = course_grows hs (happens r h) fits.1 in
    omega (arith, first, rest)

-- In a course in which no number is drawn a safe plex keeps its blocks.
pub course_spares : (k i : ℕ) (course : List Happening) (r : RegionState) → IsFormed r.stage r.stage.phase r.around.fixed.held → EachFits course r → (region_after course r).around.last ≤ r.around.last → IsSafe k r.stage r.stage.phase →
    (region_after course r).around.disks.blocks k i ≡ r.around.disks.blocks k i
course_spares k i [] r formed fits low safe = refl
course_spares k i (Elsewhere marks ∷ hs) r formed fits low safe = course_spares k i hs (happens r (Elsewhere marks)) formed fits.1 low safe
course_spares k i (Comes event now call values ∷ hs) r formed fits low safe =
    let h : Happening = Comes event now call values in
    let first = step_grows r h fits.0 in
    let rest = course_grows hs (happens r h) fits.1 in
    let few : last_at r.around.last event call ≤ r.around.last = omega (arith, rest, low) in
    let none = begins_none r.stage r.stage.phase r.around event now call values fits.0 few in
    course_spares k i hs (happens r h) (step_form r.stage r.around event now call values formed fits.0) fits.1 (omega (arith, first, low)) (step_safe k r.stage r.around event now call values formed fits.0 none safe)
    ∙ step_blocks k i r.stage r.stage.phase r.around event now call values formed fits.0 safe
