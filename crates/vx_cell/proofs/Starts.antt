-- What a copy and a clear leave of the marks.
use Rattle.std.proofs.Common.{◌≡◌, ℕ, Bool, true, false, cond, List, [], ◌∷◌, Option, Some, None, Ok, arith, refl, sym, ap, ◌∙◌, subst}
use Rattle.std.specs.Prelude.{◌==◌, ◌||◌, ◌&&◌, not}
use Rattle.std.proofs.lemmas.Bool.{false≢true}
use Rattle.vx_mask.specs.Mask.{has, only, union, without, lowest, above_lowest}
use Rattle.vx_mask.proofs.MaskLemmas.{has-union, has-without, has-only_same}
use Rattle.vx_core.specs.declared.stage.Job.{Job}
use Rattle.vx_core.specs.declared.stage.Event.{Event}
use Rattle.vx_core.specs.declared.stage.Act.{Act}
use Rattle.vx_core.specs.declared.stage.Step.{Step}
use Rattle.vx_core.specs.declared.stage.Work.{Work}
use Rattle.vx_core.specs.declared.stage.Phase.{Phase}
use Rattle.vx_core.specs.declared.stage.Stage.{Stage}
use Rattle.vx_core.specs.declared.stage.Job.TheVariants.{Read as ReadJob, Write as WriteJob, Copy as CopyJob, Settle, Clear}
use Rattle.vx_core.specs.declared.stage.Event.TheVariants.{Begin, Marked, MarkFailed, Unmarked, UnmarkFailed, Wrote, WriteFailed, Got, ReadFailed, Cut}
use Rattle.vx_core.specs.declared.stage.Act.TheVariants.{Mark, Unmark, WriteCall, WriteRegion, ReadCall, ReadRegion, Done, Skipped, Fault, Lost}
use Rattle.vx_core.specs.declared.stage.Step.TheVariants.{Mark as AtMark, Write as AtWrite, MarkFailed as AtMarkFailed, Find as AtFind, Equal as AtEqual, Copy as AtCopy, Unmark as AtUnmark, Read as AtRead}
use Rattle.vx_core.specs.declared.stage.Phase.TheVariants.{Settled, Unsettled, Dead, Busy}
use Rattle.vx_core.specs.Table.{current, freed_by, ended, busy, goes_on, work, read_from, copy, settle, start, level, marked_failed, got, read_failed, answered, begun, next_of}
use Rattle.vx_core.specs.Region.{MayAnswer}
use Rattle.vx_cell.specs.declared.fault.Place.{Place}
use Rattle.vx_cell.specs.Running.{RunsIn, answered_by, AreAnswers, HasCalled}
use Rattle.vx_core.specs.Schedule.{IsIdle}
use Rattle.vx_cell.specs.Plexes.{PlexSeen}
use Rattle.vx_cell.specs.Acts.{Bytes}
use Rattle.vx_cell.specs.Region.{RegionSeen}
use Rattle.vx_cell.specs.Calls.{HasMarks, LeavesMarks, CopyLeaves, ClearLeaves, HasRun, answer_of, takes}

-- jobs that take a mark away
abbrev IsTaking : Job → Type 0
IsTaking (CopyJob k) = Unit {0}
IsTaking Clear = Unit {0}
IsTaking ReadJob = ⊥
IsTaking WriteJob = ⊥
IsTaking Settle = ⊥

abbrev IsCopy : Job → Type 0
IsCopy (CopyJob k) = Unit {0}
IsCopy Clear = ⊥
IsCopy ReadJob = ⊥
IsCopy WriteJob = ⊥
IsCopy Settle = ⊥

-- the settling has brought it here, from marks that are here still
abbrev IsSettling : Stage → ℕ → Work → Type 0
IsSettling s0 bits w = (s0.phase ≡ Settled → ⊥) × ((j : ℕ) → has s0.bits j ≡ true → has bits j ≡ true) × (w.good ≡ 0)

-- what the job has left of the marks, where there was one to take away or not
abbrev Left : Stage → Job → ℕ → ℕ → Bool → Type 0
Left s0 job on bits was = (m : ℕ) × HasMarks s0 m × (takes job on m ≡ was) × (bits ≡ cond was (without m (freed_by job)) m)

abbrev AtTaking : Stage → Job → ℕ → ℕ → Work → Step → Type 0
AtTaking s0 job on bits w AtMark = ⊥
AtTaking s0 job on bits w AtWrite = ⊥
AtTaking s0 job on bits w AtMarkFailed = IsSettling s0 bits w
AtTaking s0 job on bits w AtFind = IsSettling s0 bits w
AtTaking s0 job on bits w AtEqual = IsSettling s0 bits w
AtTaking s0 job on bits w AtCopy = IsCopy job × HasMarks s0 bits × (takes job on bits ≡ true)
AtTaking s0 job on bits w AtRead = IsCopy job × HasMarks s0 bits × (takes job on bits ≡ true)
AtTaking s0 job on bits w AtUnmark = Left s0 job on bits true

abbrev EndsTaking : Stage → Job → ℕ → ℕ → Act → Type 0
EndsTaking s0 job on bits Done = Left s0 job on bits true
EndsTaking s0 job on bits Skipped = Left s0 job on bits false
EndsTaking s0 job on bits _ = Unit {0}

abbrev InTaking : Stage → Job → ℕ → ℕ → Phase → Act → Type 0
InTaking s0 job on bits (Busy w) act = (w.job ≡ job) × AtTaking s0 job on bits w w.step
InTaking s0 job on bits Settled act = EndsTaking s0 job on bits act
InTaking s0 job on bits Unsettled act = Unit {0}
InTaking s0 job on bits Dead act = Unit {0}

abbrev Takes : Stage → Job → Stage × Act → Type 0
Takes s0 job x = InTaking s0 job x.0.on x.0.bits x.0.phase x.1

either_way : (s0 : Stage) (job : Job) (b : Bool) (x y : Stage × Act) → (b ≡ true → Takes s0 job x) → (b ≡ false → Takes s0 job y) → Takes s0 job (cond b x y)
either_way s0 job true x y first second = first refl
either_way s0 job false x y first second = second refl

-- ---- a settled region

copy_ok : (s0 s : Stage) (job : Job) (left : ℕ) → IsCopy job → HasMarks s0 s.bits → takes job s.on s.bits ≡ true → Takes s0 job (copy s job left)
copy_ok s0 s job left is marks there = either_way s0 job (left == 0) (ended s Settled Fault) (busy s (read_from job AtRead left)) (λ e. tt) (λ e. (refl, (is, marks, there)))

start_ok : (s0 s : Stage) (job : Job) → IsTaking job → HasMarks s0 s.bits → Takes s0 job (start s job)
start_ok s0 s (CopyJob k) taking marks =
    either_way s0 (CopyJob k) (has s.on k && has s.bits k) (copy s (CopyJob k) (current s)) (ended s Settled Skipped) (λ e. copy_ok s0 s (CopyJob k) (current s) tt marks e) (λ e. (s.bits, marks, e, refl))
start_ok s0 s Clear taking marks =
    either_way s0 Clear (has s.bits 30) (busy (record s { bits = without s.bits (only 30) }) (work Clear AtUnmark 0)) (ended s Settled Skipped) (λ e. (refl, (s.bits, marks, e, refl))) (λ e. (s.bits, marks, e, refl))
start_ok s0 s ReadJob taking marks = absurd taking
start_ok s0 s WriteJob taking marks = absurd taking
start_ok s0 s Settle taking marks = absurd taking

-- ---- a settling

settle_ok : (s0 s : Stage) (job : Job) (left : ℕ) → (s0.phase ≡ Settled → ⊥) → ((j : ℕ) → has s0.bits j ≡ true → has s.bits j ≡ true) → Takes s0 job (settle s job left)
settle_ok s0 s job left apart more = either_way s0 job (left == 0) (ended s Unsettled Fault) (busy s (read_from job AtFind left)) (λ e. tt) (λ e. (refl, (apart, more, refl)))

-- all of it is settled, or its failures are to be marked
level_ok : (s0 s : Stage) (w : Work) → IsSettling s0 s.bits w → AtTaking s0 w.job s.on s.bits w w.step → IsTaking w.job → Takes s0 w.job (level s w)
level_ok s0 s w h stay taking =
    either_way s0 w.job (w.left == 0) (cond (w.failed == 0) (start (record s { phase = Settled }) w.job) (busy s (record w { step = AtMarkFailed }))) (busy s w)
    (λ e. either_way s0 w.job (w.failed == 0) (start (record s { phase = Settled }) w.job) (busy s (record w { step = AtMarkFailed })) (λ f. start_ok s0 (record s { phase = Settled }) w.job taking (record { settled = λ p. absurd (h.0 p); more = h.1 })) (λ f. (refl, h)))
    (λ e. (refl, stay))

or_first : (a b : Bool) → a ≡ true → (a || b) ≡ true
or_first true b e = refl
or_first false b e = absurd (false≢true e)

marked_ok : (s0 s : Stage) (w : Work) → IsSettling s0 s.bits w → IsTaking w.job → Takes s0 w.job (marked_failed (record s { bits = union s.bits w.failed }) w)
marked_ok s0 s w h taking =
    let more : (j : ℕ) → has s0.bits j ≡ true → has (union s.bits w.failed) j ≡ true = λ j e. has-union s.bits w.failed j ∙ or_first (has s.bits j) (has w.failed j) (h.1 j e) in
    either_way s0 w.job (w.good == 0) (start (record s { bits = union s.bits w.failed; phase = Settled }) w.job) (ended (record s { bits = union s.bits w.failed }) Settled Done)
    (λ e. start_ok s0 (record s { bits = union s.bits w.failed; phase = Settled }) w.job taking (record { settled = λ p. absurd (h.0 p); more = more }))
    (λ e. absurd (false≢true (sym e ∙ ap (λ n. n == 0) h.2)))

-- ---- a copy

got_ok : (s0 s : Stage) (w : Work) (job : Job) → w.job ≡ job → IsCopy w.job → HasMarks s0 s.bits → takes w.job s.on s.bits ≡ true → Takes s0 w.job (got s w job)
got_ok s0 s w (CopyJob k) e is marks there = (refl, (is, marks, there))
got_ok s0 s w Clear e is marks there = absurd (subst IsCopy e is)
got_ok s0 s w ReadJob e is marks there = absurd (subst IsCopy e is)
got_ok s0 s w WriteJob e is marks there = absurd (subst IsCopy e is)
got_ok s0 s w Settle e is marks there = absurd (subst IsCopy e is)

read_failed_ok : (s0 s : Stage) (w : Work) (job : Job) (plex : ℕ) → w.job ≡ job → IsCopy w.job → HasMarks s0 s.bits → takes w.job s.on s.bits ≡ true → Takes s0 w.job (read_failed s w job plex)
read_failed_ok s0 s w (CopyJob k) plex e is marks there = copy_ok s0 s w.job w.left is marks there
read_failed_ok s0 s w Clear plex e is marks there = absurd (subst IsCopy e is)
read_failed_ok s0 s w ReadJob plex e is marks there = absurd (subst IsCopy e is)
read_failed_ok s0 s w WriteJob plex e is marks there = absurd (subst IsCopy e is)
read_failed_ok s0 s w Settle plex e is marks there = absurd (subst IsCopy e is)

-- ---- an event

-- an event that does not fit leaves it where it stands
stays : (s0 s : Stage) (w : Work) (step : Step) → step ≡ w.step → AtTaking s0 w.job s.on s.bits w step → AtTaking s0 w.job s.on s.bits w w.step
stays s0 s w step e h = subst (AtTaking s0 w.job s.on s.bits w) e h

level_stays : (s0 s : Stage) (w : Work) (left failed : ℕ) → AtEqual ≡ w.step → IsSettling s0 s.bits w → AtTaking s0 w.job s.on s.bits (record w { left = left; failed = failed }) w.step
level_stays s0 s w left failed e h = subst (AtTaking s0 w.job s.on s.bits (record w { left = left; failed = failed })) e h

step_ok : (s0 s : Stage) (w : Work) (step : Step) (event : Event) → step ≡ w.step → AtTaking s0 w.job s.on s.bits w step → IsTaking w.job → Takes s0 w.job (answered s w step event)
step_ok s0 s w AtMark event e h taking = absurd h
step_ok s0 s w AtWrite event e h taking = absurd h
step_ok s0 s w AtMarkFailed (Begin job') e h taking = (refl, stays s0 s w AtMarkFailed e h)
step_ok s0 s w AtMarkFailed Marked e h taking = marked_ok s0 s w h taking
step_ok s0 s w AtMarkFailed MarkFailed e h taking = tt
step_ok s0 s w AtMarkFailed Unmarked e h taking = (refl, stays s0 s w AtMarkFailed e h)
step_ok s0 s w AtMarkFailed UnmarkFailed e h taking = (refl, stays s0 s w AtMarkFailed e h)
step_ok s0 s w AtMarkFailed Wrote e h taking = (refl, stays s0 s w AtMarkFailed e h)
step_ok s0 s w AtMarkFailed WriteFailed e h taking = (refl, stays s0 s w AtMarkFailed e h)
step_ok s0 s w AtMarkFailed Got e h taking = (refl, stays s0 s w AtMarkFailed e h)
step_ok s0 s w AtMarkFailed (ReadFailed plex) e h taking = (refl, stays s0 s w AtMarkFailed e h)
step_ok s0 s w AtMarkFailed Cut e h taking = (refl, stays s0 s w AtMarkFailed e h)
step_ok s0 s w AtFind (Begin job') e h taking = (refl, stays s0 s w AtFind e h)
step_ok s0 s w AtFind Marked e h taking = (refl, stays s0 s w AtFind e h)
step_ok s0 s w AtFind MarkFailed e h taking = (refl, stays s0 s w AtFind e h)
step_ok s0 s w AtFind Unmarked e h taking = (refl, stays s0 s w AtFind e h)
step_ok s0 s w AtFind UnmarkFailed e h taking = (refl, stays s0 s w AtFind e h)
step_ok s0 s w AtFind Wrote e h taking = (refl, stays s0 s w AtFind e h)
step_ok s0 s w AtFind WriteFailed e h taking = (refl, stays s0 s w AtFind e h)
step_ok s0 s w AtFind Got e h taking = level_ok s0 s (record w { step = AtEqual; left = without (current s) (only w.source) }) h h taking
step_ok s0 s w AtFind (ReadFailed plex) e h taking = settle_ok s0 s w.job w.left h.0 h.1
step_ok s0 s w AtFind Cut e h taking = (refl, stays s0 s w AtFind e h)
step_ok s0 s w AtEqual (Begin job') e h taking = (refl, stays s0 s w AtEqual e h)
step_ok s0 s w AtEqual Marked e h taking = (refl, stays s0 s w AtEqual e h)
step_ok s0 s w AtEqual MarkFailed e h taking = (refl, stays s0 s w AtEqual e h)
step_ok s0 s w AtEqual Unmarked e h taking = (refl, stays s0 s w AtEqual e h)
step_ok s0 s w AtEqual UnmarkFailed e h taking = (refl, stays s0 s w AtEqual e h)
step_ok s0 s w AtEqual Wrote e h taking = level_ok s0 s (record w { left = above_lowest w.left }) h (level_stays s0 s w (above_lowest w.left) w.failed e h) taking
step_ok s0 s w AtEqual WriteFailed e h taking = level_ok s0 s (record w { left = above_lowest w.left; failed = union w.failed (only (lowest w.left)) }) h (level_stays s0 s w (above_lowest w.left) (union w.failed (only (lowest w.left))) e h) taking
step_ok s0 s w AtEqual Got e h taking = (refl, stays s0 s w AtEqual e h)
step_ok s0 s w AtEqual (ReadFailed plex) e h taking = (refl, stays s0 s w AtEqual e h)
step_ok s0 s w AtEqual Cut e h taking = (refl, stays s0 s w AtEqual e h)
step_ok s0 s w AtCopy (Begin job') e h taking = (refl, stays s0 s w AtCopy e h)
step_ok s0 s w AtCopy Marked e h taking = (refl, stays s0 s w AtCopy e h)
step_ok s0 s w AtCopy MarkFailed e h taking = (refl, stays s0 s w AtCopy e h)
step_ok s0 s w AtCopy Unmarked e h taking = (refl, stays s0 s w AtCopy e h)
step_ok s0 s w AtCopy UnmarkFailed e h taking = (refl, stays s0 s w AtCopy e h)
step_ok s0 s w AtCopy Wrote e h taking = (refl, (s.bits, h.1, h.2, refl))
step_ok s0 s w AtCopy WriteFailed e h taking = tt
step_ok s0 s w AtCopy Got e h taking = (refl, stays s0 s w AtCopy e h)
step_ok s0 s w AtCopy (ReadFailed plex) e h taking = (refl, stays s0 s w AtCopy e h)
step_ok s0 s w AtCopy Cut e h taking = (refl, stays s0 s w AtCopy e h)
step_ok s0 s w AtUnmark (Begin job') e h taking = (refl, stays s0 s w AtUnmark e h)
step_ok s0 s w AtUnmark Marked e h taking = (refl, stays s0 s w AtUnmark e h)
step_ok s0 s w AtUnmark MarkFailed e h taking = (refl, stays s0 s w AtUnmark e h)
step_ok s0 s w AtUnmark Unmarked e h taking = h
step_ok s0 s w AtUnmark UnmarkFailed e h taking = tt
step_ok s0 s w AtUnmark Wrote e h taking = (refl, stays s0 s w AtUnmark e h)
step_ok s0 s w AtUnmark WriteFailed e h taking = (refl, stays s0 s w AtUnmark e h)
step_ok s0 s w AtUnmark Got e h taking = (refl, stays s0 s w AtUnmark e h)
step_ok s0 s w AtUnmark (ReadFailed plex) e h taking = (refl, stays s0 s w AtUnmark e h)
step_ok s0 s w AtUnmark Cut e h taking = (refl, stays s0 s w AtUnmark e h)
step_ok s0 s w AtRead (Begin job') e h taking = (refl, stays s0 s w AtRead e h)
step_ok s0 s w AtRead Marked e h taking = (refl, stays s0 s w AtRead e h)
step_ok s0 s w AtRead MarkFailed e h taking = (refl, stays s0 s w AtRead e h)
step_ok s0 s w AtRead Unmarked e h taking = (refl, stays s0 s w AtRead e h)
step_ok s0 s w AtRead UnmarkFailed e h taking = (refl, stays s0 s w AtRead e h)
step_ok s0 s w AtRead Wrote e h taking = (refl, stays s0 s w AtRead e h)
step_ok s0 s w AtRead WriteFailed e h taking = (refl, stays s0 s w AtRead e h)
step_ok s0 s w AtRead Got e h taking = got_ok s0 s w w.job refl h.0 h.1 h.2
step_ok s0 s w AtRead (ReadFailed plex) e h taking = read_failed_ok s0 s w w.job plex refl h.0 h.1 h.2
step_ok s0 s w AtRead Cut e h taking = (refl, stays s0 s w AtRead e h)

-- no answer begins a job
no_begin : (act : Act) (job : Job) → MayAnswer act (Begin job) → ⊥
no_begin (Mark b) job h = h
no_begin (Unmark b) job h = h
no_begin (WriteCall k) job h = h
no_begin (WriteRegion k) job h = h
no_begin (ReadCall k) job h = h
no_begin (ReadRegion k) job h = h
no_begin Done job h = h
no_begin Skipped job h = h
no_begin Fault job h = h
no_begin Lost job h = h

work_ok : (s0 s : Stage) (job : Job) (w : Work) (event : Event) → IsTaking job → (w.job ≡ job) × AtTaking s0 job s.on s.bits w w.step → Takes s0 job (answered s w w.step event)
work_ok s0 s job w event taking h =
    subst (λ (j : Job). Takes s0 j (answered s w w.step event)) h.0
    (step_ok s0 s w w.step event refl (subst (λ (j : Job). AtTaking s0 j s.on s.bits w w.step) (sym h.0) h.1) (subst IsTaking (sym h.0) taking))

next_ok : (s0 s : Stage) (phase : Phase) (job : Job) (act : Act) (event : Event) → s.phase ≡ phase → IsTaking job → InTaking s0 job s.on s.bits phase act → MayAnswer act event → Takes s0 job (next_of s event)
next_ok s0 s phase job act (Begin other) is taking h may = absurd (no_begin act other may)
next_ok s0 s phase job act Cut is taking h may = tt
next_ok s0 s (Busy w) job act Marked is taking h may = subst (λ (p : Phase). Takes s0 job (goes_on s p Marked)) (sym is) (work_ok s0 s job w Marked taking h)
next_ok s0 s Settled job act Marked is taking h may = subst (λ (p : Phase). Takes s0 job (goes_on s p Marked)) (sym is) tt
next_ok s0 s Unsettled job act Marked is taking h may = subst (λ (p : Phase). Takes s0 job (goes_on s p Marked)) (sym is) tt
next_ok s0 s Dead job act Marked is taking h may = subst (λ (p : Phase). Takes s0 job (goes_on s p Marked)) (sym is) tt
next_ok s0 s (Busy w) job act MarkFailed is taking h may = subst (λ (p : Phase). Takes s0 job (goes_on s p MarkFailed)) (sym is) (work_ok s0 s job w MarkFailed taking h)
next_ok s0 s Settled job act MarkFailed is taking h may = subst (λ (p : Phase). Takes s0 job (goes_on s p MarkFailed)) (sym is) tt
next_ok s0 s Unsettled job act MarkFailed is taking h may = subst (λ (p : Phase). Takes s0 job (goes_on s p MarkFailed)) (sym is) tt
next_ok s0 s Dead job act MarkFailed is taking h may = subst (λ (p : Phase). Takes s0 job (goes_on s p MarkFailed)) (sym is) tt
next_ok s0 s (Busy w) job act Unmarked is taking h may = subst (λ (p : Phase). Takes s0 job (goes_on s p Unmarked)) (sym is) (work_ok s0 s job w Unmarked taking h)
next_ok s0 s Settled job act Unmarked is taking h may = subst (λ (p : Phase). Takes s0 job (goes_on s p Unmarked)) (sym is) tt
next_ok s0 s Unsettled job act Unmarked is taking h may = subst (λ (p : Phase). Takes s0 job (goes_on s p Unmarked)) (sym is) tt
next_ok s0 s Dead job act Unmarked is taking h may = subst (λ (p : Phase). Takes s0 job (goes_on s p Unmarked)) (sym is) tt
next_ok s0 s (Busy w) job act UnmarkFailed is taking h may = subst (λ (p : Phase). Takes s0 job (goes_on s p UnmarkFailed)) (sym is) (work_ok s0 s job w UnmarkFailed taking h)
next_ok s0 s Settled job act UnmarkFailed is taking h may = subst (λ (p : Phase). Takes s0 job (goes_on s p UnmarkFailed)) (sym is) tt
next_ok s0 s Unsettled job act UnmarkFailed is taking h may = subst (λ (p : Phase). Takes s0 job (goes_on s p UnmarkFailed)) (sym is) tt
next_ok s0 s Dead job act UnmarkFailed is taking h may = subst (λ (p : Phase). Takes s0 job (goes_on s p UnmarkFailed)) (sym is) tt
next_ok s0 s (Busy w) job act Wrote is taking h may = subst (λ (p : Phase). Takes s0 job (goes_on s p Wrote)) (sym is) (work_ok s0 s job w Wrote taking h)
next_ok s0 s Settled job act Wrote is taking h may = subst (λ (p : Phase). Takes s0 job (goes_on s p Wrote)) (sym is) tt
next_ok s0 s Unsettled job act Wrote is taking h may = subst (λ (p : Phase). Takes s0 job (goes_on s p Wrote)) (sym is) tt
next_ok s0 s Dead job act Wrote is taking h may = subst (λ (p : Phase). Takes s0 job (goes_on s p Wrote)) (sym is) tt
next_ok s0 s (Busy w) job act WriteFailed is taking h may = subst (λ (p : Phase). Takes s0 job (goes_on s p WriteFailed)) (sym is) (work_ok s0 s job w WriteFailed taking h)
next_ok s0 s Settled job act WriteFailed is taking h may = subst (λ (p : Phase). Takes s0 job (goes_on s p WriteFailed)) (sym is) tt
next_ok s0 s Unsettled job act WriteFailed is taking h may = subst (λ (p : Phase). Takes s0 job (goes_on s p WriteFailed)) (sym is) tt
next_ok s0 s Dead job act WriteFailed is taking h may = subst (λ (p : Phase). Takes s0 job (goes_on s p WriteFailed)) (sym is) tt
next_ok s0 s (Busy w) job act Got is taking h may = subst (λ (p : Phase). Takes s0 job (goes_on s p Got)) (sym is) (work_ok s0 s job w Got taking h)
next_ok s0 s Settled job act Got is taking h may = subst (λ (p : Phase). Takes s0 job (goes_on s p Got)) (sym is) tt
next_ok s0 s Unsettled job act Got is taking h may = subst (λ (p : Phase). Takes s0 job (goes_on s p Got)) (sym is) tt
next_ok s0 s Dead job act Got is taking h may = subst (λ (p : Phase). Takes s0 job (goes_on s p Got)) (sym is) tt
next_ok s0 s (Busy w) job act (ReadFailed plex) is taking h may = subst (λ (p : Phase). Takes s0 job (goes_on s p (ReadFailed plex))) (sym is) (work_ok s0 s job w (ReadFailed plex) taking h)
next_ok s0 s Settled job act (ReadFailed plex) is taking h may = subst (λ (p : Phase). Takes s0 job (goes_on s p (ReadFailed plex))) (sym is) tt
next_ok s0 s Unsettled job act (ReadFailed plex) is taking h may = subst (λ (p : Phase). Takes s0 job (goes_on s p (ReadFailed plex))) (sym is) tt
next_ok s0 s Dead job act (ReadFailed plex) is taking h may = subst (λ (p : Phase). Takes s0 job (goes_on s p (ReadFailed plex))) (sym is) tt

all_ok : (s0 : Stage) (job : Job) (x : Stage × Act) (events : List Event) → IsTaking job → Takes s0 job x → AreAnswers x events → Takes s0 job (answered_by x events)
all_ok s0 job x [] taking h answers = h
all_ok s0 job x (event ∷ events) taking h answers = all_ok s0 job (next_of x.0 event) events taking (next_ok s0 x.0 x.0.phase job x.1 event refl taking h answers.0) answers.1

begin_ok : (s0 : Stage) (phase : Phase) (job : Job) → s0.phase ≡ phase → IsTaking job → ((w : Work) → phase ≡ Busy w → ⊥) → Takes s0 job (next_of s0 (Begin job))
begin_ok s0 Settled job is taking idle = subst (λ (p : Phase). Takes s0 job (begun s0 p job)) (sym is) (start_ok s0 s0 job taking (record { settled = λ e. refl; more = λ j e. e }))
begin_ok s0 Unsettled job is taking idle = subst (λ (p : Phase). Takes s0 job (begun s0 p job)) (sym is) (settle_ok s0 s0 job (current s0) (λ e. apart (sym is ∙ e)) (λ j e. e))
  where
    apart : Unsettled ≡ Settled → ⊥
    apart e = cc
begin_ok s0 Dead job is taking idle = subst (λ (p : Phase). Takes s0 job (begun s0 p job)) (sym is) tt
begin_ok s0 (Busy w) job is taking idle = absurd (idle w refl)

ends_left : (s0 : Stage) (job : Job) (on bits : ℕ) (phase : Phase) (act : Act) → phase ≡ Settled → InTaking s0 job on bits phase act → EndsTaking s0 job on bits act
ends_left s0 job on bits Settled act e h = h
ends_left s0 job on bits Unsettled act e h = cc
ends_left s0 job on bits Dead act e h = cc
ends_left s0 job on bits (Busy w) act e h = cc

-- what a job that was done, or had nothing to do, has left of the marks
pub leaves : (s0 : Stage) (job : Job) (s : Stage) (act : Act) (first : Option Place) → IsTaking job → ((w : Work) → s0.phase ≡ Busy w → ⊥) → HasCalled s0 job s act first → s.phase ≡ Settled → EndsTaking s0 job s.on s.bits act
leaves s0 job s act first taking idle called settled =
    let h = all_ok s0 job (next_of s0 (Begin job)) called.events taking (begin_ok s0 s0.phase job refl taking idle) called.answers in
    ends_left s0 job s.on s.bits s.phase act settled (subst (λ (y : Stage × Act). Takes s0 job y) called.comes h)

-- ---- the calls

settled_end : (job : Job) (old : RegionSeen) (size : ℕ) (ps : List PlexSeen) (scratch : List ℕ) (act : Act) (phase : Phase) → IsIdle phase → RunsIn job old size ps scratch act phase → (act ≡ Fault → ⊥) → (act ≡ Lost → ⊥) → phase ≡ Settled
settled_end job old size ps scratch act Settled idle runs fault lost = refl
settled_end job old size ps scratch act Unsettled idle runs fault lost = absurd (fault runs)
settled_end job old size ps scratch act Dead idle runs fault lost = absurd (lost runs)
settled_end job old size ps scratch act (Busy w) idle runs fault lost = absurd idle

not_busy : (phase : Phase) → IsIdle phase → (w : Work) → phase ≡ Busy w → ⊥
not_busy phase idle w e = subst (λ (p : Phase). IsIdle p) e idle

left_marks : (job : Job) (old new : Stage) (found : Bool) → Left old job new.on new.bits found → LeavesMarks job old new found
left_marks job old new found h = record { marks = h.0; were = h.1; is_found = h.2; left = h.3 }

module _ (io : Bytes) (old new : RegionSeen) (io' : Bytes) (first : Option Place) (idle : IsIdle old.stage.phase) where
  ran_left : (job : Job) (act : Act) → IsTaking job → HasRun job io old new (Some act) first io' → (act ≡ Fault → ⊥) → (act ≡ Lost → ⊥) → EndsTaking old.stage job new.stage.on new.stage.bits act
  ran_left job act taking h fault lost =
      leaves old.stage job new.stage act first taking (not_busy old.stage.phase idle) h.0.calls (settled_end job old new.size new.plexes io'.scratch act new.stage.phase h.1 h.0.runs fault lost)

  pub copy_left : (k : ℕ) (answer : Option Act) → HasRun (CopyJob k) io old new answer first io' → CopyLeaves k old.stage new.stage (answer_of true false answer first)
  copy_left k None h = tt
  copy_left k (Some Done) h = left_marks (CopyJob k) old.stage new.stage true (ran_left (CopyJob k) Done tt h (λ e. cc) (λ e. cc))
  copy_left k (Some Skipped) h = left_marks (CopyJob k) old.stage new.stage false (ran_left (CopyJob k) Skipped tt h (λ e. cc) (λ e. cc))
  copy_left k (Some Lost) h = tt
  copy_left k (Some Fault) h = by_place first
    where
      by_place : (p : Option Place) → CopyLeaves k old.stage new.stage (answer_of true false (Some Fault) p)
      by_place None = tt
      by_place (Some place) = tt
  copy_left k (Some (Mark b)) h = by_place first
    where
      by_place : (p : Option Place) → CopyLeaves k old.stage new.stage (answer_of true false (Some (Mark b)) p)
      by_place None = tt
      by_place (Some place) = tt
  copy_left k (Some (Unmark b)) h = by_place first
    where
      by_place : (p : Option Place) → CopyLeaves k old.stage new.stage (answer_of true false (Some (Unmark b)) p)
      by_place None = tt
      by_place (Some place) = tt
  copy_left k (Some (WriteCall b)) h = by_place first
    where
      by_place : (p : Option Place) → CopyLeaves k old.stage new.stage (answer_of true false (Some (WriteCall b)) p)
      by_place None = tt
      by_place (Some place) = tt
  copy_left k (Some (WriteRegion b)) h = by_place first
    where
      by_place : (p : Option Place) → CopyLeaves k old.stage new.stage (answer_of true false (Some (WriteRegion b)) p)
      by_place None = tt
      by_place (Some place) = tt
  copy_left k (Some (ReadCall b)) h = by_place first
    where
      by_place : (p : Option Place) → CopyLeaves k old.stage new.stage (answer_of true false (Some (ReadCall b)) p)
      by_place None = tt
      by_place (Some place) = tt
  copy_left k (Some (ReadRegion b)) h = by_place first
    where
      by_place : (p : Option Place) → CopyLeaves k old.stage new.stage (answer_of true false (Some (ReadRegion b)) p)
      by_place None = tt
      by_place (Some place) = tt

  clean : (found : Bool) → LeavesMarks Clear old.stage new.stage found → has new.stage.bits 30 ≡ false
  clean true l = ap (λ (n : ℕ). has n 30) l.left ∙ has-without l.marks (only 30) 30 ∙ ap (λ (b : Bool). has l.marks 30 && not b) (has-only_same 30 (omega arith)) ∙ and_none (has l.marks 30)
    where
      and_none : (b : Bool) → (b && false) ≡ false
      and_none true = refl
      and_none false = refl
  clean false l = ap (λ (n : ℕ). has n 30) l.left ∙ l.is_found

  clear_of : (found : Bool) → Left old.stage Clear new.stage.on new.stage.bits found → ClearLeaves old.stage new.stage (Ok tt)
  clear_of found h = let l = left_marks Clear old.stage new.stage found h in (found, l, clean found l)

  pub clear_left : (answer : Option Act) → HasRun Clear io old new answer first io' → ClearLeaves old.stage new.stage (answer_of tt tt answer first)
  clear_left None h = tt
  clear_left (Some Done) h = clear_of true (ran_left Clear Done tt h (λ e. cc) (λ e. cc))
  clear_left (Some Skipped) h = clear_of false (ran_left Clear Skipped tt h (λ e. cc) (λ e. cc))
  clear_left (Some Lost) h = tt
  clear_left (Some Fault) h = by_place first
    where
      by_place : (p : Option Place) → ClearLeaves old.stage new.stage (answer_of tt tt (Some Fault) p)
      by_place None = tt
      by_place (Some place) = tt
  clear_left (Some (Mark b)) h = by_place first
    where
      by_place : (p : Option Place) → ClearLeaves old.stage new.stage (answer_of tt tt (Some (Mark b)) p)
      by_place None = tt
      by_place (Some place) = tt
  clear_left (Some (Unmark b)) h = by_place first
    where
      by_place : (p : Option Place) → ClearLeaves old.stage new.stage (answer_of tt tt (Some (Unmark b)) p)
      by_place None = tt
      by_place (Some place) = tt
  clear_left (Some (WriteCall b)) h = by_place first
    where
      by_place : (p : Option Place) → ClearLeaves old.stage new.stage (answer_of tt tt (Some (WriteCall b)) p)
      by_place None = tt
      by_place (Some place) = tt
  clear_left (Some (WriteRegion b)) h = by_place first
    where
      by_place : (p : Option Place) → ClearLeaves old.stage new.stage (answer_of tt tt (Some (WriteRegion b)) p)
      by_place None = tt
      by_place (Some place) = tt
  clear_left (Some (ReadCall b)) h = by_place first
    where
      by_place : (p : Option Place) → ClearLeaves old.stage new.stage (answer_of tt tt (Some (ReadCall b)) p)
      by_place None = tt
      by_place (Some place) = tt
  clear_left (Some (ReadRegion b)) h = by_place first
    where
      by_place : (p : Option Place) → ClearLeaves old.stage new.stage (answer_of tt tt (Some (ReadRegion b)) p)
      by_place None = tt
      by_place (Some place) = tt
