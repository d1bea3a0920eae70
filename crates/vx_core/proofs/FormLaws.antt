-- A well formed stage stays so, whatever the plexes hold: what is kept, with all blocks alike.
use Rattle.std.proofs.Common.{◌≡◌, ◌≢◌, ℕ, ◌<◌, ◌^◌, inl, Bool, true, false, refl, sym, subst, arith, cond, List, []}
use Rattle.std.specs.Prelude.{◌&&◌, ◌||◌, not}
use Rattle.vx_core.specs.declared.stage.Job.{Job}
use Rattle.vx_core.specs.declared.stage.Event.{Event}
use Rattle.vx_core.specs.declared.stage.Act.{Act}
use Rattle.vx_core.specs.declared.stage.Step.{Step}
use Rattle.vx_core.specs.declared.stage.Work.{Work}
use Rattle.vx_core.specs.declared.stage.Phase.{Phase}
use Rattle.vx_core.specs.declared.stage.Stage.{Stage}
use Rattle.vx_core.specs.declared.stage.Job.TheVariants.{Read as ReadJob, Write as WriteJob, Copy as CopyJob, Settle, Clear}
use Rattle.vx_core.specs.declared.stage.Event.TheVariants.{Begin, Marked, MarkFailed, Unmarked, UnmarkFailed, Wrote, WriteFailed, Got, ReadFailed, Cut}
use Rattle.vx_core.specs.declared.stage.Act.TheVariants.{Mark, Unmark, WriteCall, WriteRegion, ReadCall, ReadRegion, Done, Skipped, Fault, Lost}
use Rattle.vx_core.specs.declared.stage.Step.TheVariants.{Write as AtWrite, MarkFailed as AtMarkFailed, Equal as AtEqual, Read as AtRead}
use Rattle.vx_core.specs.declared.stage.Phase.TheVariants.{Settled, Unsettled, Dead, Busy}
use Rattle.vx_base.specs.Blocks.{Contents, is_in}
use Rattle.vx_life.specs.Candidates.{IsAmong}
use Rattle.vx_life.specs.Entry.{candidates_of}
use Rattle.vx_mask.specs.Mask.{has, lowest}
use Rattle.vx_mask.specs.Marks.{Marks}
use Rattle.vx_mask.proofs.MaskLemmas.{has-lowest}
use Rattle.vx_core.specs.Table.{current, act_at, read_act, offered, next_of}
use Rattle.vx_core.specs.History.{Call, Pending, NoCall, Reads, Writes, with_pending, overlaid, IsRecord, IsNextCall, MayBegin}
use Rattle.vx_core.specs.Region.{Disks, Around, GoesWell, GoesWrong, MayAnswer, Becomes, CallOf, AreOf, ReadGives, FitsIn}
use Rattle.vx_core.specs.Form.{FormAt, IsFormed, MayCome}
use Rattle.vx_core.specs.Kept.{HasReached, ContentsAt, ContentsIn, CallIn, IsKept}
use Rattle.vx_life.specs.Candidates.{Any, or_also}
use Rattle.vx_core.proofs.Ends.{sound_from_ends}
use Rattle.vx_core.proofs.Keeps.{keeps}

-- a region round the stage whose blocks are all alike, with a log that shows `bits`
abbrev pub no_block : List ℕ
no_block = []

abbrev pub alike : ℕ → Contents
alike k i = no_block

abbrev pub first_call : Call
first_call = record { session = 0; place = 0; part = record { region = 0; epoch = 0; number = 1 }; start = 0; count = 0 }

abbrev pub blank_call : Job → Pending
blank_call ReadJob = Reads first_call
blank_call WriteJob = Writes first_call (alike 0)
blank_call (CopyJob k) = NoCall
blank_call Settle = NoCall
blank_call Clear = NoCall

abbrev blank_pending : Phase → Pending
blank_pending (Busy w) = blank_call w.job
blank_pending phase = NoCall

abbrev pub blank_last : Pending → ℕ
blank_last NoCall = 0
blank_last (Reads call) = 1
blank_last (Writes call values) = 1

abbrev blank : Stage → Phase → (ℕ → Bool) → Around
blank s phase held =
    record {
      disks = record { blocks = alike; marks = record { shows = λ n k. has s.bits k; loose = λ k. false } };
      fixed = record { held = held; copies = 1; base = alike; first = λ k. Any; region = 0; from = 0 };
      entries = [];
      pending = blank_pending phase;
      last = blank_last (blank_pending phase);
    }

call_blank : (job : Job) → CallOf job (blank_call job)
call_blank ReadJob = tt
call_blank WriteJob = tt
call_blank (CopyJob k) = tt
call_blank Settle = tt
call_blank Clear = tt

call_in_blank : (phase : Phase) → CallIn phase (blank_pending phase)
call_in_blank Settled = refl
call_in_blank Unsettled = refl
call_in_blank Dead = refl
call_in_blank (Busy w) = call_blank w.job

over_blank : (b : Bool) → no_block ≡ cond b no_block no_block
over_blank true = refl
over_blank false = refl

blank_over : (job : Job) (i : ℕ) → no_block ≡ overlaid (blank_call job) (alike 0) i
blank_over ReadJob i = refl
blank_over WriteJob i = over_blank (is_in first_call.start first_call.count i)
blank_over (CopyJob k) i = refl
blank_over Settle i = refl
blank_over Clear i = refl

reached_blank : (left good failed : ℕ) (job : Job) → HasReached left good failed (blank_call job) alike
reached_blank left good failed job =
    record { old = alike 0; before = λ k i there. refl; after = λ k i there. blank_over job i; torn = λ k i there. inl refl }

contents_blank : (all : ℕ) (w : Work) (step : Step) → ContentsAt all w step (blank_call w.job) alike
contents_blank all w AtWrite = reached_blank w.left w.good w.failed w.job
contents_blank all w AtMarkFailed = ((λ none k i a b c. refl), (λ some. reached_blank 0 w.good w.failed w.job))
contents_blank all w AtEqual = λ k i a b c. refl
contents_blank all w step = tt

contents_in_blank : (s : Stage) (phase : Phase) → ContentsIn s phase (blank_pending phase) alike
contents_in_blank s Settled = tt
contents_in_blank s Unsettled = tt
contents_in_blank s Dead = tt
contents_in_blank s (Busy w) = contents_blank (current s) w w.step

any_among : (b : Bool) (w v : List ℕ) → IsAmong (cond b (or_also w Any) Any) v
any_among true w v = tt
any_among false w v = tt

any_missed : (b : Bool) (v : List ℕ) → IsAmong (cond b Any Any) v
any_missed true v = tt
any_missed false v = tt

pub among_blank : (call : Pending) (i : ℕ) (v : List ℕ) → IsAmong (candidates_of (λ k. Any) (with_pending call []) i) v
among_blank NoCall i v = tt
among_blank (Reads call) i v = any_missed (is_in call.start call.count i) v
among_blank (Writes call values) i v = any_among (is_in call.start call.count i) (values i) v

pub record_blank : (job : Job) → IsRecord 0 0 (λ k. Any) (with_pending (blank_call job) []) (blank_last (blank_call job))
record_blank ReadJob = record { legal = (tt, tt); counted = (refl, refl, omega arith, refl); ordered = (tt, tt) }
record_blank WriteJob = record { legal = (tt, tt); counted = (refl, refl, omega arith, refl); ordered = (tt, tt) }
record_blank (CopyJob k) = record { legal = tt; counted = refl; ordered = tt }
record_blank Settle = record { legal = tt; counted = refl; ordered = tt }
record_blank Clear = record { legal = tt; counted = refl; ordered = tt }

record_in_blank : (phase : Phase) → IsRecord 0 0 (λ k. Any) (with_pending (blank_pending phase) []) (blank_last (blank_pending phase))
record_in_blank Settled = record { legal = tt; counted = refl; ordered = tt }
record_in_blank Unsettled = record { legal = tt; counted = refl; ordered = tt }
record_in_blank Dead = record { legal = tt; counted = refl; ordered = tt }
record_in_blank (Busy w) = record_blank w.job

-- a well formed stage is kept with all blocks alike
kept_blank : (s : Stage) (phase : Phase) (held : ℕ → Bool) → IsFormed s phase held → IsKept s phase (blank s phase held)
kept_blank s phase held formed =
    record {
      form = formed;
      apart = λ k h. cc;
      sound = sound_from_ends (record {
        shown = λ n k c bit. bit;
        bounded = λ n k c there. inl there;
        readable = let r = formed.readable in (r.0, r.1, record { bits = r.2; loose = refl; freeing = r.3 });
        candidates = λ k i unmarked. among_blank (blank_pending phase) i no_block;
        agree = inl (λ j k i at_j at_k. refl);
        tracked = λ m k i snap out unmarked. refl;
        marked = formed.marked;
      });
      call = call_in_blank phase;
      contents = contents_in_blank s phase;
      history = record_in_blank phase;
    }

-- ---- an answer that may come fits

abbrev marks_with : Marks → ℕ → Marks
marks_with m b = record { shows = λ n k. (m.shows n k && not (m.loose k)) || has b k; loose = λ k. false }

abbrev marks_less : Marks → ℕ → Marks
marks_less m b = record { shows = λ n k. (m.shows n k && not (m.loose k)) && not (has b k); loose = λ k. false }

abbrev marks_loose : Marks → ℕ → Marks
marks_loose m b = record { shows = m.shows; loose = λ k. m.loose k || has b k }

abbrev disks_with : Marks → Disks
disks_with m = record { blocks = alike; marks = m }

-- in a region whose blocks are all alike each act can be answered well, ..
well_alike : (job : Job) (source : ℕ) (act : Act) (m : Marks) → (now : Disks) × GoesWell (blank_call job) source act (disks_with m) now
well_alike job source (Mark b) m = (disks_with (marks_with m b), (refl, record { shows = λ n k. refl; loose = λ k. refl }))
well_alike job source (Unmark b) m = (disks_with (marks_less m b), (refl, record { shows = λ n k. refl; loose = λ k. refl }))
well_alike job source (WriteCall k) m = (disks_with m, (record { gets = λ i. blank_over job i; others = λ j i apart. refl }, refl))
well_alike job source (WriteRegion k) m = (disks_with m, (record { gets = λ i. refl; others = λ j i apart. refl }, refl))
well_alike job source act m = (disks_with m, refl)

-- .. and may fail
wrong_alike : (job : Job) (source : ℕ) (act : Act) (m : Marks) → (now : Disks) × GoesWrong (blank_call job) source act (disks_with m) now
wrong_alike job source (Mark b) m = (disks_with (marks_loose m 0), (refl, inl (record { shows = λ n k. inl refl; loose = λ k. refl })))
wrong_alike job source (Unmark b) m = (disks_with (marks_loose m b), (refl, inl (record { shows = λ n k. inl refl; loose = λ k. refl })))
wrong_alike job source (WriteCall k) m = (disks_with m, (record { either = λ i. inl refl; others = λ j i apart. refl }, refl))
wrong_alike job source (WriteRegion k) m = (disks_with m, (record { either = λ i. inl refl; others = λ j i apart. refl }, refl))
wrong_alike job source act m = (disks_with m, refl)

begin_answers_none : (act : Act) (job : Job) → MayAnswer act (Begin job) → ⊥
begin_answers_none (Mark b) job h = h
begin_answers_none (Unmark b) job h = h
begin_answers_none (WriteCall k) job h = h
begin_answers_none (WriteRegion k) job h = h
begin_answers_none (ReadCall k) job h = h
begin_answers_none (ReadRegion k) job h = h
begin_answers_none Done job h = h
begin_answers_none Skipped job h = h
begin_answers_none Fault job h = h
begin_answers_none Lost job h = h

becomes_alike : (job : Job) (source : ℕ) (act : Act) (event : Event) (m : Marks) → MayAnswer act event → (now : Disks) × Becomes event (blank_call job) source act (disks_with m) now
becomes_alike job source act (Begin new) m may = absurd (begin_answers_none act new may)
becomes_alike job source act Marked m may = well_alike job source act m
becomes_alike job source act MarkFailed m may = wrong_alike job source act m
becomes_alike job source act Unmarked m may = well_alike job source act m
becomes_alike job source act UnmarkFailed m may = wrong_alike job source act m
becomes_alike job source act Wrote m may = well_alike job source act m
becomes_alike job source act WriteFailed m may = wrong_alike job source act m
becomes_alike job source act Got m may = well_alike job source act m
becomes_alike job source act (ReadFailed k) m may = wrong_alike job source act m
becomes_alike job source act Cut m may = wrong_alike job source act m

-- a read gives the blocks of a plex that was offered, which are all alike
read_gives : (s : Stage) (w : Work) (event : Event) (held : ℕ → Bool) (offered : ℕ) → w.job ≡ ReadJob → offered ≢ 0 → offered < 2 ^ 64 → ReadGives (blank s (Busy w) held) (ReadCall offered) event (alike 0)
read_gives s w Got held offered job some fits = (lowest offered, has-lowest offered some fits, subst (λ (j : Job). AreOf (blank_call j) (alike 0) (alike 0)) (sym job) (λ i inside. refl))
read_gives s w event held offered job some fits = tt

read_alike : (s : Stage) (w : Work) (job : Job) (event : Event) (held : ℕ → Bool) → w.job ≡ job → w.left < 2 ^ 64 → FormAt s w AtRead job → ReadGives (blank s (Busy w) held) (read_act w job) event (alike 0)
read_alike s w ReadJob event held e fits form = read_gives s w event held w.left e form.1 fits
read_alike s w (CopyJob k) event held e fits form = tt
read_alike s w job event held e fits form = absurd form

gives_alike : (s : Stage) (w : Work) (step : Step) (event : Event) (held : ℕ → Bool) → w.left < 2 ^ 64 → FormAt s w step w.job → ReadGives (blank s (Busy w) held) (act_at s w step) event (alike 0)
gives_alike s w AtRead event held fits form = read_alike s w w.job event held refl fits form
gives_alike s w step event held fits form = tt

next_blank : IsNextCall 0 0 [] first_call
next_blank = record { here = refl; number = refl; order = tt }

pub begin_blank : (job : Job) → MayBegin 0 0 [] (blank_call job)
begin_blank ReadJob = next_blank
begin_blank WriteJob = next_blank
begin_blank (CopyJob k) = tt
begin_blank Settle = tt
begin_blank Clear = tt

fits_alike : (s : Stage) (phase : Phase) (held : ℕ → Bool) (event : Event) → IsFormed s phase held → MayCome s phase event →
    (now : Disks) × (call : Pending) × FitsIn s phase (blank s phase held) event now call (alike 0)
fits_alike s (Busy w) held event formed may =
    let becomes = becomes_alike w.job w.source (act_at s w w.step) event (blank s (Busy w) held).disks.marks may in
    (becomes.0, NoCall, ((may, becomes.1), gives_alike s w w.step event held formed.step.0 formed.step.3))
fits_alike s Settled held (Begin new) formed may = ((blank s Settled held).disks, blank_call new, (refl, call_blank new, begin_blank new))
fits_alike s Settled held Cut formed may = ((blank s Settled held).disks, NoCall, refl)
fits_alike s Settled held event formed may = absurd may
fits_alike s Unsettled held (Begin new) formed may = ((blank s Unsettled held).disks, blank_call new, (refl, call_blank new, begin_blank new))
fits_alike s Unsettled held Cut formed may = ((blank s Unsettled held).disks, NoCall, refl)
fits_alike s Unsettled held event formed may = absurd may
fits_alike s Dead held Cut formed may = ((blank s Dead held).disks, NoCall, refl)
fits_alike s Dead held event formed may = absurd may

-- what keeps what is kept keeps the form
pub forms : (s : Stage) (event : Event) (held : ℕ → Bool) → IsFormed s s.phase held → MayCome s s.phase event → IsFormed (next_of s event).0 (next_of s event).0.phase held
forms s event held formed may =
    let fit = fits_alike s s.phase held event formed may in
    (keeps s event (blank s s.phase held) fit.0 fit.1 (alike 0) (kept_blank s s.phase held formed) fit.2).form
