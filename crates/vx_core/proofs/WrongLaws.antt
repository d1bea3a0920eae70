-- Answers that are wrong break what is kept, whatever the table says.
use Rattle.std.proofs.Common.{◌≡◌, ◌≢◌, ℕ, ◌<◌, inl, inr, Bool, true, false, refl, sym, ◌∙◌, ap, subst, arith, List, [], ◌∷◌}
use Rattle.std.specs.Prelude.{◌&&◌, ◌||◌, not, ◌==◌}
use Rattle.vx_core.specs.declared.stage.Job.{Job}
use Rattle.vx_core.specs.declared.stage.Event.{Event}
use Rattle.vx_core.specs.declared.stage.Work.{Work}
use Rattle.vx_core.specs.declared.stage.Phase.{Phase}
use Rattle.vx_core.specs.declared.stage.Stage.{Stage}
use Rattle.vx_core.specs.declared.stage.Job.TheVariants.{Read as ReadJob, Write as WriteJob, Copy as CopyJob, Settle}
use Rattle.vx_core.specs.declared.stage.Event.TheVariants.{Begin, Marked, MarkFailed, Got}
use Rattle.vx_core.specs.declared.stage.Step.TheVariants.{Mark as AtMark, Write as AtWrite, Equal as AtEqual, Read as AtRead}
use Rattle.vx_core.specs.declared.stage.Phase.TheVariants.{Settled, Unsettled, Busy}
use Rattle.vx_base.specs.Blocks.{Contents}
use Rattle.vx_mask.specs.Mask.{has, only, union, without, lowest}
use Rattle.vx_mask.specs.Marks.{Marks}
use Rattle.vx_mask.proofs.MaskLemmas.{has-zero, has-union, has-without, has-only_same, has-only_other, has-lt, union-lt, only-lt, not_empty, same_as_only}
use Rattle.vx_mask.proofs.Sets.{in_union, union_cases, out_union, in_without, without_parts, out_without_left, out_of}
use Rattle.vx_mask.proofs.Tests.{not_both, true_or_false, and_none}
use Rattle.vx_core.specs.Table.{need, work}
use Rattle.vx_core.specs.History.{Call, Pending, NoCall, Writes, with_pending, overlaid, IsRecord}
use Rattle.vx_core.specs.Region.{Disks, Around, FitsIn}
use Rattle.vx_core.specs.Soundness.{freeing, IsOpenStep, AreMarkedForWrite, MarkedIn}
use Rattle.vx_core.specs.Form.{AreMasks, IsParted, IsLevel, FormIn, IsFormed}
use Rattle.vx_core.specs.Kept.{HasReached, AreLevel, ContentsIn, CallIn, IsKept}
use Rattle.std.proofs.lemmas.Bool.Decides.{nat_tests}
use Rattle.vx_life.specs.Candidates.{Any}
use Rattle.vx_mask.proofs.MarkLemmas.{lose_none}
use Rattle.vx_life.specs.Candidates.{OneOf}
use Rattle.vx_core.specs.Wrong.{AMarkedPlexMayLie, job_at, Lacks, WritesBeforeTheMark, TakesAFailedMark, ForgetsAMark, UnmarksBeforeTheCopy, ReadsAMarkedPlex, SettlesFromAMarkedPlex, two_plexes, LeavesTheFailedPlexUnmarked, SettlesThoughAWriteFailed}
use Rattle.vx_core.proofs.Begins.{need_has}
use Rattle.vx_core.proofs.Ends.{sound_from_ends, ends_from_sound}
use Rattle.vx_core.proofs.FormLaws.{blank_call, blank_last, among_blank, record_blank, begin_blank}

abbrev one_block : List ℕ
one_block = 1 ∷ []

abbrev none : List ℕ
none = []

one_is_not_zero : one_block ≡ none → ⊥
one_is_not_zero e = cc

abbrev if_at : Bool → List ℕ → List ℕ
if_at true block = block
if_at false block = none

none_anywhere : (b : Bool) → if_at b none ≡ none
none_anywhere true = refl
none_anywhere false = refl

-- a region in which one plex may hold another block than the rest, with a log of two copies
abbrev with_one : Stage → (ℕ → Bool) → ℕ → List ℕ → Job → Around
with_one s held plex block job =
    record {
      disks = record { blocks = λ k i. if_at (k == plex) block; marks = record { shows = λ n k. has s.bits k; loose = λ k. false } };
      fixed = record { held = held; copies = 2; base = λ m i. none; first = λ k. Any; region = 0; from = 0 };
      entries = [];
      pending = blank_call job;
      last = blank_last (blank_call job);
    }

-- a well formed stage with one unmarked list of blocks is kept, ..
pub kept_alike : (s : Stage) (phase : Phase) (held : ℕ → Bool) (plex : ℕ) (block : List ℕ) (job : Job) → IsFormed s phase held →
    ((k i : ℕ) → (held k ≡ true) × (has s.bits k ≡ false) → if_at (k == plex) block ≡ none) →
    CallIn phase (blank_call job) → ContentsIn s phase (blank_call job) (λ k i. if_at (k == plex) block) →
    IsKept s phase (with_one s held plex block job)
kept_alike s phase held plex block job formed same call contents =
    record {
      form = formed;
      apart = λ k h. cc;
      sound = sound_from_ends (record {
        shown = λ n k c bit. bit;
        bounded = λ n k c h. inl h;
        readable = let r = formed.readable in (r.0, r.1, record { bits = r.2; loose = refl; freeing = r.3 });
        candidates = λ k i unmarked. among_blank (blank_call job) i (if_at (k == plex) block);
        agree = inl (λ j k i at_j at_k. same j i at_j ∙ sym (same k i at_k));
        tracked = λ m k i snap out unmarked. same k i unmarked;
        marked = formed.marked;
      });
      call = call;
      contents = contents;
      history = record_blank job;
    }

-- .. as it is where all blocks are alike
all_alike : (s : Stage) (phase : Phase) (held : ℕ → Bool) (job : Job) → IsFormed s phase held → CallIn phase (blank_call job) →
    ContentsIn s phase (blank_call job) (λ k i. if_at (k == 0) none) → IsKept s phase (with_one s held 0 none job)
all_alike s phase held job formed call contents = kept_alike s phase held 0 none job formed (λ k i unmarked. none_anywhere (k == 0)) call contents

at_phase : (s : Stage) (phase : Phase) (a : Around) → s.phase ≡ phase → IsKept s phase a → IsKept s s.phase a
at_phase s phase a is kept = subst (λ (p : Phase). IsKept s p a) (sym is) kept

fits_at : (s : Stage) (phase : Phase) (a : Around) (event : Event) (now : Disks) (call : Pending) (values : Contents) → s.phase ≡ phase → FitsIn s phase a event now call values →
    FitsIn s s.phase a event now call values
fits_at s phase a event now call values is fits = subst (λ (p : Phase). FitsIn s p a event now call values) (sym is) fits

no_values_of : Contents
no_values_of i = none

not_wanted : {A : Type 0} (s : Stage) (bits m : ℕ) → AreMarkedForWrite s.off s.snaps bits s.logged → Lacks s m → has bits m ≡ false → A
not_wanted s bits m marked lacks out =
    let all = marked lacks.logged in
    elim (union_cases _ _ _ lacks.wanted) [
      | inl dirty ↦ not_both (subst (λ (k : ℕ). has bits k ≡ true) (sym (same_as_only 30 m dirty)) all.0) out
      | inr rest ↦ elim (union_cases _ _ _ rest) [ inl snap ↦ not_both (all.1 m snap) out | inr off ↦ not_both (all.2 m off) out ]
    ]

-- ---- a write without its marks

pub writes_before_the_mark : WritesBeforeTheMark
writes_before_the_mark s held m settled formed lacks keeps =
    let a = with_one s held 0 none Settle in
    let kept = at_phase s Settled a settled (all_alike s Settled held Settle formed refl tt) in
    let fits = fits_at s Settled a (Begin WriteJob) a.disks (blank_call WriteJob) no_values_of settled (refl, tt, begin_blank WriteJob) in
    let after = keeps a a.disks (blank_call WriteJob) no_values_of kept fits in
    not_wanted s s.bits m after.sound.marked lacks lacks.unmarked

pub takes_a_failed_mark : TakesAFailedMark
takes_a_failed_mark s held m marking lacks keeps =
    let a = with_one s held 0 none WriteJob in
    let kept = at_phase s _ a marking.0 (all_alike s (Busy (work WriteJob AtMark 0)) held WriteJob marking.1 tt tt) in
    let fits = fits_at s (Busy (work WriteJob AtMark 0)) a MarkFailed a.disks NoCall no_values_of marking.0 ((tt, (refl, inl (lose_none a.disks.marks))), tt) in
    let after = keeps a a.disks NoCall no_values_of kept fits in
    let needed : has (need s) m ≡ true = need_has s.logged (union (only 30) (union s.snaps s.off)) s.bits m lacks.logged lacks.wanted lacks.unmarked in
    not_both (after.sound.shown 0 m (omega arith) (in_union _ _ _ (inr needed))) lacks.unmarked

abbrev gained : Marks → ℕ → Marks
gained m b = record { shows = λ n k. (m.shows n k && not (m.loose k)) || has b k; loose = λ k. false }

pub forgets_a_mark : ForgetsAMark
forgets_a_mark s held m marking lacks apart keeps =
    let a = with_one s held 0 none WriteJob in
    let now : Disks = record { blocks = a.disks.blocks; marks = gained a.disks.marks (need s) } in
    let kept = at_phase s _ a marking.0 (all_alike s (Busy (work WriteJob AtMark 0)) held WriteJob marking.1 tt tt) in
    let fits = fits_at s (Busy (work WriteJob AtMark 0)) a Marked now NoCall no_values_of marking.0 ((tt, (refl, record { shows = λ n k. refl; loose = λ k. refl })), tt) in
    let after = keeps a now NoCall no_values_of kept fits in
    not_wanted s (union s.bits (only 30)) m after.sound.marked lacks (out_union _ _ _ lacks.unmarked (has-only_other 30 m apart))

-- ---- a mark that is taken away too early

not_same_test : (n m : ℕ) → n ≢ m → (n == m) ≡ false
not_same_test n m apart = grind (arith, nat_tests)

same_test : (n m : ℕ) → n ≡ m → (n == m) ≡ true
same_test n m e = grind (arith, nat_tests)

other_block : (s : Stage) (plex k : ℕ) → has s.bits plex ≡ true → has s.bits k ≡ false → if_at (k == plex) one_block ≡ none
other_block s plex k bit out =
    ap (λ b. if_at b one_block) (not_same_test k plex (λ e. not_both (subst (λ (n : ℕ). has s.bits n ≡ true) (sym e) bit) out))

differ : (plex source : ℕ) → source ≢ plex → if_at (plex == plex) one_block ≡ if_at (source == plex) one_block → ⊥
differ plex source apart e =
    one_is_not_zero (ap (λ b. if_at b one_block) (sym (same_test plex plex refl)) ∙ e ∙ ap (λ b. if_at b one_block) (not_same_test source plex apart))

pub unmarks_before_the_copy : UnmarksBeforeTheCopy
unmarks_before_the_copy s held plex source reading formed keeps =
    let w = job_at (CopyJob plex) AtRead source 0 0 0 in
    let a = with_one s held plex one_block (CopyJob plex) in
    let there = formed.step.3.0.source_current in
    let on = formed.step.3.1 in
    let bit = formed.step.3.2 in
    let parts = without_parts s.on s.bits source there in
    let apart : source ≢ plex = λ e. not_both (subst (λ (n : ℕ). has s.bits n ≡ true) (sym e) bit) parts.1 in
    let kept = at_phase s (Busy w) a reading (kept_alike s (Busy w) held plex one_block (CopyJob plex) formed (λ k i unmarked. other_block s plex k bit unmarked.1) tt tt) in
    let fits = fits_at s (Busy w) a Got a.disks NoCall no_values_of reading ((tt, refl), tt) in
    let after = ends_from_sound (keeps a a.disks NoCall no_values_of kept fits).sound in
    elim after.agree [
      | inl agree ↦
          differ plex source apart
          (agree plex source 0
          (formed.stage.held_on plex on, out_of s.bits (only plex) plex (has-only_same plex (has-lt s.on plex formed.stage.on_fits on)))
          (formed.stage.held_on source parts.0, out_without_left s.bits (only plex) source parts.1))
      | inr may ↦ absurd may.0
    ]

-- ---- a plex that is marked

pub reads_a_marked_plex : ReadsAMarkedPlex
reads_a_marked_plex s held plex settled formed on bit keeps =
    let a = with_one s held 0 none Settle in
    let kept = at_phase s Settled a settled (all_alike s Settled held Settle formed refl tt) in
    let fits = fits_at s Settled a (Begin ReadJob) a.disks (blank_call ReadJob) no_values_of settled (refl, tt, begin_blank ReadJob) in
    let after = keeps a a.disks (blank_call ReadJob) no_values_of kept fits in
    not_both bit (without_parts s.on s.bits plex (after.form.step.3.0 plex on)).1

-- plex holds one block, the others another, and that is the only candidate
abbrev lying : Stage → (ℕ → Bool) → ℕ → Around
lying s held plex =
    record {
      disks = record { blocks = λ k i. if_at (k == plex) one_block; marks = record { shows = λ n k. has s.bits k; loose = λ k. false } };
      fixed = record { held = held; copies = 2; base = λ m i. none; first = λ k. OneOf (none ∷ []); region = 0; from = 0 };
      entries = [];
      pending = NoCall;
      last = 0;
    }

lying_kept : (s : Stage) (held : ℕ → Bool) (plex : ℕ) → IsFormed s Settled held → has s.bits plex ≡ true → IsKept s Settled (lying s held plex)
lying_kept s held plex formed bit =
    record {
      form = formed;
      apart = λ k h. cc;
      sound = sound_from_ends (record {
        shown = λ n k c at_k. at_k;
        bounded = λ n k c h. inl h;
        readable = let r = formed.readable in (r.0, r.1, record { bits = r.2; loose = refl; freeing = r.3 });
        candidates = λ k i unmarked. inl (other_block s plex k bit unmarked.1);
        agree = inl (λ j k i at_j at_k. other_block s plex j bit at_j.1 ∙ sym (other_block s plex k bit at_k.1));
        tracked = λ m k i snap out unmarked. other_block s plex k bit unmarked.1;
        marked = formed.marked;
      });
      call = refl;
      contents = tt;
      history = record { legal = tt; counted = refl; ordered = tt };
    }

pub a_marked_plex_may_lie : AMarkedPlexMayLie
a_marked_plex_may_lie s held plex formed bit may =
    elim (may (lying s held plex) refl (lying_kept s held plex formed bit) 0) [
      | inl same ↦ one_is_not_zero (ap (λ b. if_at b one_block) (sym (same_test plex plex refl)) ∙ same)
      | inr never ↦ absurd never
    ]

pub settles_from_a_marked_plex : SettlesFromAMarkedPlex
settles_from_a_marked_plex s held unsettled formed bit keeps =
    let a = with_one s held 0 none Settle in
    let kept = at_phase s Unsettled a unsettled (all_alike s Unsettled held Settle formed refl tt) in
    let fits = fits_at s Unsettled a (Begin Settle) a.disks NoCall no_values_of unsettled (refl, tt, tt) in
    let after = keeps a a.disks NoCall no_values_of kept fits in
    not_both bit (without_parts s.on s.bits (lowest s.on) after.form.step.3.0.source_current).1

-- ---- a plex that was missed

abbrev both : ℕ
both = union (only 0) (only 1)

-- a call on one block
abbrev one_call : Call
one_call = record { session = 0; place = 0; part = record { region = 0; epoch = 0; number = 1 }; start = 0; count = 1 }

abbrev the_write : Pending
the_write = Writes one_call (λ i. one_block)

apart_30 : (k : ℕ) → has both k ≡ true → has (only 30) k ≡ false
apart_30 k on =
    elim (union_cases _ _ _ on) [
      | inl zeroth ↦ elsewhere 0 k (same_as_only 0 k zeroth) (omega arith)
      | inr first ↦ elsewhere 1 k (same_as_only 1 k first) (omega arith)
    ]
  where
    elsewhere : (n k : ℕ) → k ≡ n → n < 30 → has (only 30) k ≡ false
    elsewhere n k e low = has-only_other 30 k (λ is. absurd (omega arith))

below_64 : 30 < 64
below_64 = omega arith

not_30 : has both 30 ≡ false
not_30 = elim (true_or_false (has both 30)) [ inr out ↦ out | inl there ↦ not_both (has-only_same 30 below_64) (apart_30 30 there) ]

zero_in : has both 0 ≡ true
zero_in = in_union _ _ _ (inl (has-only_same 0 (omega arith)))

one_in : has both 1 ≡ true
one_in = in_union _ _ _ (inr (has-only_same 1 (omega arith)))

masks : AreMasks both 0 0 (only 30) true (has both)
masks =
    record {
      on_fits = union-lt (only 0) (only 1) (only-lt 0) (only-lt 1);
      off_fits = omega arith;
      snaps_fit = omega arith;
      bits_fit = only-lt 30;
      off_apart = λ k h. has-zero k;
      snaps_apart = λ k h. has-zero k;
      off_snaps = λ k h. has-zero k;
      dirty_apart = (not_30, has-zero 30, has-zero 30);
      held_on = λ k h. h;
      plexes = λ k h. inl h;
      alone = λ h j k. cc;
      unlogged = λ h k. cc;
    }

abbrev pick : Bool → List ℕ → List ℕ → List ℕ
pick true x y = x
pick false x y = y

-- plex 0 has the call, and the others have not
abbrev front : Contents
front i = overlaid the_write (λ n. none) i

abbrev halves : ℕ → Contents
halves k i = pick (k == 0) (front i) none

half_zero : (k i : ℕ) → has (only 0) k ≡ true → halves k i ≡ front i
half_zero k i there = ap (λ b. pick b (front i) none) (same_test k 0 (same_as_only 0 k there))

not_zero : {k : ℕ} → k ≡ 1 → k ≡ 0 → ⊥
not_zero e f = omega (arith, e, f)

half_one : (k i : ℕ) → has (only 1) k ≡ true → halves k i ≡ none
half_one k i there = ap (λ b. pick b (front i) none) (not_same_test k 0 (λ e. not_zero (same_as_only 1 k there) e))

front_zero : front 0 ≡ one_block
front_zero = refl

halves_differ : ((j k i : ℕ) → (has both j ≡ true) × (has (only 30) j ≡ false) → (has both k ≡ true) × (has (only 30) k ≡ false) → halves j i ≡ halves k i) → ⊥
halves_differ agree =
    one_is_not_zero
    (sym front_zero
    ∙ sym (half_zero 0 0 (has-only_same 0 (omega arith)))
    ∙ agree 0 1 0 (zero_in, apart_30 0 zero_in) (one_in, apart_30 1 one_in)
    ∙ half_one 1 0 (has-only_same 1 (omega arith)))

abbrev round_halves : Pending → ℕ → Around
round_halves call last =
    record {
      disks = record { blocks = halves; marks = record { shows = λ n k. has (only 30) k; loose = λ k. false } };
      fixed = record { held = has both; copies = 2; base = λ m i. none; first = λ k. Any; region = 0; from = 0 };
      entries = [];
      pending = call;
      last = last;
    }

half_kept : (w : Work) (call : Pending) (last : ℕ) → IsOpenStep w.step → MarkedIn (two_plexes w) (Busy w) → FormIn (two_plexes w) (Busy w) → CallIn (Busy w) call →
    ContentsIn (two_plexes w) (Busy w) call halves → ((k : ℕ) → freeing (Busy w) k ≡ false) →
    IsRecord 0 0 (λ k. Any) (with_pending call []) last → IsKept (two_plexes w) (Busy w) (round_halves call last)
half_kept w call last is_open marked form of contents nothing history =
    record {
      form = record { stage = masks; readable = (0, zero_in, apart_30 0 zero_in, nothing 0); step = form; marked = marked };
      apart = λ k h. cc;
      sound = sound_from_ends (record {
        shown = λ n k c bit. bit;
        bounded = λ n k c h. inl h;
        readable = (0, zero_in, record { bits = apart_30 0 zero_in; loose = refl; freeing = nothing 0 });
        candidates = λ k i unmarked. among_blank call i (halves k i);
        agree = inr (
          is_open,
          record {
            two = (0, 1, (λ e. absurd (omega arith)), inl zero_in, inl one_in);
            dirty = has-only_same 30 below_64;
            off = λ k off is_held. not_both off (has-zero k);
          },
        );
        tracked = λ m k i snap. not_both snap (has-zero m);
        marked = marked;
      });
      call = of;
      contents = contents;
      history = history;
    }

each_half : (x y z : Bool) → ((x || y) ≡ true → z ≡ false) → ((x || y) && not z) ≡ (y || (x || false))
each_half true true true h = let e = h refl in cc
each_half true false true h = let e = h refl in cc
each_half false true true h = let e = h refl in cc
each_half false false true h = refl
each_half true true false h = refl
each_half true false false h = refl
each_half false true false h = refl
each_half false false false h = refl

current_both : (k : ℕ) → has (without both (only 30)) k ≡ (has (only 1) k || (has (only 0) k || has 0 k))
current_both k =
    rw (has-without both (only 30) k, has-union (only 0) (only 1) k, has-zero k)
    (each_half (has (only 0) k) (has (only 1) k) (has (only 30) k) (λ h. apart_30 k (has-union (only 0) (only 1) k ∙ h)))

in_current : (k : ℕ) → has both k ≡ true → has (without both (only 30)) k ≡ true
in_current k there = in_without _ _ _ there (apart_30 k there)

one_not_zero : (k : ℕ) → (has (only 1) k && has (only 0) k) ≡ false
one_not_zero k =
    elim (true_or_false (has (only 1) k)) [
      | inr out ↦ rw out refl
      | inl there ↦
          let e : k ≡ 1 = same_as_only 1 k there in
          let zeroth : has (only 0) k ≡ false = rw e (has-only_other 0 1 (λ h. absurd (omega arith))) in
          rw zeroth (and_none (has (only 1) k))
    ]

marked_both : AreMarkedForWrite 0 0 (only 30) true
marked_both logged = (has-only_same 30 below_64, (λ m snap. not_both snap (has-zero m)), (λ k off. not_both off (has-zero k)))

not_empty_one : only 1 ≢ 0
not_empty_one = not_empty (only 1) 1 (has-only_same 1 (omega arith))

write_parted : IsParted (without both (only 30)) (only 1) (only 0) 0
write_parted =
    record {
      each = current_both;
      left_good = one_not_zero;
      left_failed = λ k. rw (has-zero k) (and_none (has (only 1) k));
      good_failed = λ k. rw (has-zero k) (and_none (has (only 0) k));
    }

write_reached : HasReached (only 1) (only 0) 0 the_write halves
write_reached =
    record {
      old = λ i. none;
      before = λ k i there. half_one k i there;
      after = λ k i there. half_zero k i there;
      torn = λ k i there. not_both there (has-zero k);
    }

write_record : IsRecord 0 0 (λ k. Any) (with_pending the_write []) 1
write_record = record { legal = (tt, tt); counted = (refl, refl, omega arith, refl); ordered = (tt, tt) }

-- the marks have not changed, and plex 1 has kept its blocks
pub leaves_the_failed_plex_unmarked : LeavesTheFailedPlexUnmarked
leaves_the_failed_plex_unmarked keeps =
    let w = job_at WriteJob AtWrite 0 (only 1) (only 0) 0 in
    let kept = half_kept w the_write 1 tt marked_both (only-lt 1, only-lt 0, omega arith, (write_parted, not_empty_one)) tt write_reached (λ k. refl) write_record in
    let after = ends_from_sound
    (keeps (round_halves the_write 1) (round_halves the_write 1).disks NoCall no_values_of kept ((tt, (record { either = λ i. inl refl; others = λ j i apart. refl }, refl)), tt)).sound in
    elim after.agree [ inl agree ↦ halves_differ agree | inr may ↦ absurd may.0 ]

settle_level : IsLevel (without both (only 30)) 0 (only 1) 0
settle_level =
    record {
      source_current = in_current 0 zero_in;
      source_kept = (has-only_other 1 0 (λ h. absurd (omega arith)), has-zero 0);
      left_current = λ k there. in_current k (in_union _ _ _ (inr there));
      failed_current = λ k there. not_both there (has-zero k);
    }

zero_left : (k : ℕ) → has (without both (only 30)) k ≡ true → has (only 1) k ≡ false → has (only 0) k ≡ true
zero_left k there out = elim (union_cases _ _ _ (without_parts _ _ _ there).0) [ inl zeroth ↦ zeroth | inr first ↦ not_both first out ]

settle_equal : AreLevel (without both (only 30)) 0 (only 1) 0 halves
settle_equal k i there out clean = half_zero k i (zero_left k there out) ∙ sym (half_zero 0 i (has-only_same 0 (omega arith)))

pub settles_though_a_write_failed : SettlesThoughAWriteFailed
settles_though_a_write_failed keeps =
    let w = job_at Settle AtEqual 0 (only 1) 0 0 in
    let kept = half_kept w NoCall 0 tt tt (only-lt 1, omega arith, omega arith, (settle_level, refl, not_empty_one)) tt settle_equal (λ k. refl)
    (record { legal = tt; counted = refl; ordered = tt }) in
    let after = ends_from_sound
    (keeps (round_halves NoCall 0) (round_halves NoCall 0).disks NoCall no_values_of kept ((tt, (record { either = λ i. inl refl; others = λ j i apart. refl }, refl)), tt)).sound in
    elim after.agree [ inl agree ↦ halves_differ agree | inr may ↦ absurd may.0 ]
