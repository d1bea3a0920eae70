-- Where no call on the log failed, each copy shows exactly the bits.
use Rattle.std.proofs.Common.{◌≡◌, inl, inr, ℕ, Bool, true, false, refl, sym, ◌∙◌, ap, subst, cond, List, [], ◌∷◌}
use Rattle.std.specs.Prelude.{◌&&◌, ◌||◌, not, ◌==◌}
use Rattle.vx_base.specs.Blocks.{Contents}
use Rattle.vx_core.specs.declared.stage.Job.{Job}
use Rattle.vx_core.specs.declared.stage.Event.{Event}
use Rattle.vx_core.specs.declared.stage.Act.{Act}
use Rattle.vx_core.specs.declared.stage.Step.{Step}
use Rattle.vx_core.specs.declared.stage.Work.{Work}
use Rattle.vx_core.specs.declared.stage.Phase.{Phase}
use Rattle.vx_core.specs.declared.stage.Stage.{Stage}
use Rattle.vx_core.specs.declared.stage.Job.TheVariants.{Read as ReadJob, Write as WriteJob, Copy as CopyJob, Settle, Clear}
use Rattle.vx_core.specs.declared.stage.Event.TheVariants.{Begin, Marked, MarkFailed, Unmarked, UnmarkFailed, Wrote, WriteFailed, Got, ReadFailed, Cut}
use Rattle.vx_core.specs.declared.stage.Step.TheVariants.{Mark as AtMark, Write as AtWrite, MarkFailed as AtMarkFailed, Find as AtFind, Equal as AtEqual, Copy as AtCopy, Unmark as AtUnmark, Read as AtRead}
use Rattle.vx_core.specs.declared.stage.Phase.TheVariants.{Settled, Unsettled, Dead, Busy}
use Rattle.vx_mask.specs.Mask.{has, only, union, without, lowest, above_lowest}
use Rattle.vx_mask.specs.Marks.{Marks, MayTidy}
use Rattle.vx_mask.proofs.MaskLemmas.{has-union, has-without, same_as_only}
use Rattle.vx_mask.proofs.MarkLemmas.{tidied_shows, tidied_loose}
use Rattle.vx_mask.proofs.Tests.{not_both, not_before}
use Rattle.vx_core.specs.Table.{current, need, act_at, work, write, copy, settle, start, wrote, level, offered, answered, begun, goes_on, next_of}
use Rattle.vx_core.specs.History.{Pending}
use Rattle.vx_core.specs.Region.{RegionState, Around, Disks, Becomes, FitsIn}
use Rattle.vx_core.specs.Soundness.{freeing}
use Rattle.vx_core.specs.Form.{FormAt}
use Rattle.vx_core.specs.Kept.{IsKept}
use Rattle.vx_core.specs.Schedule.{Happening, Comes, Elsewhere, happens, IsIdle}
use Rattle.vx_core.proofs.Jobs.{mk}
use Rattle.vx_core.proofs.Keeps.{NotBegin}
use Rattle.vx_core.proofs.Walk.{Cases, walk, at_step, NotCut}
use Rattle.vx_core.proofs.ScheduleLaws.{IsKeptState, keeps_happening}
use Rattle.vx_core.specs.Recovery.{region_after}
use Rattle.vx_core_laws.specs.Course.{EachFits}
use Rattle.vx_core_laws.specs.Exact.{IsWell, AreWell, EachLogIsExact}
use Rattle.vx_core_laws.proofs.Tracks.{not_begun}

-- the marks are the bits, and the mark that is being taken away
abbrev Shown : (ℕ → Bool) → Stage → Type 0
Shown m s = (k : ℕ) → (has s.bits k || freeing s.phase k) ≡ m k

or_nothing : (b : Bool) → (b || false) ≡ b
or_nothing true = refl
or_nothing false = refl

-- the bits alone, where nothing is being freed
at_bits : (m : ℕ → Bool) (s : Stage) (phase : Phase) → ((k : ℕ) → has s.bits k ≡ m k) → ((k : ℕ) → freeing phase k ≡ false) → Shown m (record s { phase = phase })
at_bits m s phase bits free k = ap (λ (b : Bool). has s.bits k || b) (free k) ∙ or_nothing (has s.bits k) ∙ bits k

-- a mark that leaves the bits and is being freed
parted : (b x k : ℕ) → ((j : ℕ) → has x j ≡ true → has b j ≡ true) → (has (without b x) k || has x k) ≡ has b k
parted b x k there = ap (λ (c : Bool). c || has x k) (has-without b x k) ∙ by (has b k) (has x k) (there k)
  where
    by : (p q : Bool) → (q ≡ true → p ≡ true) → ((p && not q) || q) ≡ p
    by true true h = refl
    by true false h = refl
    by false true h = absurd (false_true (h refl))
      where
        false_true : false ≡ true → ⊥
        false_true e = cc
    by false false h = refl

module _ (m : ℕ → Bool) (s : Stage) (bits : (k : ℕ) → has s.bits k ≡ m k) where
  both : (b : Bool) (x y : Stage × Act) → Shown m x.0 → Shown m y.0 → Shown m (cond b x y).0
  both true x y here there = here
  both false x y here there = there

  both_of : (b : Bool) (x y : Stage × Act) → (b ≡ true → Shown m x.0) → (b ≡ false → Shown m y.0) → Shown m (cond b x y).0
  both_of true x y here there = here refl
  both_of false x y here there = there refl

  in_phase : (phase : Phase) → ((k : ℕ) → freeing phase k ≡ false) → Shown m (record s { phase = phase })
  in_phase phase free = at_bits m s phase bits free

  of_write : Shown m (write s).0
  of_write = both (current s == 0) _ _ (in_phase Settled (λ k. refl)) (in_phase (Busy (work WriteJob AtWrite (current s))) (λ k. refl))

  of_copy : (plex left : ℕ) → Shown m (copy s (CopyJob plex) left).0
  of_copy plex left = both (left == 0) _ _ (in_phase Settled (λ k. refl)) (in_phase (Busy (record { job = CopyJob plex; step = AtRead; source = lowest left; left = above_lowest left; good = 0; failed = 0 })) (λ k. refl))

  of_settle : (job : Job) (left : ℕ) → Shown m (settle s job left).0
  of_settle job left = both (left == 0) _ _ (in_phase Unsettled (λ k. refl)) (in_phase (Busy (record { job = job; step = AtFind; source = lowest left; left = above_lowest left; good = 0; failed = 0 })) (λ k. refl))

  of_clear : has s.bits 30 ≡ true → Shown m (record s { bits = without s.bits (only 30); phase = Busy (work Clear AtUnmark 0) })
  of_clear there k = parted s.bits (only 30) k (λ j h. subst (λ (n : ℕ). has s.bits n ≡ true) (sym (same_as_only 30 j h)) there) ∙ bits k

  of_start : (job : Job) → Shown m (start s job).0
  of_start WriteJob = both (need s == 0) _ _ of_write (in_phase (Busy (work WriteJob AtMark 0)) (λ k. refl))
  of_start ReadJob = both (current s == 0) _ _ (in_phase Settled (λ k. refl)) (in_phase (Busy (work ReadJob AtRead (current s))) (λ k. refl))
  of_start (CopyJob plex) = both (has s.on plex && has s.bits plex) _ _ (of_copy plex (current s)) (in_phase Settled (λ k. refl))
  of_start Settle = in_phase Settled (λ k. refl)
  of_start Clear = both_of (has s.bits 30) _ _ of_clear (λ none. in_phase Settled (λ k. refl))

  of_wrote : (source left good failed : ℕ) → Shown m (wrote s (mk WriteJob AtWrite source left good failed)).0
  of_wrote source left good failed =
      both (left == 0) _ _
      (both (failed == 0) _ _ (in_phase Settled (λ k. refl)) (both (good == 0) _ _ (of_either (above_lowest failed == 0)) (in_phase (Busy (mk WriteJob AtMarkFailed source left good failed)) (λ k. refl))))
      (in_phase (Busy (mk WriteJob AtWrite source left good failed)) (λ k. refl))
    where
      of_either : (b : Bool) → Shown m (record s { phase = cond b Settled Unsettled })
      of_either true = in_phase Settled (λ k. refl)
      of_either false = in_phase Unsettled (λ k. refl)

  of_offer : (job : Job) (source left good failed more : ℕ) → Shown m (offered s (mk job AtRead source left good failed) more).0
  of_offer job source left good failed more = both (more == 0) _ _ (in_phase Settled (λ k. refl)) (in_phase (Busy (mk job AtRead source more good failed)) (λ k. refl))

of_level : (m : ℕ → Bool) (s : Stage) → ((k : ℕ) → has s.bits k ≡ m k) → (job : Job) (source left good failed : ℕ) → Shown m (level s (mk job AtEqual source left good failed)).0
of_level m s bits job source left good failed =
    both m s bits (left == 0) _ _
    (both m s bits (failed == 0) _ _ (of_start m (record s { phase = Settled }) bits job) (in_phase m s bits (Busy (mk job AtMarkFailed source left good failed)) (λ k. refl)))
    (in_phase m s bits (Busy (mk job AtEqual source left good failed)) (λ k. refl))

-- ---- the cases

-- what copies show after an answer that went well
abbrev after_of : Stage → Work → Step → Event → ℕ → Bool
after_of s w AtMark Marked k = has s.bits k || has (need s) k
after_of s w AtMarkFailed Marked k = has s.bits k || has w.failed k
after_of s w _ _ k = has s.bits k

abbrev StageAt : Stage → Job → Step → Event → Type 0
StageAt s job step event =
    (source left good failed : ℕ) → FormAt s (mk job step source left good failed) step job →
    Shown (after_of s (mk job step source left good failed) step event) (answered s (mk job step source left good failed) step event).0

union_bits : (b x : ℕ) (k : ℕ) → has (union b x) k ≡ (has b k || has x k)
union_bits b x k = has-union b x k

same_bits : (s : Stage) (k : ℕ) → has s.bits k ≡ has s.bits k
same_bits s k = refl

stage_cases : (s : Stage) → Cases (StageAt s)
stage_cases s =
    record {
      marked = λ source left good failed form. of_write (λ k. has s.bits k || has (need s) k) (record s { bits = union s.bits (need s) }) (union_bits s.bits (need s));
      not_marked = λ source left good failed form. in_phase (has s.bits) s (same_bits s) Settled (λ k. refl);
      reached = λ source left good failed form. of_wrote (has s.bits) s (same_bits s) source (above_lowest left) (union good (only (lowest left))) failed;
      missed = λ source left good failed form. of_wrote (has s.bits) s (same_bits s) source (above_lowest left) good (union failed (only (lowest left)));
      failed_marked = λ job source left good failed form.
          both (λ k. has s.bits k || has failed k) (record s { bits = union s.bits failed }) (union_bits s.bits failed) (good == 0) _ _
          (of_start (λ k. has s.bits k || has failed k) (record s { bits = union s.bits failed; phase = Settled }) (union_bits s.bits failed) job)
          (in_phase (λ k. has s.bits k || has failed k) (record s { bits = union s.bits failed }) (union_bits s.bits failed) Settled (λ k. refl));
      failed_not_marked = λ job source left good failed form. in_phase (has s.bits) s (same_bits s) Unsettled (λ k. refl);
      found = λ job source left good failed form. of_level (has s.bits) s (same_bits s) job source (without (current s) (only source)) good failed;
      not_found = λ job k source left good failed form. of_settle (has s.bits) s (same_bits s) job left;
      levelled = λ job source left good failed form. of_level (has s.bits) s (same_bits s) job source (above_lowest left) good failed;
      not_levelled = λ job source left good failed form. of_level (has s.bits) s (same_bits s) job source (above_lowest left) good (union failed (only (lowest left)));
      copied = λ plex source left good failed form. λ k. parted s.bits (only plex) k (λ j h. subst (λ (n : ℕ). has s.bits n ≡ true) (sym (same_as_only plex j h)) form.2);
      not_copied = λ plex source left good failed form. in_phase (has s.bits) s (same_bits s) Settled (λ k. refl);
      copy_unmarked = λ plex source left good failed form. in_phase (has s.bits) s (same_bits s) Settled (λ k. refl);
      copy_not_unmarked = λ plex source left good failed form. in_phase (has s.bits) s (same_bits s) Settled (λ k. refl);
      cleared = λ source left good failed form. in_phase (has s.bits) s (same_bits s) Settled (λ k. refl);
      not_cleared = λ source left good failed form. in_phase (has s.bits) s (same_bits s) Settled (λ k. refl);
      read = λ source left good failed form. in_phase (has s.bits) s (same_bits s) Settled (λ k. refl);
      not_read = λ k source left good failed form. of_offer (has s.bits) s (same_bits s) ReadJob source left good failed (without left (only k));
      copy_read = λ plex source left good failed form. in_phase (has s.bits) s (same_bits s) (Busy (mk (CopyJob plex) AtCopy source left good failed)) (λ k. refl);
      copy_not_read = λ plex k source left good failed form. of_copy (has s.bits) s (same_bits s) plex left;
    }

-- the copies show these marks, and none is loose
pub record Show (m : ℕ → Bool) (marks : Marks) : Type 0 where
  pub tight : (k : ℕ) → marks.loose k ≡ false
  pub shows : (n k : ℕ) → marks.shows n k ≡ m k

WellDone : Event → Type 0
WellDone MarkFailed = ⊥
WellDone UnmarkFailed = ⊥
WellDone Cut = ⊥
WellDone event = Unit {0}

abbrev MarksAt : Stage → Job → Step → Event → Type 0
MarksAt s job step event =
    (source left good failed : ℕ) → FormAt s (mk job step source left good failed) step job → (call : Pending) (old now : Disks) → WellDone event →
    Show (λ k. has s.bits k || freeing (Busy (mk job step source left good failed)) k) old.marks →
    Becomes event call source (act_at s (mk job step source left good failed) step) old now → Show (after_of s (mk job step source left good failed) step event) now.marks

gains : (x l b f : Bool) → l ≡ false → x ≡ (f || false) → ((x && not l) || b) ≡ (f || b)
gains x true b f none is = cc
gains true false b true none is = refl
gains true false b false none is = cc
gains false false b true none is = cc
gains false false b false none is = refl

loses : (x l b f : Bool) → l ≡ false → x ≡ (f || b) → (b ≡ true → f ≡ false) → ((x && not l) && not b) ≡ f
loses x true b f none is apart = cc
loses x false true true none is apart = not_both refl (apart refl)
loses true false true false none is apart = refl
loses false false true false none is apart = refl
loses true false false true none is apart = refl
loses false false false true none is apart = cc
loses true false false false none is apart = cc
loses false false false false none is apart = refl

keeps_show : (s : Stage) (old now : Disks) → now.marks ≡ old.marks → Show (λ k. has s.bits k || false) old.marks → Show (has s.bits) now.marks
keeps_show s old now same show =
    subst (λ (marks : Marks). Show (has s.bits) marks) (sym same) (record { tight = show.tight; shows = λ n k. show.shows n k ∙ or_nothing (has s.bits k) })

marks_cases : (s : Stage) → Cases (MarksAt s)
unfolding WellDone
marks_cases s =
    record {
      marked = λ source left good failed form call old now well show becomes.
          record { tight = becomes.1.loose; shows = λ n k. becomes.1.shows n k ∙ gains (old.marks.shows n k) (old.marks.loose k) (has (need s) k) (has s.bits k) (show.tight k) (show.shows n k) };
      not_marked = λ source left good failed form call old now well show becomes. absurd well;
      reached = λ source left good failed form call old now well show becomes. keeps_show s old now becomes.1 show;
      missed = λ source left good failed form call old now well show becomes. keeps_show s old now becomes.1 show;
      failed_marked = λ job source left good failed form call old now well show becomes.
          record { tight = becomes.1.loose; shows = λ n k. becomes.1.shows n k ∙ gains (old.marks.shows n k) (old.marks.loose k) (has failed k) (has s.bits k) (show.tight k) (show.shows n k) };
      failed_not_marked = λ job source left good failed form call old now well show becomes. absurd well;
      found = λ job source left good failed form call old now well show becomes. keeps_show s old now (ap (λ (d : Disks). d.marks) becomes) show;
      not_found = λ job k source left good failed form call old now well show becomes. keeps_show s old now (ap (λ (d : Disks). d.marks) becomes) show;
      levelled = λ job source left good failed form call old now well show becomes. keeps_show s old now becomes.1 show;
      not_levelled = λ job source left good failed form call old now well show becomes. keeps_show s old now becomes.1 show;
      copied = λ plex source left good failed form call old now well show becomes. keeps_show s old now becomes.1 show;
      not_copied = λ plex source left good failed form call old now well show becomes. keeps_show s old now becomes.1 show;
      copy_unmarked = λ plex source left good failed form call old now well show becomes.
          record {
            tight = becomes.1.loose;
            shows = λ n k. becomes.1.shows n k
                ∙ loses (old.marks.shows n k) (old.marks.loose k) (has (only plex) k) (has s.bits k) (show.tight k) (show.shows n k) (λ h. subst (λ (j : ℕ). has s.bits j ≡ false) (sym (same_as_only plex k h)) form.1);
          };
      copy_not_unmarked = λ plex source left good failed form call old now well show becomes. absurd well;
      cleared = λ source left good failed form call old now well show becomes.
          record {
            tight = becomes.1.loose;
            shows = λ n k. becomes.1.shows n k
                ∙ loses (old.marks.shows n k) (old.marks.loose k) (has (only 30) k) (has s.bits k) (show.tight k) (show.shows n k) (λ h. subst (λ (j : ℕ). has s.bits j ≡ false) (sym (same_as_only 30 k h)) form.0);
          };
      not_cleared = λ source left good failed form call old now well show becomes. absurd well;
      read = λ source left good failed form call old now well show becomes. keeps_show s old now (ap (λ (d : Disks). d.marks) becomes) show;
      not_read = λ k source left good failed form call old now well show becomes. keeps_show s old now (ap (λ (d : Disks). d.marks) becomes) show;
      copy_read = λ plex source left good failed form call old now well show becomes. keeps_show s old now (ap (λ (d : Disks). d.marks) becomes) show;
      copy_not_read = λ plex k source left good failed form call old now well show becomes. keeps_show s old now (ap (λ (d : Disks). d.marks) becomes) show;
    }

-- ---- every event

well_event : (event : Event) (now : Disks) (call : Pending) (values : Contents) → IsWell (Comes event now call values) → WellDone event
unfolding WellDone
well_event (Begin job) now call values well = tt
well_event Marked now call values well = tt
well_event MarkFailed now call values well = absurd well
well_event Unmarked now call values well = tt
well_event UnmarkFailed now call values well = absurd well
well_event Wrote now call values well = tt
well_event WriteFailed now call values well = tt
well_event Got now call values well = tt
well_event (ReadFailed j) now call values well = tt
well_event Cut now call values well = absurd well

not_cut : (event : Event) → WellDone event → NotCut event
unfolding WellDone
not_cut Cut well = absurd well
not_cut (Begin job) well = tt
not_cut Marked well = tt
not_cut MarkFailed well = tt
not_cut Unmarked well = tt
not_cut UnmarkFailed well = tt
not_cut Wrote well = tt
not_cut WriteFailed well = tt
not_cut Got well = tt
not_cut (ReadFailed j) well = tt

-- what the copies show is the bits, and the mark that is being taken away
abbrev IsShown : Stage → Phase → Marks → Type 0
IsShown s phase marks = Show (λ k. has s.bits k || freeing phase k) marks

-- a show of the same marks
show_as : (m n : ℕ → Bool) (marks : Marks) → ((k : ℕ) → n k ≡ m k) → Show m marks → Show n marks
show_as m n marks same show = record { tight = show.tight; shows = λ c k. show.shows c k ∙ sym (same k) }

after_busy : (s : Stage) (w : Work) (a : Around) (event : Event) (now : Disks) (call : Pending) (values : Contents) → IsKept s (Busy w) a → IsShown s (Busy w) a.disks.marks → WellDone event →
    FitsIn s (Busy w) a event now call values → IsShown (answered s w w.step event).0 (answered s w w.step event).0.phase now.marks
after_busy s w a event now call values kept show well fits =
    let at = at_step s w w.step w.job kept.form.step.3 in
    let shown = walk (StageAt s) (stage_cases s) s w.job w.step w.source w.left w.good w.failed event at (not_cut event well) fits.0.0 w.source w.left w.good w.failed kept.form.step.3 in
    let marks = walk (MarksAt s) (marks_cases s) s w.job w.step w.source w.left w.good w.failed event at (not_cut event well) fits.0.0 w.source w.left w.good w.failed kept.form.step.3 a.pending a.disks now well show fits.0.1 in
    show_as (after_of s w w.step event) (λ k. has (answered s w w.step event).0.bits k || freeing (answered s w w.step event).0.phase k) now.marks shown marks

idle_show : (s : Stage) (phase : Phase) (old now : Disks) (m : ℕ → Bool) → now ≡ old → ((k : ℕ) → freeing phase k ≡ false) → IsShown s phase old.marks → Show (has s.bits) now.marks
idle_show s phase old now m same free show =
    subst (λ (d : Disks). Show (has s.bits) d.marks) (sym same) (record { tight = show.tight; shows = λ n k. show.shows n k ∙ ap (λ (b : Bool). has s.bits k || b) (free k) ∙ or_nothing (has s.bits k) })

after_begun : (s : Stage) (phase : Phase) (a : Around) (job : Job) (now : Disks) (call : Pending) (values : Contents) → IsKept s phase a → IsShown s phase a.disks.marks →
    FitsIn s phase a (Begin job) now call values → IsShown (begun s phase job).0 (begun s phase job).0.phase now.marks
after_begun s Settled a job now call values kept show fits =
    show_as (has s.bits) (λ k. has (start s job).0.bits k || freeing (start s job).0.phase k) now.marks (of_start (has s.bits) s (same_bits s) job) (idle_show s Settled a.disks now (has s.bits) fits.0 (λ k. refl) show)
after_begun s Unsettled a job now call values kept show fits =
    show_as (has s.bits) (λ k. has (settle s job (current s)).0.bits k || freeing (settle s job (current s)).0.phase k) now.marks (of_settle (has s.bits) s (same_bits s) job (current s)) (idle_show s Unsettled a.disks now (has s.bits) fits.0 (λ k. refl) show)
after_begun s Dead a job now call values kept show fits =
    show_as (has s.bits) (λ k. has s.bits k || false) now.marks (λ k. or_nothing (has s.bits k)) (idle_show s Dead a.disks now (has s.bits) fits.0 (λ k. refl) show)
after_begun s (Busy w) a job now call values kept show fits = not_begun s w a job now call values fits

after_on : (s : Stage) (phase : Phase) (a : Around) (event : Event) (now : Disks) (call : Pending) (values : Contents) → IsKept s phase a → IsShown s phase a.disks.marks → WellDone event → NotBegin event →
    FitsIn s phase a event now call values → IsShown (goes_on s phase event).0 (goes_on s phase event).0.phase now.marks
unfolding WellDone
after_on s (Busy w) a event now call values kept show well there fits = after_busy s w a event now call values kept show well fits
after_on s phase a (Begin job) now call values kept show well there fits = absurd there
after_on s Settled a Cut now call values kept show well there fits = absurd well
after_on s Unsettled a Cut now call values kept show well there fits = absurd well
after_on s Dead a Cut now call values kept show well there fits = absurd well
after_on s phase a event now call values kept show well there fits = absurd fits

after : (s : Stage) (a : Around) (event : Event) (now : Disks) (call : Pending) (values : Contents) → IsKept s s.phase a → IsShown s s.phase a.disks.marks → WellDone event →
    FitsIn s s.phase a event now call values → IsShown (next_of s event).0 (next_of s event).0.phase now.marks
unfolding WellDone
after s a Cut now call values kept show well fits = absurd well
after s a (Begin job) now call values kept show well fits = after_begun s s.phase a job now call values kept show fits
after s a Marked now call values kept show well fits = after_on s s.phase a Marked now call values kept show tt tt fits
after s a MarkFailed now call values kept show well fits = absurd well
after s a Unmarked now call values kept show well fits = after_on s s.phase a Unmarked now call values kept show tt tt fits
after s a UnmarkFailed now call values kept show well fits = absurd well
after s a Wrote now call values kept show well fits = after_on s s.phase a Wrote now call values kept show tt tt fits
after s a WriteFailed now call values kept show well fits = after_on s s.phase a WriteFailed now call values kept show tt tt fits
after s a Got now call values kept show well fits = after_on s s.phase a Got now call values kept show tt tt fits
after s a (ReadFailed j) now call values kept show well fits = after_on s s.phase a (ReadFailed j) now call values kept show tt tt fits

-- marks that are tidied where none is loose stay
tidied_show : (m : ℕ → Bool) (old now : Marks) → MayTidy old now → Show m old → Show m now
tidied_show m old now tidy show =
    record {
      tight = λ k. not_before _ _ (tidied_loose old now tidy k) (show.tight k);
      shows = λ n k. elim (tidied_shows old now tidy n k) [ inl kept ↦ kept ∙ show.shows n k | inr gone ↦ not_both gone.0 (show.tight k) ];
    }

show_all : (hs : List Happening) (r : RegionState) → IsKeptState r → IsShown r.stage r.stage.phase r.around.disks.marks → EachFits hs r → AreWell hs →
    IsShown (region_after hs r).stage (region_after hs r).stage.phase (region_after hs r).around.disks.marks
show_all [] r kept show fits well = show
show_all (Comes event now call values ∷ hs) r kept show fits well =
    show_all hs (happens r (Comes event now call values)) (keeps_happening r (Comes event now call values) kept fits.0)
    (after r.stage r.around event now call values kept show (well_event event now call values well.0) fits.0) fits.1 well.1
show_all (Elsewhere marks ∷ hs) r kept show fits well =
    show_all hs (happens r (Elsewhere marks)) (keeps_happening r (Elsewhere marks) kept fits.0)
    (tidied_show (λ k. has r.stage.bits k || freeing r.stage.phase k) r.around.disks.marks marks fits.0 show) fits.1 well.1

idle_free : (phase : Phase) → IsIdle phase → (k : ℕ) → freeing phase k ≡ false
idle_free (Busy w) idle k = absurd idle
idle_free phase idle k = refl

pub each_log_is_exact : EachLogIsExact
each_log_is_exact was hs kept idle exact fits well ends =
    let show = show_all hs was kept (record { tight = exact.tight; shows = λ n k. exact.shows n k ∙ sym (ap (λ (b : Bool). has was.stage.bits k || b) (idle_free was.stage.phase idle k) ∙ or_nothing (has was.stage.bits k)) }) fits well in
    let now = region_after hs was in
    record {
      tight = show.tight;
      shows = λ n k. show.shows n k ∙ ap (λ (b : Bool). has now.stage.bits k || b) (idle_free now.stage.phase ends k) ∙ or_nothing (has now.stage.bits k);
    }
