-- A read, a write or a settling answers Fault only where the log failed, or each plex that was current as the call began.
use Rattle.std.proofs.Common.{◌≡◌, ℕ, ◌⊎◌, inl, inr, Bool, true, false, refl, sym, subst, cond}
use Rattle.std.specs.Prelude.{◌==◌}
use Rattle.vx_core.specs.declared.stage.Job.{Job}
use Rattle.vx_core.specs.declared.stage.Event.{Event}
use Rattle.vx_core.specs.declared.stage.Act.{Act}
use Rattle.vx_core.specs.declared.stage.Step.{Step}
use Rattle.vx_core.specs.declared.stage.Work.{Work}
use Rattle.vx_core.specs.declared.stage.Phase.{Phase}
use Rattle.vx_core.specs.declared.stage.Stage.{Stage}
use Rattle.vx_core.specs.declared.stage.Job.TheVariants.{Read as ReadJob, Write as WriteJob, Copy as CopyJob, Settle, Clear}
use Rattle.vx_core.specs.declared.stage.Event.TheVariants.{Begin, Marked, MarkFailed, Unmarked, UnmarkFailed, Wrote, WriteFailed, Got, ReadFailed, Cut}
use Rattle.vx_core.specs.declared.stage.Act.TheVariants.{Fault, Lost}
use Rattle.vx_core.specs.declared.stage.Step.TheVariants.{Write as AtWrite, MarkFailed as AtMarkFailed, Equal as AtEqual, Read as AtRead}
use Rattle.vx_core.specs.declared.stage.Phase.TheVariants.{Settled, Unsettled, Dead, Busy}
use Rattle.vx_mask.specs.Mask.{has, only, union, without, lowest, above_lowest}
use Rattle.vx_mask.proofs.MaskLemmas.{has-zero, has-lowest, same_as_only, empty_from_test}
use Rattle.vx_mask.proofs.Sets.{union_cases, out_union, in_without, without_parts}
use Rattle.vx_mask.proofs.Tests.{not_both, true_or_false}
use Rattle.vx_core.specs.Table.{current, need, act_at, ended, write, settle, start, wrote, level, marked_failed, offered, answered, begun, goes_on, next_of}
use Rattle.vx_core.specs.Region.{told, MayAnswer}
use Rattle.vx_core.specs.Form.{IsStage, IsParted, FormIn}
use Rattle.vx_core.specs.Causes.{Faults, HasFailed, HasCause, StillOrFailed, IsPlain, KnowsFaults, Blames, CausesFrom}
use Rattle.vx_core.proofs.Begins.{need_free}
use Rattle.vx_core.proofs.Jobs.{mk}
use Rattle.vx_core.proofs.Keeps.{NotBegin}
use Rattle.vx_core.proofs.Walk.{Cases, walk, at_step, NotCut}
use Rattle.vx_core.proofs.Writes.{parted_good, parted_failed, failed_of}

if_blames : (b : Bool) (x y : Stage × Act) (began : ℕ) (f : Faults) → (b ≡ true → Blames x began f) → (b ≡ false → Blames y began f) → Blames (cond b x y) began f
if_blames true x y began f here there = here refl
if_blames false x y began f here there = there refl

grown_base : (s : Stage) (began : ℕ) (f g : Faults) → ((k : ℕ) → f.plex k ≡ true → g.plex k ≡ true) → StillOrFailed s began f → StillOrFailed s began g
grown_base s began f g more base k there = elim (base k there) [ inl still ↦ inl still | inr bad ↦ inr (more k bad) ]

-- no plex is current, so each has failed
none_left : (s : Stage) (began : ℕ) (f : Faults) → StillOrFailed s began f → current s ≡ 0 → HasCause began f
none_left s began f base none =
    inr (λ k there.
    elim (base k there) [ inl still ↦ not_both (subst (λ (m : ℕ). has m k ≡ true) none still) (has-zero k) | inr bad ↦ bad ])

blame_write : (s : Stage) (began : ℕ) (f : Faults) → StillOrFailed s began f → Blames (write s) began f
blame_write s began f base =
    if_blames (current s == 0) _ _ began f
    (λ none. (tt, none_left s began f base (empty_from_test (current s) none)))
    (λ some. ((tt, base, (λ k h. not_both h (has-zero k))), tt))

blame_start : (s : Stage) (job : Job) (began : ℕ) (f : Faults) → IsPlain job → StillOrFailed s began f → Blames (start s job) began f
blame_start s WriteJob began f plain base =
    if_blames (need s == 0) _ _ began f (λ none. blame_write s began f base) (λ some. ((tt, base, tt), tt))
blame_start s ReadJob began f plain base =
    if_blames (current s == 0) _ _ began f
    (λ none. (tt, none_left s began f base (empty_from_test (current s) none)))
    (λ some. ((tt, base, (λ k h. inl h)), tt))
blame_start s Settle began f plain base = (tt, tt)
blame_start s (CopyJob k) began f plain base = absurd plain
blame_start s Clear began f plain base = absurd plain

marked_base : (s : Stage) (held : ℕ → Bool) (began : ℕ) (f : Faults) → IsStage s held → StillOrFailed s began f → StillOrFailed (record s { bits = union s.bits (need s) }) began f
marked_base s held began f stage base k there =
    elim (base k there) [
      | inr bad ↦ inr bad
      | inl still ↦ let parts = without_parts _ _ _ still in inl (in_without _ _ _ parts.0 (out_union _ _ _ parts.1 (need_free s held stage k parts.0)))
    ]

failed_more : (failed k0 : ℕ) (f g : Faults) → ((k : ℕ) → f.plex k ≡ true → g.plex k ≡ true) → ((k : ℕ) → has failed k ≡ true → f.plex k ≡ true) → g.plex k0 ≡ true →
    (k : ℕ) → has (union failed (only k0)) k ≡ true → g.plex k ≡ true
failed_more failed k0 f g more known told k there =
    elim (union_cases _ _ _ there) [ inl old ↦ more k (known k old) | inr here ↦ subst (λ (m : ℕ). g.plex m ≡ true) (sym (same_as_only k0 k here)) told ]

either_cause : (s : Stage) (b : Bool) (began : ℕ) (f : Faults) → HasCause began f → Blames (ended s (cond b Settled Unsettled) Fault) began f
either_cause s true began f cause = (tt, cause)
either_cause s false began f cause = (tt, cause)

blame_wrote : (s : Stage) (source left good failed began : ℕ) (f : Faults) → StillOrFailed s began f → ((k : ℕ) → has failed k ≡ true → f.plex k ≡ true) →
    IsParted (current s) left good failed → Blames (wrote s (mk WriteJob AtWrite source left good failed)) began f
blame_wrote s source left good failed began f base known parted =
    if_blames (left == 0) _ _ began f
    (λ last.
    let none_left_over : IsParted (current s) 0 good failed = subst (λ (l : ℕ). IsParted (current s) l good failed) (empty_from_test left last) parted in
    if_blames (failed == 0) _ _ began f
    (λ none. (tt, tt))
    (λ some.
    if_blames (good == 0) _ _ began f
    (λ none.
    either_cause s (above_lowest failed == 0) began f
    (inr (λ k there.
    elim (base k there) [
      | inr bad ↦ bad
      | inl still ↦
          known k (failed_of (current s) good failed k none_left_over still (subst (λ (m : ℕ). has m k ≡ false) (sym (empty_from_test good none)) (has-zero k)))
    ])))
    (λ reached. ((tt, base, known), tt))))
    (λ more. ((tt, base, known), tt))

blame_marked : (s : Stage) (job : Job) (source left good failed began : ℕ) (f : Faults) → IsPlain job → StillOrFailed s began f → ((k : ℕ) → has failed k ≡ true → f.plex k ≡ true) →
    Blames (marked_failed (record s { bits = union s.bits failed }) (mk job AtMarkFailed source left good failed)) began f
blame_marked s job source left good failed began f plain base known =
    if_blames (good == 0) _ _ began f
    (λ none.
    blame_start (record s { bits = union s.bits failed; phase = Settled }) job began f plain
    (λ k there.
    elim (base k there) [
      | inr bad ↦ inr bad
      | inl still ↦
          let parts = without_parts _ _ _ still in
          elim (true_or_false (has failed k)) [
            | inl bad ↦ inr (known k bad)
            | inr fine ↦ inl (in_without _ _ _ parts.0 (out_union _ _ _ parts.1 fine))
          ]
    ]))
    (λ reached. (tt, tt))

blame_level : (s : Stage) (job : Job) (source left good failed began : ℕ) (f : Faults) → IsPlain job → StillOrFailed s began f → ((k : ℕ) → has failed k ≡ true → f.plex k ≡ true) →
    Blames (level s (mk job AtEqual source left good failed)) began f
blame_level s job source left good failed began f plain base known =
    if_blames (left == 0) _ _ began f
    (λ last.
    if_blames (failed == 0) _ _ began f
    (λ none. blame_start (record s { phase = Settled }) job began f plain base)
    (λ some. ((plain, base, known), tt)))
    (λ more. ((plain, base, known), tt))

find_more : (s : Stage) (source left : ℕ) (f g : Faults) → ((k : ℕ) → f.plex k ≡ true → g.plex k ≡ true) →
    ((k : ℕ) → has (current s) k ≡ true → (has left k ≡ true) ⊎ ((k ≡ source) ⊎ (f.plex k ≡ true))) → g.plex source ≡ true →
    (k : ℕ) → has (current s) k ≡ true → (has left k ≡ true) ⊎ (g.plex k ≡ true)
find_more s source left f g more known told k there =
    elim (known k there) [
      | inl still ↦ inl still
      | inr rest ↦ inr (elim rest [ inl here ↦ subst (λ (m : ℕ). g.plex m ≡ true) (sym here) told | inr bad ↦ more k bad ])
    ]

blame_settle : (s : Stage) (job : Job) (left began : ℕ) (f : Faults) → IsPlain job → StillOrFailed s began f → ((k : ℕ) → has (current s) k ≡ true → (has left k ≡ true) ⊎ (f.plex k ≡ true)) →
    Blames (settle s job left) began f
blame_settle s job left began f plain base known =
    if_blames (left == 0) _ _ began f
    (λ none. (
      tt,
      inr (λ k there.
          elim (base k there) [
            | inr bad ↦ bad
            | inl still ↦
                elim (known k still) [
                  | inl more ↦ not_both (subst (λ (m : ℕ). has m k ≡ true) (empty_from_test left none) more) (has-zero k)
                  | inr bad ↦ bad
                ]
          ]),
    ))
    (λ some. (
      (
        plain,
        base,
        (λ k there.
            elim (known k there) [
              | inr bad ↦ inr (inr bad)
              | inl more ↦
                  elim (true_or_false (has (only (lowest left)) k)) [
                    | inl here ↦ inr (inl (same_as_only (lowest left) k here))
                    | inr other ↦ inl (in_without _ _ _ more other)
                  ]
            ]),
      ),
      tt,
    ))

still_offered : (left plex k : ℕ) (f g : Faults) → ((k : ℕ) → f.plex k ≡ true → g.plex k ≡ true) → g.plex plex ≡ true → (has left k ≡ true) ⊎ (f.plex k ≡ true) →
    (has (without left (only plex)) k ≡ true) ⊎ (g.plex k ≡ true)
still_offered left plex k f g more told (inr bad) = inr (more k bad)
still_offered left plex k f g more told (inl there) =
    elim (true_or_false (has (only plex) k)) [
      | inl here ↦ inr (subst (λ (m : ℕ). g.plex m ≡ true) (sym (same_as_only plex k here)) told)
      | inr other ↦ inl (in_without _ _ _ there other)
    ]

blame_offered : (s : Stage) (source left good failed plex began : ℕ) (f g : Faults) → StillOrFailed s began g → ((k : ℕ) → f.plex k ≡ true → g.plex k ≡ true) →
    ((k : ℕ) → has (current s) k ≡ true → (has left k ≡ true) ⊎ (f.plex k ≡ true)) → g.plex plex ≡ true →
    Blames (offered s (mk ReadJob AtRead source left good failed) (without left (only plex))) began g
blame_offered s source left good failed plex began f g base more known told =
    let now = λ (k : ℕ) (there : has (current s) k ≡ true). still_offered left plex k f g more told (known k there) in
    if_blames (without left (only plex) == 0) _ _ began g
    (λ none. (
      tt,
      inr (λ k there.
          elim (base k there) [
            | inr bad ↦ bad
            | inl still ↦
                elim (now k still) [
                  | inl left_still ↦ not_both (subst (λ (m : ℕ). has m k ≡ true) (empty_from_test (without left (only plex)) none) left_still) (has-zero k)
                  | inr bad ↦ bad
                ]
          ]),
    ))
    (λ some. ((tt, base, now), tt))

-- the answer has its cause, and what is known of the failures stays known
abbrev BlamesAt : Stage → Job → Step → Event → Type 0
BlamesAt s job step event =
    (source left good failed : ℕ) (held : ℕ → Bool) (began : ℕ) (f g : Faults) → FormIn s (Busy (mk job step source left good failed)) → IsStage s held →
    KnowsFaults s (Busy (mk job step source left good failed)) began f → HasFailed (act_at s (mk job step source left good failed) step) event f g →
    MayAnswer (act_at s (mk job step source left good failed) step) event → Blames (answered s (mk job step source left good failed) step event) began g

blame_cases : (s : Stage) → Cases (BlamesAt s)
blame_cases s =
    record {
      marked = λ source left good failed held began f g form stage knows grown may. blame_write (record s { bits = union s.bits (need s) }) began g (marked_base s held began g stage (grown_base s began f g grown.plex knows.1));
      not_marked = λ source left good failed held began f g form stage knows grown may. (tt, inl grown.told);
      reached = λ source left good failed held began f g form stage knows grown may.
          blame_wrote s source (above_lowest left) (union good (only (lowest left))) failed began g (grown_base s began f g grown.plex knows.1) (λ k h. grown.plex k (knows.2 k h))
          (parted_good (current s) left good failed (lowest left) (has-lowest left form.3.1 form.0) form.3.0);
      missed = λ source left good failed held began f g form stage knows grown may.
          blame_wrote s source (above_lowest left) good (union failed (only (lowest left))) began g (grown_base s began f g grown.plex knows.1) (failed_more failed (lowest left) f g grown.plex knows.2 grown.told)
          (parted_failed (current s) left good failed (lowest left) (has-lowest left form.3.1 form.0) form.3.0);
      failed_marked = λ job source left good failed held began f g form stage knows grown may. blame_marked s job source left good failed began g knows.0 (grown_base s began f g grown.plex knows.1) (λ k h. grown.plex k (knows.2 k h));
      failed_not_marked = λ job source left good failed held began f g form stage knows grown may. (tt, inl grown.told);
      found = λ job source left good failed held began f g form stage knows grown may.
          blame_level s job source (without (current s) (only source)) good failed began g knows.0 (grown_base s began f g grown.plex knows.1) (λ k h. not_both (subst (λ (m : ℕ). has m k ≡ true) form.3.2 h) (has-zero k));
      not_found = λ job other source left good failed held began f g form stage knows grown may.
          blame_settle s job left began g knows.0 (grown_base s began f g grown.plex knows.1) (find_more s source left f g grown.plex knows.2 (subst (λ (m : ℕ). g.plex m ≡ true) may grown.told));
      levelled = λ job source left good failed held began f g form stage knows grown may. blame_level s job source (above_lowest left) good failed began g knows.0 (grown_base s began f g grown.plex knows.1) (λ k h. grown.plex k (knows.2 k h));
      not_levelled = λ job source left good failed held began f g form stage knows grown may.
          blame_level s job source (above_lowest left) good (union failed (only (lowest left))) began g knows.0 (grown_base s began f g grown.plex knows.1) (failed_more failed (lowest left) f g grown.plex knows.2 grown.told);
      copied = λ job source left good failed held began f g form stage knows grown may. absurd knows.0;
      not_copied = λ job source left good failed held began f g form stage knows grown may. absurd knows.0;
      copy_unmarked = λ job source left good failed held began f g form stage knows grown may. absurd knows.0;
      copy_not_unmarked = λ job source left good failed held began f g form stage knows grown may. absurd knows.0;
      cleared = λ source left good failed held began f g form stage knows grown may. absurd knows.0;
      not_cleared = λ source left good failed held began f g form stage knows grown may. absurd knows.0;
      read = λ source left good failed held began f g form stage knows grown may. (tt, tt);
      not_read = λ other source left good failed held began f g form stage knows grown may.
          blame_offered s source left good failed other began f g (grown_base s began f g grown.plex knows.1) grown.plex knows.2 grown.told;
      copy_read = λ job source left good failed held began f g form stage knows grown may. absurd knows.0;
      copy_not_read = λ plex other source left good failed held began f g form stage knows grown may. absurd knows.0;
    }

blame_busy : (s : Stage) (w : Work) (event : Event) → NotCut event → CausesFrom s (Busy w) event (answered s w w.step event)
blame_busy s w event here held began f g formed may knows grown =
    walk (BlamesAt s) (blame_cases s) s w.job w.step w.source w.left w.good w.failed event (at_step s w w.step w.job formed.step.3) here may
    w.source w.left w.good w.failed held began f g formed.step formed.stage knows grown may

causes_on : (s : Stage) (phase : Phase) (event : Event) → NotCut event → NotBegin event → CausesFrom s phase event (goes_on s phase event)
causes_on s phase (Begin job) here there = absurd there
causes_on s phase Cut here there = absurd here
causes_on s (Busy w) Marked here there = blame_busy s w Marked tt
causes_on s phase Marked here there = tt
causes_on s (Busy w) MarkFailed here there = blame_busy s w MarkFailed tt
causes_on s phase MarkFailed here there = tt
causes_on s (Busy w) Unmarked here there = blame_busy s w Unmarked tt
causes_on s phase Unmarked here there = tt
causes_on s (Busy w) UnmarkFailed here there = blame_busy s w UnmarkFailed tt
causes_on s phase UnmarkFailed here there = tt
causes_on s (Busy w) Wrote here there = blame_busy s w Wrote tt
causes_on s phase Wrote here there = tt
causes_on s (Busy w) WriteFailed here there = blame_busy s w WriteFailed tt
causes_on s phase WriteFailed here there = tt
causes_on s (Busy w) Got here there = blame_busy s w Got tt
causes_on s phase Got here there = tt
causes_on s (Busy w) (ReadFailed other) here there = blame_busy s w (ReadFailed other) tt
causes_on s phase (ReadFailed other) here there = tt

causes_begun : (s : Stage) (phase : Phase) (job : Job) → CausesFrom s phase (Begin job) (begun s phase job)
causes_begun s Settled job = λ f plain. blame_start s job (current s) f plain (λ k there. inl there)
causes_begun s Unsettled job = λ f plain. blame_settle s job (current s) (current s) f plain (λ k there. inl there) (λ k there. inl there)
causes_begun s Dead job = tt
causes_begun s (Busy w) job = blame_busy s w (Begin job) tt

causes_cut : (s : Stage) (phase : Phase) → CausesFrom s phase Cut (ended s Dead Lost)
causes_cut s (Busy w) = λ held began f g formed may knows grown. (tt, tt)
causes_cut s phase = tt

pub causes : (s : Stage) (event : Event) → CausesFrom s s.phase event (next_of s event)
causes s (Begin job) = causes_begun s s.phase job
causes s Cut = causes_cut s s.phase
causes s Marked = causes_on s s.phase Marked tt tt
causes s MarkFailed = causes_on s s.phase MarkFailed tt tt
causes s Unmarked = causes_on s s.phase Unmarked tt tt
causes s UnmarkFailed = causes_on s s.phase UnmarkFailed tt tt
causes s Wrote = causes_on s s.phase Wrote tt tt
causes s WriteFailed = causes_on s s.phase WriteFailed tt tt
causes s Got = causes_on s s.phase Got tt tt
causes s (ReadFailed other) = causes_on s s.phase (ReadFailed other) tt tt
