-- What an answer leaves of the bits and of the failures of a region: a walk over the table.
use Rattle.std.proofs.Common.{◌≡◌, ◌⊎◌, inl, inr, ℕ, Bool, true, false, refl, sym, ◌∙◌, subst, cond, arith}
use Rattle.std.specs.Prelude.{◌&&◌, ◌==◌}
use Rattle.vx_core.specs.declared.stage.Job.{Job}
use Rattle.vx_core.specs.declared.stage.Event.{Event}
use Rattle.vx_core.specs.declared.stage.Act.{Act}
use Rattle.vx_core.specs.declared.stage.Step.{Step}
use Rattle.vx_core.specs.declared.stage.Work.{Work}
use Rattle.vx_core.specs.declared.stage.Phase.{Phase}
use Rattle.vx_core.specs.declared.stage.Stage.{Stage}
use Rattle.vx_core.specs.declared.stage.Job.TheVariants.{Read as ReadJob, Write as WriteJob, Copy as CopyJob, Settle, Clear}
use Rattle.vx_core.specs.declared.stage.Event.TheVariants.{Begin, Marked, MarkFailed, Wrote, Cut}
use Rattle.vx_core.specs.declared.stage.Act.TheVariants.{Mark, WriteCall, WriteRegion, ReadCall, ReadRegion, Done, Skipped, Fault, Lost}
use Rattle.vx_core.specs.declared.stage.Step.TheVariants.{Mark as AtMark, Write as AtWrite, MarkFailed as AtMarkFailed, Find as AtFind, Equal as AtEqual, Copy as AtCopy, Unmark as AtUnmark, Read as AtRead}
use Rattle.vx_core.specs.declared.stage.Phase.TheVariants.{Settled, Unsettled, Dead, Busy}
use Rattle.vx_mask.specs.Mask.{has, only, union, without, lowest, above_lowest}
use Rattle.std.proofs.lemmas.Bool.Decides.{nat_tests}
use Rattle.vx_mask.proofs.MaskLemmas.{has-zero, has-union, has-without, same_as_only}
use Rattle.vx_mask.proofs.Tests.{not_both, true_or_false, or_cases, or_from_left, and_not, and_not_parts}
use Rattle.vx_core.specs.Table.{current, need, act_at, ended, busy, work, write, copy, settle, start, wrote, level, offered, answered, begun}
use Rattle.vx_core.specs.Soundness.{IsMarkedForWrite, freeing, MarkedAtStep}
use Rattle.vx_core.specs.Schedule.{IsIdle}
use Rattle.vx_core.specs.Form.{IsStage, FormAt, IsFormed}
use Rattle.vx_core.specs.Follow.{SameMasks}
use Rattle.vx_core.specs.Region.{MayAnswer}
use Rattle.vx_core.proofs.Jobs.{mk}
use Rattle.vx_core.proofs.Walk.{Cases, walk, at_step, NotCut}
use Rattle.vx_core_laws.specs.Tracking.{IsOther, fails_at}

-- the plexes that have failed in the job
abbrev pub failed_at : Work → Step → ℕ
failed_at w AtWrite = w.failed
failed_at w AtEqual = w.failed
failed_at w AtMarkFailed = w.failed
failed_at w _ = 0

abbrev pub failed_of : Phase → ℕ
failed_of (Busy w) = failed_at w w.step
failed_of _ = 0

-- the plexes are being made equal, or wait for it
abbrev pub settling_at : Work → Step → Bool
settling_at w AtFind = true
settling_at w AtEqual = true
settling_at w AtMarkFailed = w.good == 0
settling_at w _ = false

abbrev pub settling : Phase → Bool
settling (Busy w) = settling_at w w.step
settling Unsettled = true
settling Settled = false
settling Dead = false

-- the marks that an act writes
abbrev pub marked_by : Act → ℕ
marked_by (Mark b) = b
marked_by _ = 0

-- What an answer leaves: of a stage, with these marks written, these plexes failed before and this one now, settling or not.
pub record Goes (s : Stage) (marked before : ℕ) (fails : ℕ → Bool) (was : Bool) (job : Job) (x : Stage × Act) : Type 0 where
  pub masks : SameMasks s x.0
  -- bits of what is not written to stay
  pub stay : (k : ℕ) → IsOther s k → has s.bits k ≡ true → has x.0.bits k ≡ true
  -- a bit was there, or was marked
  pub bits : (k : ℕ) → has x.0.bits k ≡ true → (has s.bits k ≡ true) ⊎ (has marked k ≡ true)
  pub freed : (k : ℕ) → freeing x.0.phase k ≡ true → (has s.bits k ≡ true) ⊎ (has marked k ≡ true)
  -- a write that is done has its marks
  pub done : x.1 ≡ Done → job ≡ WriteJob → IsMarkedForWrite s
  -- a write is not skipped
  pub skips : x.1 ≡ Skipped → job ≡ WriteJob → ⊥
  pub failed : (k : ℕ) → has (failed_of x.0.phase) k ≡ true → ((has before k ≡ true) ⊎ (fails k ≡ true)) × (settling x.0.phase ≡ was)
  pub settles : settling x.0.phase ≡ true → (was ≡ true) ⊎ ((x.1 ≡ Fault) × (job ≡ WriteJob))

-- the bits of a stage on the way
pub record IsBits (s : Stage) (marked b : ℕ) : Type 0 where
  pub stay : (k : ℕ) → IsOther s k → has s.bits k ≡ true → has b k ≡ true
  pub bits : (k : ℕ) → has b k ≡ true → (has s.bits k ≡ true) ⊎ (has marked k ≡ true)

same_bits : (s : Stage) (marked : ℕ) → IsBits s marked s.bits
same_bits s marked = record { stay = λ k other bit. bit; bits = λ k bit. inl bit }

more_bits : (s : Stage) (marked : ℕ) → IsBits s marked (union s.bits marked)
more_bits s marked =
    record {
      stay = λ k other bit. has-union s.bits marked k ∙ or_from_left (has s.bits k) (has marked k) bit;
      bits = λ k bit. or_cases (has s.bits k) (has marked k) (sym (has-union s.bits marked k) ∙ bit);
    }

pub in_none : {A : Type 0} (k : ℕ) → has 0 k ≡ true → A
in_none k h = not_both h (has-zero k)

stage_at : Stage → ℕ → Phase → Stage
stage_at s b phase = record s { bits = b; phase = phase }

module _ (s : Stage) (held : ℕ → Bool) (masks : IsStage s held) (marked before : ℕ) (fails : ℕ → Bool) (was : Bool) where
  -- a plain end: nothing is freed, no plex has failed, nothing settles
  plain : (job : Job) (b : ℕ) (phase : Phase) (act : Act) → IsBits s marked b → ((k : ℕ) → freeing phase k ≡ false) → failed_of phase ≡ 0 → settling phase ≡ false →
      (act ≡ Done → job ≡ WriteJob → IsMarkedForWrite s) × (act ≡ Skipped → job ≡ WriteJob → ⊥) → Goes s marked before fails was job (record s { bits = b; phase = phase }, act)
  plain job b phase act is free none quiet done =
      record {
        masks = (refl, refl, refl, refl);
        stay = is.stay;
        bits = is.bits;
        freed = λ k h. not_both h (free k);
        done = done.0;
        skips = done.1;
        failed = λ k h. in_none k (subst (λ (n : ℕ). has n k ≡ true) none h);
        settles = λ h. not_both h quiet;
      }

  either : (job : Job) (b : Bool) (x y : Stage × Act) → Goes s marked before fails was job x → Goes s marked before fails was job y → Goes s marked before fails was job (cond b x y)
  either job true x y here there = here
  either job false x y here there = there

  either_of : (job : Job) (b : Bool) (x y : Stage × Act) → (b ≡ true → Goes s marked before fails was job x) → (b ≡ false → Goes s marked before fails was job y) → Goes s marked before fails was job (cond b x y)
  either_of job true x y here there = here refl
  either_of job false x y here there = there refl

  no_write : (b : ℕ) (phase : Phase) → IsBits s marked b → Goes s marked before fails was WriteJob (write (record s { bits = b; phase = phase }))
  no_write b phase is =
      either WriteJob (current (record s { bits = b; phase = phase }) == 0) _ _ (plain WriteJob b Settled Fault is (λ k. refl) refl refl (λ h. cc, λ h is. cc))
      (plain WriteJob b (Busy (work WriteJob AtWrite (current (record s { bits = b; phase = phase })))) (WriteCall (lowest (current (record s { bits = b; phase = phase })))) is (λ k. refl) refl refl (λ h. cc, λ h is. cc))

  a_copy : (k b left : ℕ) (phase : Phase) → IsBits s marked b → Goes s marked before fails was (CopyJob k) (copy (record s { bits = b; phase = phase }) (CopyJob k) left)
  a_copy k b left phase is =
      either (CopyJob k) (left == 0) _ _ (plain (CopyJob k) b Settled Fault is (λ k. refl) refl refl (λ h. cc, λ h is. cc)) (plain (CopyJob k) b (Busy (record { job = CopyJob k; step = AtRead; source = lowest left; left = above_lowest left; good = 0; failed = 0 })) (ReadRegion (lowest left)) is (λ k. refl) refl refl (λ h. cc, λ h is. cc))

  other_not_dirty : (k : ℕ) → IsOther s k → has (only 30) k ≡ false
  other_not_dirty k other =
      elim (true_or_false (has (only 30) k)) [
        | inr none ↦ none
        | inl is ↦
            let e = same_as_only 30 k is in
            elim other [
              | inl off ↦ not_both (subst (λ (m : ℕ). has s.off m ≡ true) e off) masks.dirty_apart.1
              | inr snap ↦ not_both (subst (λ (m : ℕ). has s.snaps m ≡ true) e snap) masks.dirty_apart.2
            ]
      ]

  a_clear : (b : ℕ) (phase : Phase) → IsBits s marked b → has b 30 ≡ true →
      Goes s marked before fails was Clear (busy (record s { bits = without b (only 30); phase = phase }) (work Clear AtUnmark 0))
  a_clear b phase is there =
      record {
        masks = (refl, refl, refl, refl);
        stay = λ k other bit. has-without b (only 30) k ∙ and_not (has b k) (has (only 30) k) (is.stay k other bit) (other_not_dirty k other);
        bits = λ k bit. is.bits k (and_not_parts (has b k) (has (only 30) k) (sym (has-without b (only 30) k) ∙ bit)).0;
        freed = λ k h. is.bits k (subst (λ (m : ℕ). has b m ≡ true) (sym (same_as_only 30 k h)) there);
        done = λ h. cc;
        skips = λ h is. cc;
        failed = λ k h. in_none k h;
        settles = λ h. cc;
      }

  a_start : (job : Job) (b : ℕ) (phase : Phase) → IsBits s marked b → Goes s marked before fails was job (start (record s { bits = b; phase = phase }) job)
  a_start WriteJob b phase is =
      either WriteJob (need (record s { bits = b; phase = phase }) == 0) _ _ (no_write b phase is)
      (plain WriteJob b (Busy (work WriteJob AtMark 0)) (Mark (need (record s { bits = b; phase = phase }))) is (λ k. refl) refl refl (λ h. cc, λ h is. cc))
  a_start ReadJob b phase is =
      either ReadJob (current (record s { bits = b; phase = phase }) == 0) _ _ (plain ReadJob b Settled Fault is (λ k. refl) refl refl (λ h. cc, λ h is. cc))
      (plain ReadJob b (Busy (work ReadJob AtRead (current (record s { bits = b; phase = phase })))) (ReadCall (current (record s { bits = b; phase = phase }))) is (λ k. refl) refl refl (λ h. cc, λ h is. cc))
  a_start (CopyJob k) b phase is =
      either (CopyJob k) (has s.on k && has b k) _ _ (a_copy k b (current (record s { bits = b; phase = phase })) phase is)
      (plain (CopyJob k) b Settled Skipped is (λ k. refl) refl refl (λ h. cc, λ h is. cc))
  a_start Settle b phase is = plain Settle b Settled Done is (λ k. refl) refl refl (λ h is. cc, λ h is. cc)
  a_start Clear b phase is =
      either_of Clear (has b 30) _ _ (λ there. a_clear b phase is there) (λ none. plain Clear b Settled Skipped is (λ k. refl) refl refl (λ h. cc, λ h is. cc))

  a_settle : was ≡ true → (job : Job) (left : ℕ) → Goes s marked before fails was job (settle s job left)
  a_settle waits job left =
      either job (left == 0) _ _
      (record {
        masks = (refl, refl, refl, refl);
        stay = λ k other bit. bit;
        bits = λ k bit. inl bit;
        freed = λ k h. cc;
        done = λ h. cc;
        skips = λ h is. cc;
        failed = λ k h. in_none k h;
        settles = λ h. inl waits;
      })
      (record {
        masks = (refl, refl, refl, refl);
        stay = λ k other bit. bit;
        bits = λ k bit. inl bit;
        freed = λ k h. cc;
        done = λ h. cc;
        skips = λ h is. cc;
        failed = λ k h. in_none k h;
        settles = λ h. inl waits;
      })

  -- a step at which these plexes have failed
  a_step : (job : Job) (w : Work) (act : Act) → ((k : ℕ) → freeing (Busy w) k ≡ false) → (act ≡ Done → ⊥) × (act ≡ Skipped → ⊥) →
      ((k : ℕ) → has (failed_at w w.step) k ≡ true → (has before k ≡ true) ⊎ (fails k ≡ true)) → settling_at w w.step ≡ was →
      Goes s marked before fails was job (record s { phase = Busy w }, act)
  a_step job w act free never known same =
      record {
        masks = (refl, refl, refl, refl);
        stay = λ k other bit. bit;
        bits = λ k bit. inl bit;
        freed = λ k h. not_both h (free k);
        done = λ h. absurd (never.0 h);
        skips = λ h is. never.1 h;
        failed = λ k h. (known k h, same);
        settles = λ h. inl (sym same ∙ h);
      }

  a_level : was ≡ true → (job : Job) (source left good failed : ℕ) → good ≡ 0 → ((k : ℕ) → has failed k ≡ true → (has before k ≡ true) ⊎ (fails k ≡ true)) →
      Goes s marked before fails was job (level s (mk job AtEqual source left good failed))
  a_level waits job source left good failed none known =
      either job (left == 0) _ _
      (either job (failed == 0) _ _ (a_start job s.bits Settled (same_bits s marked))
      (a_step job (mk job AtMarkFailed source left good failed) (Mark failed) (λ k. refl) (λ h. cc, λ h. cc) known (subst (λ (n : ℕ). (n == 0) ≡ was) (sym none) (sym waits))))
      (a_step job (mk job AtEqual source left good failed) (WriteRegion (lowest left)) (λ k. refl) (λ h. cc, λ h. cc) known (sym waits))

  a_wrote : was ≡ false → IsMarkedForWrite s → (source left good failed : ℕ) → ((k : ℕ) → has failed k ≡ true → (has before k ≡ true) ⊎ (fails k ≡ true)) →
      Goes s marked before fails was WriteJob (wrote s (mk WriteJob AtWrite source left good failed))
  a_wrote quiet for_write source left good failed known =
      either WriteJob (left == 0) _ _
      (either WriteJob (failed == 0) _ _
      (plain WriteJob s.bits Settled Done (same_bits s marked) (λ k. refl) refl refl (λ h is. for_write, λ h is. cc))
      (either_of WriteJob (good == 0) _ _ (λ none. all_failed (above_lowest failed == 0))
      (λ some. a_step WriteJob (mk WriteJob AtMarkFailed source left good failed) (Mark failed) (λ k. refl) (λ h. cc, λ h. cc) known (some ∙ sym quiet))))
      (a_step WriteJob (mk WriteJob AtWrite source left good failed) (WriteCall (lowest left)) (λ k. refl) (λ h. cc, λ h. cc) known (sym quiet))
    where
      all_failed : (b : Bool) → Goes s marked before fails was WriteJob (ended s (cond b Settled Unsettled) Fault)
      all_failed true = plain WriteJob s.bits Settled Fault (same_bits s marked) (λ k. refl) refl refl (λ h. cc, λ h is. cc)
      all_failed false =
          record {
            masks = (refl, refl, refl, refl);
            stay = λ k other bit. bit;
            bits = λ k bit. inl bit;
            freed = λ k h. cc;
            done = λ h. cc;
            skips = λ h is. cc;
            failed = λ k h. in_none k h;
            settles = λ h. inr (refl, refl);
          }

-- ---- the cases

-- what is left by an answer at a step
abbrev pub GoesAt : Stage → Job → Step → Event → ℕ → ℕ → ℕ → ℕ → Type 0
GoesAt s job step event source left good failed =
    Goes s (marked_by (act_at s (mk job step source left good failed) step)) (failed_at (mk job step source left good failed) step)
    (fails_at (act_at s (mk job step source left good failed) step) event) (settling_at (mk job step source left good failed) step) job
    (answered s (mk job step source left good failed) step event)

abbrev pub MarkedFor : Stage → Step → Type 0
MarkedFor s AtWrite = IsMarkedForWrite s
MarkedFor s _ = Unit {0}

abbrev pub FoundAt : Stage → Job → Step → Event → Type 0
FoundAt s job step event = (source left good failed : ℕ) → FormAt s (mk job step source left good failed) step job → MarkedFor s step → GoesAt s job step event source left good failed

-- one more plex has failed
one_more : (failed j k : ℕ) → has (union failed (only j)) k ≡ true → (has failed k ≡ true) ⊎ ((k == j) ≡ true)
one_more failed j k h =
    elim (or_cases (has failed k) (has (only j) k) (sym (has-union failed (only j) k) ∙ h)) [
      | inl was ↦ inl was
      | inr now ↦ inr (subst (λ (m : ℕ). (m == j) ≡ true) (sym (same_as_only j k now)) (same_test j))
    ]
  where
    same_test : (n : ℕ) → (n == n) ≡ true
    same_test n = grind (arith, nat_tests)

known_before : (A : ℕ → Type 0) (failed : ℕ) (k : ℕ) → has failed k ≡ true → (has failed k ≡ true) ⊎ A k
known_before A failed k h = inl h

module _ (s : Stage) (held : ℕ → Bool) (masks : IsStage s held) where
  not_other : (plex k : ℕ) → has s.on plex ≡ true → IsOther s k → has (only plex) k ≡ false
  not_other plex k on other =
      elim (true_or_false (has (only plex) k)) [
        | inr none ↦ none
        | inl is ↦
            let e = same_as_only plex k is in
            elim other [
              | inl off ↦ not_both (subst (λ (m : ℕ). has s.off m ≡ true) e off) (masks.off_apart plex on)
              | inr snap ↦ not_both (subst (λ (m : ℕ). has s.snaps m ≡ true) e snap) (masks.snaps_apart plex on)
            ]
      ]

  a_copied : (plex source left good failed : ℕ) → has s.on plex ≡ true → has s.bits plex ≡ true → GoesAt s (CopyJob plex) AtCopy Wrote source left good failed
  a_copied plex source left good failed on bit =
      record {
        masks = (refl, refl, refl, refl);
        stay = λ k other there. has-without s.bits (only plex) k ∙ and_not (has s.bits k) (has (only plex) k) there (not_other plex k on other);
        bits = λ k there. inl (and_not_parts (has s.bits k) (has (only plex) k) (sym (has-without s.bits (only plex) k) ∙ there)).0;
        freed = λ k h. inl (subst (λ (m : ℕ). has s.bits m ≡ true) (sym (same_as_only plex k h)) bit);
        done = λ h. cc;
        skips = λ h is. cc;
        failed = λ k h. in_none k h;
        settles = λ h. cc;
      }

  a_marked_failed : (job : Job) (source left good failed : ℕ) → FormAt s (mk job AtMarkFailed source left good failed) AtMarkFailed job → GoesAt s job AtMarkFailed Marked source left good failed
  a_marked_failed job source left good failed form =
      either_of s held masks failed failed (λ k. false) (good == 0) job (good == 0) _ _
      (λ none. a_start s held masks failed failed (λ k. false) (good == 0) job (union s.bits failed) Settled (more_bits s failed))
      (λ some. plain s held masks failed failed (λ k. false) (good == 0) job (union s.bits failed) Settled Done (more_bits s failed) (λ k. refl) refl refl
      (λ h is. elim form [ inl level ↦ not_both (zero_test good level.1) some | inr writes ↦ writes.1 ], λ h is. cc))
    where
      zero_test : (n : ℕ) → n ≡ 0 → (n == 0) ≡ true
      zero_test n e = rw e refl

  a_not_marked : (job : Job) (source left good failed : ℕ) → FormAt s (mk job AtMarkFailed source left good failed) AtMarkFailed job → GoesAt s job AtMarkFailed MarkFailed source left good failed
  a_not_marked job source left good failed form =
      record {
        masks = (refl, refl, refl, refl);
        stay = λ k other bit. bit;
        bits = λ k bit. inl bit;
        freed = λ k h. cc;
        done = λ h. cc;
        skips = λ h is. cc;
        failed = λ k h. in_none k h;
        settles = λ h. elim form [ inl level ↦ inl (zero_test good level.1) | inr writes ↦ inr (refl, writes.4) ];
      }
    where
      zero_test : (n : ℕ) → n ≡ 0 → (n == 0) ≡ true
      zero_test n e = rw e refl

  none_of : (A : ℕ → Type 0) (n : ℕ) → n ≡ 0 → (k : ℕ) → has n k ≡ true → A k
  none_of A n e k h = in_none k (subst (λ (m : ℕ). has m k ≡ true) e h)

  an_offer : (job : Job) (k source left good failed more : ℕ) → Goes s 0 0 (λ k. false) false job (offered s (mk job AtRead source left good failed) more)
  an_offer job k source left good failed more =
      either s held masks 0 0 (λ k. false) false job (more == 0) _ _
      (plain s held masks 0 0 (λ k. false) false job s.bits Settled Fault (same_bits s 0) (λ k. refl) refl refl (λ h. cc, λ h is. cc))
      (plain s held masks 0 0 (λ k. false) false job s.bits (Busy (mk job AtRead source more good failed)) _ (same_bits s 0) (λ k. refl) refl refl (never job, λ h is. never_skips job h))
    where
      never_skips : (job : Job) → act_at s (mk job AtRead source more good failed) AtRead ≡ Skipped → ⊥
      never_skips (CopyJob k) h = cc
      never_skips ReadJob h = cc
      never_skips WriteJob h = cc
      never_skips Settle h = cc
      never_skips Clear h = cc

      never : (job : Job) {A : Type 0} → act_at s (mk job AtRead source more good failed) AtRead ≡ Done → A
      never (CopyJob k) h = cc
      never ReadJob h = cc
      never WriteJob h = cc
      never Settle h = cc
      never Clear h = cc

  cases : Cases (FoundAt s)
  cases =
      record {
        marked = λ source left good failed form for. no_write s held masks (need s) 0 (λ k. false) false (union s.bits (need s)) s.phase (more_bits s (need s));
        not_marked = λ source left good failed form for. plain s held masks (need s) 0 (λ k. false) false WriteJob s.bits Settled Fault (same_bits s (need s)) (λ k. refl) refl refl (λ h. cc, λ h is. cc);
        reached = λ source left good failed form for. a_wrote s held masks 0 failed (λ k. false) false refl for source (above_lowest left) (union good (only (lowest left))) failed (known_before _ failed);
        missed = λ source left good failed form for. a_wrote s held masks 0 failed (λ k. k == lowest left) false refl for source (above_lowest left) good (union failed (only (lowest left))) (one_more failed (lowest left));
        failed_marked = λ job source left good failed form for. a_marked_failed job source left good failed form;
        failed_not_marked = λ job source left good failed form for. a_not_marked job source left good failed form;
        found = λ job source left good failed form for. a_level s held masks 0 0 (λ k. false) true refl job source (without (current s) (only source)) good failed form.1 (none_of _ failed form.2);
        not_found = λ job k source left good failed form for. a_settle s held masks 0 0 (λ k. false) true refl job left;
        levelled = λ job source left good failed form for. a_level s held masks 0 failed (λ k. false) true refl job source (above_lowest left) good failed form.1 (known_before _ failed);
        not_levelled = λ job source left good failed form for. a_level s held masks 0 failed (λ k. k == lowest left) true refl job source (above_lowest left) good (union failed (only (lowest left))) form.1 (one_more failed (lowest left));
        copied = λ plex source left good failed form for. a_copied plex source left good failed form.1 form.2;
        not_copied = λ plex source left good failed form for. plain s held masks 0 0 _ false (CopyJob plex) s.bits Settled Fault (same_bits s 0) (λ k. refl) refl refl (λ h. cc, λ h is. cc);
        copy_unmarked = λ plex source left good failed form for. plain s held masks 0 0 (λ k. false) false (CopyJob plex) s.bits Settled Done (same_bits s 0) (λ k. refl) refl refl (λ h is. cc, λ h is. cc);
        copy_not_unmarked = λ plex source left good failed form for. plain s held masks 0 0 (λ k. false) false (CopyJob plex) s.bits Settled Fault (same_bits s 0) (λ k. refl) refl refl (λ h. cc, λ h is. cc);
        cleared = λ source left good failed form for. plain s held masks 0 0 (λ k. false) false Clear s.bits Settled Done (same_bits s 0) (λ k. refl) refl refl (λ h is. cc, λ h is. cc);
        not_cleared = λ source left good failed form for. plain s held masks 0 0 (λ k. false) false Clear s.bits Settled Fault (same_bits s 0) (λ k. refl) refl refl (λ h. cc, λ h is. cc);
        read = λ source left good failed form for. plain s held masks 0 0 (λ k. false) false ReadJob s.bits Settled Done (same_bits s 0) (λ k. refl) refl refl (λ h is. cc, λ h is. cc);
        not_read = λ k source left good failed form for. an_offer ReadJob k source left good failed (without left (only k));
        copy_read = λ plex source left good failed form for. plain s held masks 0 0 (λ k. false) false (CopyJob plex) s.bits (Busy (mk (CopyJob plex) AtCopy source left good failed)) (WriteRegion plex) (same_bits s 0) (λ k. refl) refl refl (λ h. cc, λ h is. cc);
        copy_not_read = λ plex k source left good failed form for. a_copy s held masks 0 0 (λ k. false) false plex s.bits left s.phase (same_bits s 0);
      }

-- ---- all events

-- the marks that an answer has written, the plexes that had failed, and whether a settling was under way, by the phase
abbrev pub marked_in : Stage → Phase → ℕ
marked_in s (Busy w) = marked_by (act_at s w w.step)
marked_in s _ = 0

abbrev pub fails_by : Stage → Phase → Event → ℕ → Bool
fails_by s (Busy w) event k = fails_at (act_at s w w.step) event k
fails_by s _ event k = false

abbrev pub job_of : Phase → Event → Job
job_of (Busy w) event = w.job
job_of Dead event = Settle
job_of _ (Begin job) = job
job_of _ _ = Settle

marked_for : (s : Stage) (step : Step) → MarkedAtStep s step → MarkedFor s step
marked_for s AtWrite h = h
marked_for s AtMark h = tt
marked_for s AtMarkFailed h = tt
marked_for s AtFind h = tt
marked_for s AtEqual h = tt
marked_for s AtCopy h = tt
marked_for s AtUnmark h = tt
marked_for s AtRead h = tt

abbrev pub GoesFrom : Stage → Phase → Event → Stage × Act → Type 0
GoesFrom s phase event x = Goes s (marked_in s phase) (failed_of phase) (fails_by s phase event) (settling phase) (job_of phase event) x

pub goes_busy : (s : Stage) (w : Work) (event : Event) (held : ℕ → Bool) → IsFormed s (Busy w) held → NotCut event → MayAnswer (act_at s w w.step) event →
    GoesFrom s (Busy w) event (answered s w w.step event)
goes_busy s w event held formed here may =
    walk (FoundAt s) (cases s held formed.stage) s w.job w.step w.source w.left w.good w.failed event (at_step s w w.step w.job formed.step.3) here may
    w.source w.left w.good w.failed formed.step.3 (marked_for s w.step formed.marked)

-- the power is cut
pub goes_cut : (s : Stage) (phase : Phase) (held : ℕ → Bool) → IsStage s held → GoesFrom s phase Cut (ended s Dead Lost)
goes_cut s phase held masks =
    plain s held masks (marked_in s phase) (failed_of phase) (fails_by s phase Cut) (settling phase) (job_of phase Cut) s.bits Dead Lost (same_bits s (marked_in s phase)) (λ k. refl) refl refl (λ h. cc, λ h is. cc)

pub goes_begun : (s : Stage) (phase : Phase) (job : Job) (held : ℕ → Bool) → IsStage s held → IsIdle phase → GoesFrom s phase (Begin job) (begun s phase job)
goes_begun s Settled job held masks idle = a_start s held masks 0 0 (λ k. false) false job s.bits s.phase (same_bits s 0)
goes_begun s Unsettled job held masks idle = a_settle s held masks 0 0 (λ k. false) true refl job (current s)
goes_begun s Dead job held masks idle = plain s held masks 0 0 (λ k. false) false Settle s.bits Dead Lost (same_bits s 0) (λ k. refl) refl refl (λ h. cc, λ h is. cc)
goes_begun s (Busy w) job held masks idle = absurd idle
