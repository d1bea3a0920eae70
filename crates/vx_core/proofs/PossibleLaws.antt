-- What a job asks for can be done.
use Rattle.std.proofs.Common.{◌≡◌, ◌≢◌, ℕ, inl, inr, Bool, true, false, refl, sym, subst, arith, cond}
use Rattle.std.specs.Prelude.{◌&&◌, ◌||◌}
use Rattle.vx_core.specs.declared.stage.Job.{Job}
use Rattle.vx_core.specs.declared.stage.Event.{Event}
use Rattle.vx_core.specs.declared.stage.Act.{Act}
use Rattle.vx_core.specs.declared.stage.Step.{Step}
use Rattle.vx_core.specs.declared.stage.Phase.{Phase}
use Rattle.vx_core.specs.declared.stage.Stage.{Stage}
use Rattle.vx_core.specs.declared.stage.Job.TheVariants.{Read as ReadJob, Write as WriteJob, Copy as CopyJob, Clear}
use Rattle.vx_core.specs.declared.stage.Step.TheVariants.{Mark as AtMark, Write as AtWrite, MarkFailed as AtMarkFailed, Find as AtFind, Equal as AtEqual, Copy as AtCopy, Unmark as AtUnmark, Read as AtRead}
use Rattle.vx_core.specs.declared.stage.Phase.TheVariants.{Busy}
use Rattle.vx_mask.specs.Mask.{has, only, union, without, lowest}
use Rattle.vx_mask.proofs.MaskLemmas.{has-zero, has-only_same, has-lowest, has-lt, not_empty, same_as_only}
use Rattle.vx_mask.proofs.Sets.{without_parts, union_cases}
use Rattle.vx_mask.proofs.Tests.{not_both, true_or_false}
use Rattle.vx_core.specs.Table.{current, act_at, next_of, IsNamed}
use Rattle.vx_core.specs.Form.{IsStage, IsFormed}
use Rattle.vx_core.specs.Follow.{IsMapOf, AreMapsOf, IsPossible, PossibleIn, AsksPossible}
use Rattle.vx_core.proofs.FormLaws.{forms}
use Rattle.vx_core.proofs.Jobs.{mk}
use Rattle.vx_core.proofs.ActNames.{named}

need_logged : (b : Bool) (x : ℕ) → cond b x 0 ≢ 0 → b ≡ true
need_logged true x some = refl
need_logged false x some = absurd (some refl)

left_of_all : (a x y : Bool) → a ≡ (x || y) → x ≡ true → a ≡ true
left_of_all a true y e there = e
left_of_all a false y e there = cc

is_held : (s : Stage) (held : ℕ → Bool) (k : ℕ) → IsStage s held → has (current s) k ≡ true → held k ≡ true
is_held s held k stage there = stage.held_on k (without_parts _ _ _ there).0

two_logged : (s : Stage) (held : ℕ → Bool) (j k : ℕ) → IsStage s held → has (current s) j ≡ true → has (current s) k ≡ true → j ≢ k → s.logged ≡ true
two_logged s held j k stage at_j at_k apart =
    elim (true_or_false s.logged) [
      | inl logged ↦ logged
      | inr plain ↦ absurd (apart (stage.alone plain j k (without_parts _ _ _ at_j).0 (without_parts _ _ _ at_k).0))
    ]

apart_by : (mask j k : ℕ) → has mask j ≡ true → has mask k ≡ false → j ≢ k
apart_by mask j k there out same = not_both (subst (λ (n : ℕ). has mask n ≡ true) same there) out

middle_of_all : (a x y z : Bool) → a ≡ (x || (y || z)) → y ≡ true → a ≡ true
middle_of_all a true y z e there = e
middle_of_all a false true z e there = e
middle_of_all a false false z e there = cc

last_of_all : (a x y z : Bool) → a ≡ (x || (y || z)) → z ≡ true → a ≡ true
last_of_all a true y z e there = e
last_of_all a false true z e there = e
last_of_all a false false true e there = e
last_of_all a false false false e there = cc

left_not : (x y : Bool) → (x && y) ≡ false → y ≡ true → x ≡ false
left_not true true h there = cc
left_not true false h there = cc
left_not false y h there = refl

-- the marks that a write lacks are of maps of the region
need_maps : (s : Stage) (logged : Bool) → AreMapsOf s (cond logged (without (union (only 30) (union s.snaps s.off)) s.bits) 0)
need_maps s true k there =
    elim (union_cases _ _ _ (without_parts _ _ _ there).0) [
      | inl dirty ↦ inl (same_as_only 30 k dirty)
      | inr rest ↦ inr (elim (union_cases _ _ _ rest) [ inl snap ↦ inl snap | inr off ↦ inr (inr off) ])
    ]
need_maps s false k there = not_both there (has-zero k)

-- and so are current plexes
current_maps : (s : Stage) (mask : ℕ) → ((k : ℕ) → has mask k ≡ true → has (current s) k ≡ true) → AreMapsOf s mask
current_maps s mask inside k there = inr (inr (inl (without_parts _ _ _ (inside k there)).0))

one_map : (s : Stage) (j : ℕ) → IsMapOf s j → AreMapsOf s (only j)
one_map s j is k there = subst (λ (n : ℕ). IsMapOf s n) (sym (same_as_only j k there)) is

possible_at : (s : Stage) (held : ℕ → Bool) (job : Job) (step : Step) (source left good failed : ℕ) →
    IsFormed s (Busy (mk job step source left good failed)) held → IsPossible s held job source (act_at s (mk job step source left good failed) step)
possible_at s held WriteJob AtMark source left good failed formed = (need_logged s.logged _ formed.step.3, formed.step.3, need_maps s s.logged)
possible_at s held job AtMark source left good failed formed = absurd formed.step.3
possible_at s held WriteJob AtWrite source left good failed formed =
    let there = has-lowest left formed.step.3.1 formed.step.0 in
    (is_held s held (lowest left) formed.stage (left_of_all _ _ _ (formed.step.3.0.each (lowest left)) there), refl)
possible_at s held job AtWrite source left good failed formed = absurd formed.step.3
possible_at s held job AtMarkFailed source left good failed formed =
    elim formed.step.3 [
      | inl h ↦
          let there = has-lowest failed h.2 formed.step.2 in
          (two_logged s held (lowest failed) source formed.stage (h.0.failed_current (lowest failed) there) h.0.source_current (apart_by failed (lowest failed) source there h.0.source_kept.1), h.2, current_maps s failed h.0.failed_current)
      | inr h ↦
          let good_there = has-lowest good h.2 formed.step.1 in
          let failed_there = has-lowest failed h.3 formed.step.2 in
          let good_current = middle_of_all _ _ _ _ (h.0.each (lowest good)) good_there in
          let failed_current = last_of_all _ _ _ _ (h.0.each (lowest failed)) failed_there in
          (two_logged s held (lowest good) (lowest failed) formed.stage good_current failed_current (apart_by good (lowest good) (lowest failed) good_there (left_not _ _ (h.0.good_failed (lowest failed)) failed_there)), h.3, current_maps s failed (λ k there. last_of_all _ _ _ _ (h.0.each k) there))
    ]
possible_at s held job AtFind source left good failed formed = (is_held s held source formed.stage formed.step.3.0.source_current, refl)
possible_at s held job AtEqual source left good failed formed =
    let there = has-lowest left formed.step.3.2 formed.step.0 in
    (is_held s held (lowest left) formed.stage (formed.step.3.0.left_current (lowest left) there), apart_by left (lowest left) source there formed.step.3.0.source_kept.0)
possible_at s held (CopyJob k) AtCopy source left good failed formed =
    (formed.stage.held_on k formed.step.3.1, apart_by s.bits k source formed.step.3.2 (without_parts _ _ _ formed.step.3.0).1)
possible_at s held job AtCopy source left good failed formed = absurd formed.step.3
possible_at s held (CopyJob k) AtUnmark source left good failed formed =
    (formed.step.3.2, not_empty (only k) k (has-only_same k (has-lt s.on k formed.stage.on_fits formed.step.3.0)), one_map s k (inr (inr (inl formed.step.3.0))))
possible_at s held Clear AtUnmark source left good failed formed = (formed.step.3.1, not_empty (only 30) 30 (has-only_same 30 (omega arith)), one_map s 30 (inl refl))
possible_at s held job AtUnmark source left good failed formed = absurd formed.step.3
possible_at s held ReadJob AtRead source left good failed formed = (refl, formed.step.3.1, formed.step.0, formed.step.3.0)
possible_at s held (CopyJob k) AtRead source left good failed formed = (is_held s held source formed.stage formed.step.3.0.source_current, refl)
possible_at s held job AtRead source left good failed formed = absurd formed.step.3

pub possible_in : (s : Stage) (held : ℕ → Bool) (phase : Phase) (act : Act) → IsFormed s phase held → IsNamed s phase act → PossibleIn s held phase act
possible_in s held (Busy w) act formed named =
    subst (λ (x : Act). IsPossible s held w.job w.source x) (sym named) (possible_at s held w.job w.step w.source w.left w.good w.failed formed)
possible_in s held phase act formed named = tt

-- what is asked after an event can be done
pub possible : (s : Stage) (event : Event) → AsksPossible s event (next_of s event)
possible s event held formed may =
    possible_in (next_of s event).0 held (next_of s event).0.phase (next_of s event).1 (forms s event held formed may) (named s event)
