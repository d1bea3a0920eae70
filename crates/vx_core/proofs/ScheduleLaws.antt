-- Whole schedules keep each region sound.
use Rattle.std.proofs.Common.{◌≡◌, ℕ, inl, inr, Bool, true, false, refl, sym, ◌∙◌, subst, arith, cond, List, [], ◌∷◌}
use Rattle.std.specs.Prelude.{◌==◌}
use Rattle.vx_core.specs.declared.stage.Phase.{Phase}
use Rattle.vx_core.specs.declared.stage.Stage.{Stage}
use Rattle.vx_core.specs.declared.stage.Phase.TheVariants.{Settled, Unsettled, Dead, Busy}
use Rattle.vx_base.specs.Blocks.{Contents}
use Rattle.vx_life.specs.Candidates.{Candidates}
use Rattle.vx_life.specs.Entry.{Entry, IsHistory}
use Rattle.vx_mask.specs.Marks.{Marks, MayTidy}
use Rattle.vx_mask.proofs.Tests.{not_both, never_true, not_before}
use Rattle.vx_core.specs.History.{Pending, NoCall, Reads, Writes, with_pending, IsRecord, AreCounted}
use Rattle.vx_core.specs.Region.{Around, RegionState, told}
use Rattle.vx_core.specs.Form.{FormIn}
use Rattle.vx_core.specs.Kept.{ContentsIn, CallIn, IsKept}
use Rattle.std.proofs.lemmas.Bool.Decides.{nat_tests}
use Rattle.vx_mask.proofs.MarkLemmas.{tidied_shows, tidied_loose, tidied_still}
use Rattle.vx_core.specs.Schedule.{Happening, Comes, Elsewhere, with_marks, Fits, happens, happens_in, run, AllFit, IsIdle, IsFresh, EachStaysSound}
use Rattle.vx_core.proofs.Base.{Holds, InPhase, holds_from_kept, kept_from_holds}
use Rattle.vx_core.proofs.Ends.{ends_from_sound}
use Rattle.vx_core.proofs.Keeps.{keeps}
use Rattle.vx_core.proofs.Orders.{history_legal, in_order}

-- ---- a call on another region of the page

-- what a phase knows does not speak of the log
phase_moved : (s : Stage) (phase : Phase) (a : Around) (marks : Marks) → InPhase s phase a → InPhase s phase (with_marks a marks)
phase_moved s Settled a marks h = h
phase_moved s Unsettled a marks h = h
phase_moved s Dead a marks h = h
phase_moved s (Busy w) a marks h = h

keeps_elsewhere : (s : Stage) (phase : Phase) (a : Around) (marks : Marks) → Holds s phase a → MayTidy a.disks.marks marks → Holds s phase (with_marks a marks)
keeps_elsewhere s phase a marks holds tidy =
    record {
      stage = holds.stage;
      apart = λ k h. holds.apart k (tidied_loose a.disks.marks marks tidy k h);
      ends = record {
        shown = λ n k copy bit.
            elim (tidied_shows a.disks.marks marks tidy n k) [
              | inl kept ↦ kept ∙ holds.ends.shown n k copy bit
              | inr gone ↦ not_both gone.0 (never_true _ _ (holds.apart k) bit)
            ];
        bounded = λ n k copy h.
            elim (tidied_shows a.disks.marks marks tidy n k) [
              | inl kept ↦
                  elim (holds.ends.bounded n k copy (sym kept ∙ h)) [
                    | inl bit ↦ inl bit
                    | inr rest ↦ inr (elim rest [ inl was ↦ inl (tidied_still a.disks.marks marks tidy n k h was) | inr freed ↦ inr freed ])
                  ]
              | inr gone ↦ not_both h gone.1
            ];
        readable =
            let r = holds.ends.readable in
            (r.0, r.1, record { bits = r.2.bits; loose = not_before _ _ (tidied_loose a.disks.marks marks tidy r.0) r.2.loose; freeing = r.2.freeing });
        candidates = holds.ends.candidates;
        agree = holds.ends.agree;
        tracked = holds.ends.tracked;
        marked = holds.ends.marked;
      };
      under_way = phase_moved s phase a marks holds.under_way;
      history = holds.history;
    }

-- whatever stands for a history goes on doing so where its marks are tidied
pub kept_elsewhere : (s : Stage) (phase : Phase) (a : Around) (marks : Marks) → IsKept s phase a → MayTidy a.disks.marks marks → IsKept s phase (with_marks a marks)
kept_elsewhere s phase a marks kept tidy = kept_from_holds (keeps_elsewhere s phase a marks (holds_from_kept kept) tidy)

-- ---- one happening, and many

abbrev pub IsKeptState : RegionState → Type 0
IsKeptState r = IsKept r.stage r.stage.phase r.around

pub keeps_happening : (r : RegionState) (h : Happening) → IsKeptState r → Fits r h → IsKeptState (happens r h)
keeps_happening r (Comes event now call values) kept fits = keeps r.stage event r.around now call values kept fits
keeps_happening r (Elsewhere marks) kept fits = kept_elsewhere r.stage r.stage.phase r.around marks kept fits

keeps_one : (b : Bool) (r s : RegionState) → (b ≡ true → IsKeptState r) → (b ≡ false → IsKeptState s) → IsKeptState (cond b r s)
keeps_one true r s here there = here refl
keeps_one false r s here there = there refl

same_from_test : (n m : ℕ) → (n == m) ≡ true → m ≡ n
same_from_test n m test = grind (arith, nat_tests)

pub keeps_run : (happenings : List (ℕ × Happening)) (regions : ℕ → RegionState) → ((n : ℕ) → IsKeptState (regions n)) → AllFit happenings regions → (n : ℕ) →
    IsKeptState (run happenings regions n)
keeps_run [] regions kept fits n = kept n
keeps_run (h ∷ hs) regions kept fits n =
    keeps_run hs (happens_in regions h)
    (λ k.
    keeps_one (k == h.0) (happens (regions k) h.1) (regions k)
    (λ here.
    let fits_here : Fits (regions k) h.1 = subst (λ (m : ℕ). Fits (regions m) h.1) (same_from_test k h.0 here) fits.0 in
    keeps_happening (regions k) h.1 (kept k) fits_here)
    (λ there. kept k))
    fits.1 n

-- ---- a fresh region

fresh_call : (phase : Phase) (call : Pending) → IsIdle phase → call ≡ NoCall → CallIn phase call
fresh_call Settled call idle none = none
fresh_call Unsettled call idle none = none
fresh_call Dead call idle none = none
fresh_call (Busy w) call idle none = absurd idle

pub idle_form : (s : Stage) (phase : Phase) → IsIdle phase → FormIn s phase
idle_form s (Busy w) idle = absurd idle
idle_form s phase idle = tt

pub idle_contents : (s : Stage) (phase : Phase) (call : Pending) (blocks : ℕ → Contents) → IsIdle phase → ContentsIn s phase call blocks
idle_contents s (Busy w) call blocks idle = absurd idle
idle_contents s phase call blocks idle = tt

fresh_record : (region from last : ℕ) (first : Candidates) (call : Pending) (entries : List Entry) → call ≡ NoCall → entries ≡ [] → last ≡ from →
    IsRecord region from first (with_pending call entries) last
fresh_record region from last first NoCall entries none empty number =
    subst (λ (es : List Entry). IsRecord region from first es last) (sym empty) (record { legal = tt; counted = number; ordered = tt })
fresh_record region from last first (Reads call) entries none empty number = cc
fresh_record region from last first (Writes call values) entries none empty number = cc

pub kept_from_fresh : (r : RegionState) → IsFresh r → IsKeptState r
kept_from_fresh r fresh =
    record {
      form = record {
        stage = fresh.stage;
        readable = let ends = ends_from_sound fresh.sound in (ends.readable.0, ends.readable.1, ends.readable.2.bits, ends.readable.2.freeing);
        step = idle_form r.stage r.stage.phase fresh.idle;
        marked = fresh.sound.marked;
      };
      apart = fresh.apart;
      sound = fresh.sound;
      call = fresh_call r.stage.phase r.around.pending fresh.idle fresh.no_call;
      contents = idle_contents r.stage r.stage.phase r.around.pending r.around.disks.blocks fresh.idle;
      history = fresh_record r.around.fixed.region r.around.fixed.from r.around.last r.around.fixed.first r.around.pending r.around.entries fresh.no_call fresh.no_entries fresh.no_number;
    }

told_legal : (first : Candidates) (call : Pending) (entries : List Entry) → IsHistory first (with_pending call entries) → IsHistory first entries
told_legal first NoCall entries h = h
told_legal first (Reads call) entries h = h.1
told_legal first (Writes call values) entries h = h.1

pub each_stays_sound : EachStaysSound
each_stays_sound regions happenings fresh fits n =
    let kept = keeps_run happenings regions (λ k. kept_from_fresh (regions k) (fresh k)) fits n in
    let r = run happenings regions n in
    record {
      sound = kept.sound;
      legal =
          history_legal r.around.fixed.first r.around.entries (told_legal r.around.fixed.first r.around.pending r.around.entries kept.history.legal);
      history = kept.history;
      in_order = λ none.
          in_order r.around.fixed.region r.around.last (told r.around)
          (subst (λ (n : ℕ). AreCounted r.around.fixed.region n (told r.around) r.around.last) none kept.history.counted) kept.history.ordered;
    }
