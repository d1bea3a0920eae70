-- The courses of all regions as one schedule.
use Rattle.std.proofs.Common.{◌≡◌, ◌≢◌, ℕ, zero, suc, ◌<◌, ◌≤◌, refl, sym, ◌∙◌, ap, subst, inl, inr, arith, List, [], ◌∷◌, ◌++◌, length}
use Rattle.std.proofs.lemmas.Bool.{cases_eq}
use Rattle.vx_life.specs.Entry.{Entry}
use Rattle.vx_core.specs.History.{NoCall}
use Rattle.vx_core.specs.Region.{Fixed, RegionState}
use Rattle.vx_core.specs.Recovery.{region_after}
use Rattle.vx_core.specs.Schedule.{AllFit, Happening, happens, happens_in, run}
use Rattle.vx_core_laws.specs.Course.{EachFits}
use Rattle.vx_cell.specs.Region.{state_of}
use Rattle.vx_cell.proofs.Changes.{other_number, same_test}
use Rattle.vx_volume.specs.Laws.{AreStatesOf, EachGoingIsScheduled, RegionsGoOn}
use Rattle.vx_volume.specs.Volume.{VolumeSeen, cell_at, region_at}

-- the course of one region
in_region : ℕ → List Happening → List (ℕ × Happening)
in_region r [] = []
in_region r (h ∷ hs) = (r, h) ∷ in_region r hs

happens_here : (states : ℕ → RegionState) (r : ℕ) (h : Happening) → happens_in states (r, h) r ≡ happens (states r) h
happens_here states r h = rw (same_test r) refl

happens_there : (states : ℕ → RegionState) (r i : ℕ) (h : Happening) → i ≢ r → happens_in states (r, h) i ≡ states i
happens_there states r i h apart = rw (other_number i r apart) refl

here : (r : ℕ) (course : List Happening) (states : ℕ → RegionState) → run (in_region r course) states r ≡ region_after course (states r)
unfolding in_region
here r [] states = refl
here r (h ∷ hs) states = here r hs (happens_in states (r, h)) ∙ ap (λ (s : RegionState). region_after hs s) (happens_here states r h)

there : (r i : ℕ) (course : List Happening) (states : ℕ → RegionState) → i ≢ r → run (in_region r course) states i ≡ states i
unfolding in_region
there r i [] states apart = refl
there r i (h ∷ hs) states apart = there r i hs (happens_in states (r, h)) apart ∙ happens_there states r i h apart

course_fits : (r : ℕ) (course : List Happening) (states : ℕ → RegionState) → EachFits course (states r) → AllFit (in_region r course) states
unfolding in_region
course_fits r [] states fits = tt
course_fits r (h ∷ hs) states fits = (fits.0, course_fits r hs (happens_in states (r, h)) (subst (λ (s : RegionState). EachFits hs s) (sym (happens_here states r h)) fits.1))

-- one schedule and then another
run_both : (first after : List (ℕ × Happening)) (states : ℕ → RegionState) → run (first ++ after) states ≡ run after (run first states)
run_both [] after states = refl
run_both (h ∷ hs) after states = run_both hs after (happens_in states h)

fit_both : (first after : List (ℕ × Happening)) (states : ℕ → RegionState) → AllFit first states → AllFit after (run first states) → AllFit (first ++ after) states
fit_both [] after states fits more = more
fit_both (h ∷ hs) after states fits more = (fits.0, fit_both hs after (happens_in states h) fits.1 more)

module _ (old new : VolumeSeen) (fixed : ℕ → Fixed) (entries entries' : ℕ → List Entry) (going : RegionsGoOn old new fixed entries entries') (states : ℕ → RegionState) (are : AreStatesOf old fixed entries states) where
  -- the first regions have gone on, and the others are as they were
  record IsFirstOf (n : ℕ) (schedule : List (ℕ × Happening)) : Type 0 where
    fits : AllFit schedule states
    done : (r : ℕ) → r < n → run schedule states r ≡ state_of (region_at new r) (fixed r) (entries' r) NoCall (cell_at new r).number
    rest : (r : ℕ) → n ≤ r → run schedule states r ≡ states r

  first_regions : (n : ℕ) → n ≤ length old.cells → (schedule : List (ℕ × Happening)) × IsFirstOf n schedule
  first_regions zero le = ([], record { fits = tt; done = λ r lt. absurd (omega arith); rest = λ r le. refl })
  first_regions (suc n) le =
      let before = first_regions n (omega arith) in
      let goes = going.each n (omega arith) in
      let was : run before.0 states n ≡ state_of (region_at old n) (fixed n) (entries n) NoCall (cell_at old n).number = before.1.rest n (omega arith) ∙ are n (omega arith) in
      let both = run_both before.0 (in_region n goes.course) states in (
        before.0 ++ in_region n goes.course,
        record {
          fits = fit_both before.0 (in_region n goes.course) states before.1.fits (course_fits n goes.course (run before.0 states) (subst (λ (s : RegionState). EachFits goes.course s) (sym was) goes.fits));
          done = λ r lt.
              elim (cases_eq r n) [
                | inl is ↦
                    subst (λ (m : ℕ). run (before.0 ++ in_region n goes.course) states m ≡ state_of (region_at new m) (fixed m) (entries' m) NoCall (cell_at new m).number) (sym is)
                    (ap (λ (s : ℕ → RegionState). s n) both ∙ here n goes.course (run before.0 states) ∙ ap (λ (s : RegionState). region_after goes.course s) was ∙ goes.ends)
                | inr apart ↦ ap (λ (s : ℕ → RegionState). s r) both ∙ there n r goes.course (run before.0 states) apart ∙ before.1.done r (omega arith)
              ];
          rest = λ r least. ap (λ (s : ℕ → RegionState). s r) both ∙ there n r goes.course (run before.0 states) (λ e. absurd (omega (arith, e, least))) ∙ before.1.rest r (omega (arith, least));
        },
      )

pub going_scheduled : EachGoingIsScheduled
going_scheduled old new fixed entries entries' going states are =
    let all = first_regions old new fixed entries entries' going states are (length old.cells) (omega arith) in
    (all.0, all.1.fits, (λ r lt. all.1.done r (subst (λ (n : ℕ). r < n) going.count lt)), all.1.rest)
