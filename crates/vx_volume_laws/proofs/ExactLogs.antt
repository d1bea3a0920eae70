-- The log of a volume of which no count rose stays exact.
use Rattle.std.proofs.Common.{◌≡◌, ℕ, ◌<◌, true, refl, sym, ◌∙◌, ap, subst, List, [], ◌∷◌, length}
use Rattle.vx_base.specs.Blocks.{Contents}
use Rattle.vx_life.specs.Entry.{Entry}
use Rattle.vx_core.specs.declared.stage.Act.{Act}
use Rattle.vx_core.specs.declared.stage.Event.{Event}
use Rattle.vx_core.specs.declared.stage.Phase.{Phase}
use Rattle.vx_core.specs.declared.stage.Stage.{Stage}
use Rattle.vx_core.specs.declared.stage.Act.TheVariants.{Mark, Unmark}
use Rattle.vx_core.specs.declared.stage.Event.TheVariants.{Begin, Marked, MarkFailed, Unmarked, UnmarkFailed, Wrote, WriteFailed, Got, ReadFailed, Cut}
use Rattle.vx_core.specs.declared.stage.Phase.TheVariants.{Dead, Busy}
use Rattle.vx_core.specs.History.{NoCall, Pending}
use Rattle.vx_core.specs.Recovery.{region_after}
use Rattle.vx_core.specs.Region.{Around, Disks, FitsIn, Fixed, MayAnswer, RegionState}
use Rattle.vx_core.specs.Schedule.{Comes, Elsewhere, Happening, IsIdle, happens}
use Rattle.vx_core.specs.Table.{next_of}
use Rattle.vx_core_laws.specs.Course.{EachFits, IsKeptState}
use Rattle.vx_core_laws.specs.Exact.{AreWell, IsExact, IsWell}
use Rattle.vx_core_laws.proofs.Exactly.{each_log_is_exact}
use Rattle.vx_cell.specs.Region.{LogRose, RegionSeen, marks_or, state_of}
use Rattle.vx_cell.specs.Running.{IsBacked, act_of, log_fails}
use Rattle.vx_volume.specs.Laws.{RegionsGoOn, ShowFailures}
use Rattle.vx_volume.specs.Volume.{IsVolume, VolumeSeen, cell_at, region_at}
use Rattle.vx_volume.proofs.PassHistories.{clear_pass, copy_pass, settle_pass}
use Rattle.vx_moments.specs.World.{Volume}
use Rattle.vx_image.specs.Image.{PlexImage}
use Rattle.vx_volume_laws.specs.Exact.{IsExactVolume, LogIsWell}
use Rattle.vx_volume_laws.specs.ExactLaws.{EachClearingStaysExact, EachCopyStaysExact, EachOpeningIsExact, EachSettlingStaysExact}
use Rattle.vx_volume_laws.specs.Running.{RunsAsVolume, entries_in}
use Rattle.vx_volume_laws.proofs.OneCopies.{after_by, course_by, disks_by, fits_by, kept_by, state_by}

-- ---- a region without power stays so

dead_next : (s : Stage) (a : Around) (event : Event) (now : Disks) (call : Pending) (values : Contents) → FitsIn s Dead a event now call values → s.phase ≡ Dead → (next_of s event).0.phase ≡ Dead
dead_next s a Cut now call values fits dead = refl
dead_next s a (Begin job) now call values fits dead = rw dead refl
dead_next s a event now call values fits dead = absurd fits

pub dead_stays : (hs : List Happening) (s : RegionState) → s.stage.phase ≡ Dead → EachFits hs s → (region_after hs s).stage.phase ≡ Dead
dead_stays [] s dead fits = dead
dead_stays (Comes event now call values ∷ hs) s dead fits =
    dead_stays hs (happens s (Comes event now call values))
    (dead_next s.stage s.around event now call values (subst (λ (p : Phase). FitsIn s.stage p s.around event now call values) dead fits.0) dead) fits.1
dead_stays (Elsewhere marks ∷ hs) s dead fits = dead_stays hs (happens s (Elsewhere marks)) dead fits.1

-- ---- no call on the log failed

mark_failed : (act : Act) → MayAnswer act MarkFailed → log_fails act MarkFailed ≡ true
mark_failed (Mark b) may = refl
mark_failed act may = absurd may

unmark_failed : (act : Act) → MayAnswer act UnmarkFailed → log_fails act UnmarkFailed ≡ true
unmark_failed (Unmark b) may = refl
unmark_failed act may = absurd may

answers_mark : (s : Stage) (phase : Phase) (a : Around) (now : Disks) (call : Pending) (values : Contents) → FitsIn s phase a MarkFailed now call values → MayAnswer (act_of s phase) MarkFailed
answers_mark s (Busy w) a now call values fits = fits.0.0
answers_mark s phase a now call values fits = absurd fits

answers_unmark : (s : Stage) (phase : Phase) (a : Around) (now : Disks) (call : Pending) (values : Contents) → FitsIn s phase a UnmarkFailed now call values → MayAnswer (act_of s phase) UnmarkFailed
answers_unmark s (Busy w) a now call values fits = fits.0.0
answers_unmark s phase a now call values fits = absurd fits

module _ (n : ℕ) (old new : RegionSeen) (none : LogRose old.log new.log → ⊥) where
  event_well : (event : Event) (s : RegionState) (now : Disks) (call : Pending) (values : Contents) → FitsIn s.stage s.stage.phase s.around event now call values → IsBacked (act_of s.stage s.stage.phase) event old new →
      (event ≡ Cut → ⊥) → IsWell (Comes event (disks_by n now) call values)
  event_well (Begin job) s now call values fits backed power = tt
  event_well Marked s now call values fits backed power = tt
  event_well MarkFailed s now call values fits backed power = none (backed.log (mark_failed (act_of s.stage s.stage.phase) (answers_mark s.stage s.stage.phase s.around now call values fits)))
  event_well Unmarked s now call values fits backed power = tt
  event_well UnmarkFailed s now call values fits backed power = none (backed.log (unmark_failed (act_of s.stage s.stage.phase) (answers_unmark s.stage s.stage.phase s.around now call values fits)))
  event_well Wrote s now call values fits backed power = tt
  event_well WriteFailed s now call values fits backed power = tt
  event_well Got s now call values fits backed power = tt
  event_well (ReadFailed k) s now call values fits backed power = tt
  event_well Cut s now call values fits backed power = power refl

  -- a cut would have left the region without power
  cut_dead : (event : Event) (s : RegionState) (now : Disks) (call : Pending) (values : Contents) → event ≡ Cut → (happens s (Comes event now call values)).stage.phase ≡ Dead
  cut_dead event s now call values is = rw is refl

  course_well : (hs : List Happening) (s : RegionState) → EachFits hs s → ShowFailures hs s.stage old new → ((region_after hs s).stage.phase ≡ Dead → ⊥) → AreWell (course_by n hs)
  course_well [] s fits shown alive = tt
  course_well (Comes event now call values ∷ hs) s fits shown alive =
      let next = happens s (Comes event now call values) in (
        event_well event s now call values fits.0 shown.0 (λ is. alive (dead_stays hs next (cut_dead event s now call values is) fits.1)),
        course_well hs next fits.1 shown.1 alive,
      )
  course_well (Elsewhere marks ∷ hs) s fits shown alive = (tt, course_well hs (happens s (Elsewhere marks)) fits.1 shown alive)

-- ---- all regions

module _ (old new : VolumeSeen) (was : IsVolume old) (is : IsVolume new) (fixed : ℕ → Fixed) (entries entries' : ℕ → List Entry) (goes : RegionsGoOn old new fixed entries entries')
    (kept : (r : ℕ) → r < length old.cells → IsKeptState (state_of (region_at old r) (fixed r) (entries r) NoCall (cell_at old r).number))
    (copies : (r : ℕ) → r < length old.cells → (fixed r).copies ≡ old.log.copies) where
  pub goes_exact : LogIsWell old new → IsExactVolume old → IsExactVolume new
  goes_exact none exact r n lt alive few =
      let inside : r < length old.cells = subst (λ (m : ℕ). r < m) goes.count lt in
      let g = goes.each r inside in
      let s = state_of (region_at old r) (fixed r) (entries r) NoCall (cell_at old r).number in
      let few_old : n < old.log.copies = subst (λ (m : ℕ). n < m) g.stays.log.copies few in
      let alive_now : (region_after g.course s).stage.phase ≡ Dead → ⊥ = λ dead. alive (ap (λ (x : RegionState). x.stage.phase) (sym g.ends) ∙ dead) in
      let at = exact r n inside (λ dead. alive_now (dead_stays g.course s dead g.fits)) few_old in
      let index : (cell_at old r).region ≡ r = (was.each r inside).index in
      let index' : (cell_at new r).region ≡ r = (is.each r lt).index in
      let exact_then : IsExact (state_by n s) = record {
        tight = λ k. ap (λ (i : ℕ). (marks_or old.log.told i).loose k) index ∙ at.tight k;
        shows = λ c k. ap (λ (i : ℕ). (marks_or old.log.told i).shows n k) index ∙ at.shows k;
      } in
      let ends : region_after (course_by n g.course) (state_by n s) ≡ state_by n (state_of (region_at new r) (fixed r) (entries' r) NoCall (cell_at new r).number) = after_by n g.course s ∙ ap (state_by n) g.ends in
      let exact_now = each_log_is_exact (state_by n s) (course_by n g.course) (kept_by n s (subst (λ (m : ℕ). n < m) (sym (copies r inside)) few_old) (kept r inside)) (was.each r inside).idle exact_then
      (fits_by n g.course s g.fits) (course_well n (region_at old r) (region_at new r) none g.course s g.fits g.shown alive_now)
      (subst (λ (x : RegionState). IsIdle x.stage.phase) (sym ends) (is.each r lt).idle) in
      let here = subst IsExact ends exact_now in
      record {
        shows = λ k. ap (λ (i : ℕ). (marks_or new.log.told i).shows n k) (sym index') ∙ here.shows 0 k;
        tight = λ k. ap (λ (i : ℕ). (marks_or new.log.told i).loose k) (sym index') ∙ here.tight k;
      }

-- ---- passes

module _ (plexes : List PlexImage) (old new : VolumeSeen) (was : IsVolume old) (is : IsVolume new) (w : Volume) (run : RunsAsVolume plexes old w) where
  abbrev entries_of : ℕ → List Entry
  entries_of r = entries_in r w.life.entries

  pub run_exact : (entries' : ℕ → List Entry) → RegionsGoOn old new run.fixed entries_of entries' → LogIsWell old new → IsExactVolume old → IsExactVolume new
  run_exact entries' goes = goes_exact old new was is run.fixed entries_of entries' goes (λ r lt. (run.each r lt).kept) run.copies

pub settling_exact : EachSettlingStaysExact
settling_exact old new result ends was is plexes w run =
    run_exact plexes old new was is w run (entries_of plexes old new was is w run) (settle_pass old new result ends was run.told run.fixed (entries_of plexes old new was is w run))

pub clearing_exact : EachClearingStaysExact
clearing_exact old new result ends was is plexes w run =
    run_exact plexes old new was is w run (entries_of plexes old new was is w run) (clear_pass old new result ends was run.told run.fixed (entries_of plexes old new was is w run))

pub copy_exact : EachCopyStaysExact
copy_exact map old new result ends was is plexes w run =
    run_exact plexes old new was is w run (entries_of plexes old new was is w run) (copy_pass map old new result ends was run.told run.fixed (entries_of plexes old new was is w run))

-- ---- as it is opened

pub opening_exact : EachOpeningIsExact
opening_exact image v w is opened r n lt alive few =
    let at = opened.opened r lt in
    let index = (is.each r lt).index in
    record {
      shows = λ k. ap (λ (i : ℕ). (marks_or v.log.told i).shows n k) (sym index) ∙ at.shows n k (subst (λ (m : ℕ). n < m) (sym (opened.copies r lt)) few) ∙ sym (at.bits k);
      tight = λ k. ap (λ (i : ℕ). (marks_or v.log.told i).loose k) (sym index) ∙ at.tight k;
    }
