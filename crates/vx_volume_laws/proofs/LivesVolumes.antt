-- A volume of the code goes on running as the volume of the world.
use Rattle.std.proofs.Common.{◌≡◌, ℕ, zero, suc, ◌/◌, ◌<◌, Bool, true, false, refl, sym, ◌∙◌, ap, subst, inl, inr, cond, List, [], ◌∷◌, ◌++◌, length, Option, Some, None}
use Rattle.std.specs.Prelude.{◌==◌, ◌&&◌, ◌⊎◌, Contains}
use Rattle.vx_base.specs.Named.{Word}
use Rattle.vx_mask.specs.Mask.{has}
use Rattle.vx_mask.proofs.Tests.{not_both, or_from_right, or_from_left, or_cases}
use Rattle.vx_block.specs.Regions.{region_count}
use Rattle.vx_life.specs.Entry.{Entry}
use Rattle.vx_life.specs.Life.{GoesOn}
use Rattle.vx_core.specs.declared.stage.Phase.TheVariants.{Unsettled}
use Rattle.vx_core.specs.Follow.{SameMasks}
use Rattle.vx_core.specs.History.{AllOf, MayPrecede, NoCall}
use Rattle.vx_core.specs.Recovery.{region_after}
use Rattle.vx_core.specs.Region.{RegionState}
use Rattle.vx_core.specs.Schedule.{IsIdle}
use Rattle.vx_core_laws.specs.Course.{IsKeptState}
use Rattle.vx_core_laws.specs.Tracking.{IsOther, IsSeen, Notes, is_torn, is_write, no_notes, notes_of}
use Rattle.vx_core_laws.proofs.Tracks.{each_track_holds}
use Rattle.vx_cell.specs.declared.fault.CellFault.{CellFault}
use Rattle.vx_cell.specs.Region.{state_of}
use Rattle.vx_cell.specs.Running.{Caller}
use Rattle.vx_cell.proofs.Changes.{keep_holds}
use Rattle.vx_volume.specs.Laws.{GoesOn as RegionGoesOn, IsNotedBy, RegionsGoOn, with_made}
use Rattle.vx_volume.specs.Laws as volume
use Rattle.vx_volume.specs.Loop.{AreDone, AreMade}
use Rattle.vx_volume.specs.Retelling.{AreRetold, IsRetold}
use Rattle.vx_volume.specs.Volume.{IsVolume, VolumeSeen, cell_at, region_at}
use Rattle.vx_volume.proofs.Notes.{course_noted}
use Rattle.vx_volume.proofs.Retellings.{history_retold}
use Rattle.vx_volume.proofs.Volumes.{going_stands}
use Rattle.vx_moments.specs.World.{Volume}
use Rattle.vx_image.specs.Image.{PlexImage}
use Rattle.vx_moments.proofs.Blocks.{below_count}
use Rattle.vx_volume_laws.specs.Tracks.{EachCallIsTracked, GoesAt, TellOf}
use Rattle.vx_moments.specs.Tracks.{TrackOwner, has_failed, volume_failed, volume_goes, was_torn_in, was_unsettled, volume_lived}
use Rattle.vx_volume_laws.specs.Running.{IsSureOfOthers, RegionRunsAs, RunsAsVolume, entries_in, state_at}
use Rattle.vx_volume_laws.specs.RunLaws.{FailuresAreTold, MayComeNext, OwnersFit, RunsOn}
use Rattle.vx_volume_laws.proofs.ExactLogs.{run_exact}
use Rattle.vx_volume_laws.proofs.LivesOn.{Agrees, HasRecord, IsPlaced, life_goes, lived, record_last, torn_lived}
use Rattle.vx_volume_laws.proofs.Marking.{KeepsRest, Within, any_front, failed_sure, goes_rest, here_in, made_front, sure_goes, torn_told, within_goes, within_same}

-- ---- lists

-- the histories are told with the entries of the call
made_retold : (r : ℕ) (made fs es es' : List Entry) → AreRetold made fs → AreRetold es es' → AreRetold (with_made r made es) (with_made r fs es')
made_retold r [] [] es es' retold more = more
made_retold r [] (f ∷ fs) es es' retold more = absurd retold
made_retold r (e ∷ made) [] es es' retold more = absurd retold
made_retold r (e ∷ made) (f ∷ fs) es es' retold more =
    made_retold r made fs (cond (e.part.region == r) (e ∷ es) es) (cond (f.part.region == r) (f ∷ es') es') retold.1
    (subst (λ (n : ℕ). AreRetold (cond (e.part.region == r) (e ∷ es) es) (cond (n == r) (f ∷ es') es')) (sym (region_same e f retold.0)) (by (e.part.region == r) retold.0 more))
  where
    region_same : (e f : Entry) → IsRetold e f → f.part.region ≡ e.part.region
    region_same e f (inl same) = ap (λ (x : Entry). x.part.region) same
    region_same e f (inr (inl torn)) = ap (λ (x : Entry). x.part.region) torn.1
    region_same e f (inr (inr missed)) = ap (λ (x : Entry). x.part.region) missed.1

    by : (b : Bool) → IsRetold e f → AreRetold es es' → AreRetold (cond b (e ∷ es) es) (cond b (f ∷ es') es')
    by true one more = (one, more)
    by false one more = more

same_told : (es : List Entry) → AreRetold es es
same_told [] = tt
same_told (e ∷ es) = (inl refl, same_told es)

-- what holds of all entries holds of those of a region
all_in : (fact : Entry → Type 0) (r : ℕ) (es : List Entry) → AllOf fact es → AllOf fact (entries_in r es)
all_in fact r [] all = tt
all_in fact r (e ∷ es) all = by (e.part.region == r) all.0 (all_in fact r es all.1)
  where
    by : (b : Bool) → fact e → AllOf fact (entries_in r es) → AllOf fact (cond b (e ∷ entries_in r es) (entries_in r es))
    by true one rest = (one, rest)
    by false one rest = rest

-- ---- calls one after the other

-- a number that each call keeps is kept by all
pub done_keeps : {S : Type 0} (Call : ℕ → Option CellFault → S → S → Type 0) (shape : S → ℕ) → ((n : ℕ) (stop : Option CellFault) (old new : S) → Call n stop old new → shape new ≡ shape old) →
    (n : ℕ) (old new : S) → AreDone Call n old new → shape new ≡ shape old
done_keeps Call shape keeps zero old new done = ap shape done
done_keeps Call shape keeps (suc n) old new done = keeps n None done.0 new done.2 ∙ done_keeps Call shape keeps n old done.0 done.1

pub made_keeps : {S : Type 0} (Call : ℕ → Option CellFault → S → S → Type 0) (shape : S → ℕ) → ((n : ℕ) (stop : Option CellFault) (old new : S) → Call n stop old new → shape new ≡ shape old) →
    (total : ℕ) (stop : Option CellFault) (old new : S) → AreMade Call total stop old new → shape new ≡ shape old
made_keeps Call shape keeps total None old new made = done_keeps Call shape keeps total old new made
made_keeps Call shape keeps total (Some fault) old new made = keeps made.0 (Some fault) made.1 new made.4 ∙ done_keeps Call shape keeps made.0 old made.1 made.3

-- ---- the volume

-- the entries of each region in the life
abbrev pub histories : Volume → ℕ → List Entry
histories w r = entries_in r w.life.entries

module _ (plexes : List PlexImage) (old : VolumeSeen) (w : Volume) (run : RunsAsVolume plexes old w) where
  pub next_in : (who : Caller) → MayComeNext who w.life → volume.MayComeNext old who run.fixed (histories w)
  next_in who next =
      record {
        here = λ r lt. (run.each r lt).here;
        order = λ r lt. subst (λ (n : ℕ). AllOf (MayPrecede who.session who.place n) (histories w r)) (sym (run.epoch r lt)) (all_in (MayPrecede who.session who.place w.life.epoch) r w.life.entries next);
      }

  pub life_agrees : IsVolume old → Agrees old.length old.region (length old.cells) w.life.epoch run.fixed w.life (histories w)
  life_agrees is =
      record {
        epoch_is = refl;
        candidates = λ b r lt at.
            let below : r < length old.cells = subst (λ (m : ℕ). r < m) (sym is.count) (subst (λ (m : ℕ). m < region_count old.length old.region) at (below_count b old.length old.region run.sized lt)) in
            (run.each r below).candidates b (subst (λ (m : ℕ). b < m) (sym run.length_is) lt) (ap (λ (m : ℕ). b / m) run.region_is ∙ at);
        last = λ r lt.
            let s = state_at old run.fixed w.life.entries r in
            (run.each r lt).last ∙ sym (record_last s.around.fixed.region s.around.fixed.from s.around.fixed.first s.around.entries s.around.last (run.each r lt).kept.history);
        entries_are = λ r. refl;
      }

module _ (tracked : EachCallIsTracked) (plexes : List PlexImage) (old new : VolumeSeen) (was : IsVolume old) (is : IsVolume new) (w : Volume) (run : RunsAsVolume plexes old w)
    (owners : Word → TrackOwner) (failed : Word → Bool) (fit : OwnersFit plexes old owners) (counted : FailuresAreTold plexes owners failed old new)
    (made fs : List Entry) (retold : AreRetold made fs) (placed : AllOf (IsPlaced old.length old.region (length old.cells) w.life.epoch) fs)
    (same_length : new.length ≡ old.length) (same_region : new.region ≡ old.region)
    (goes : RegionsGoOn old new run.fixed (histories w) (λ r. with_made r made (histories w r))) where
  -- a region, with its history as it is told
  abbrev told_state : ℕ → List Entry → RegionState
  told_state r es = state_of (region_at new r) (run.fixed r) es NoCall (cell_at new r).number

  kept_now : (r : ℕ) → r < length old.cells → IsKeptState (told_state r (with_made r fs (histories w r)))
  kept_now r lt =
      let below : r < length new.cells = subst (λ (m : ℕ). r < m) (sym goes.count) lt in
      history_retold (told_state r (with_made r made (histories w r))) (with_made r fs (histories w r)) (made_retold r made fs (histories w r) (histories w r) retold (same_told (histories w r)))
      (going_stands old new run.fixed (histories w) (λ r. with_made r made (histories w r)) goes (λ i at. (run.each i at).kept) r below)

  record_now : (r : ℕ) → r < length old.cells → HasRecord (run.fixed r) (with_made r fs (histories w r))
  record_now r lt = ((cell_at new r).number, (kept_now r lt).history)

  on : GoesOn w.life fs (lived fs w.life) × Agrees old.length old.region (length old.cells) w.life.epoch run.fixed (lived fs w.life) (λ r. with_made r fs (histories w r))
  on = life_goes old.length old.region (length old.cells) w.life.epoch run.fixed fs w.life (histories w) placed (life_agrees plexes old w run was) record_now

  abbrev now : Volume
  now = volume_lived owners failed fs (lived fs w.life) w

  rest : KeepsRest (volume_failed owners failed w) (volume_goes owners fs (volume_failed owners failed w))
  rest = goes_rest owners fs (volume_failed owners failed w)

  module _ (r : ℕ) (lt : r < length old.cells) where
    abbrev state_before : RegionState
    state_before = state_at old run.fixed w.life.entries r

    abbrev before : RegionRunsAs plexes state_before r w
    before = run.each r lt

    by_course : RegionGoesOn (region_at old r) (region_at new r) (run.fixed r) (histories w r) (with_made r made [] ++ histories w r)
    by_course = subst (λ (es : List Entry). RegionGoesOn (region_at old r) (region_at new r) (run.fixed r) (histories w r) es) (made_front r made (histories w r)) (goes.each r lt)

    abbrev notes : Notes
    notes = notes_of (was_unsettled w r) by_course.course state_before no_notes

    noted : IsNotedBy (with_made r made []) notes (region_at old r) (region_at new r)
    noted = course_noted (region_at old r) (region_at new r) (run.fixed r) (histories w r) (with_made r made []) by_course (was_unsettled w r)

    idle_before : IsIdle (cell_at old r).stage.phase
    idle_before = (was.each r lt).idle

    idle_after : IsIdle (region_after by_course.course state_before).stage.phase
    idle_after = subst (λ (s : RegionState). IsIdle s.stage.phase) (sym by_course.ends) (is.each r (subst (λ (m : ℕ). r < m) (sym goes.count) lt)).idle

    tell : TellOf r notes (entries_in r made)
    tell =
        record {
          here = here_in r made;
          written = any_front (λ (e : Entry). is_write e.kind) r made ∙ sym noted.written;
          torn = any_front (λ (e : Entry). is_torn e.kind) r made ∙ sym noted.torn;
        }

    -- the volume with the entries of this region alone
    abbrev there : Volume
    there = volume_goes owners (entries_in r made) (volume_failed owners failed w)

    within : Within r there (volume_goes owners fs (volume_failed owners failed w))
    within = within_goes owners r made fs (volume_failed owners failed w) (volume_failed owners failed w) retold (within_same r (volume_failed owners failed w))

    tracks_there : (p : PlexImage) → Contains plexes p → GoesAt (told_state r (with_made r made [] ++ histories w r)) p.map (there.tracks p.name) r
    tracks_there p one =
        subst (λ (s : RegionState). GoesAt s p.map (there.tracks p.name) r) by_course.ends
        ((tracked state_before by_course.course before.kept idle_before by_course.fits idle_after w r owners failed (entries_in r made) before.unsettled tell before.dirty).0
        p.name p.map (fit p one r lt) (λ fails. counted p one r lt (noted.failed p.map fails)) (before.tracks p one))

    dirty_there : IsSeen (told_state r (with_made r made [] ++ histories w r)) 30 → there.dirty r ≡ true
    dirty_there seen =
        (tracked state_before by_course.course before.kept idle_before by_course.fits idle_after w r owners failed (entries_in r made) before.unsettled tell before.dirty).1
        (subst (λ (s : RegionState). IsSeen s 30) (sym by_course.ends) seen)

    settles : (cell_at new r).stage.phase ≡ Unsettled → (state_before.stage.phase ≡ Unsettled) ⊎ (notes.torn ≡ true)
    settles phase =
        (each_track_holds state_before (was_unsettled w r) by_course.course before.kept idle_before before.unsettled by_course.fits).settles
        (subst (λ (s : RegionState). s.stage.phase ≡ Unsettled) (sym by_course.ends) phase)

    unsettled_now : (cell_at new r).stage.phase ≡ Unsettled → was_unsettled now r ≡ true
    unsettled_now phase =
        elim (settles phase) [
          | inl still ↦
              elim (or_cases (was_torn_in r w.life.entries) (w.dirty_began r) (before.unsettled still)) [
                | inl torn ↦ or_from_left (was_torn_in r now.life.entries) (now.dirty_began r) (torn_lived r fs w.life (inr torn))
                | inr began ↦ or_from_right (was_torn_in r now.life.entries) (now.dirty_began r) (ap (λ (dirty : ℕ → Bool). dirty r) rest.began ∙ began)
              ]
          | inr torn ↦ or_from_left (was_torn_in r now.life.entries) (now.dirty_began r) (torn_lived r fs w.life (inl (torn_told r made fs retold (tell.torn ∙ torn))))
        ]

    region_told : RegionRunsAs plexes (told_state r (with_made r fs (histories w r))) r now
    region_told =
        record {
          kept = kept_now r lt;
          here = before.here;
          candidates = λ b at in_region. on.1.candidates b r (subst (λ (m : ℕ). b < m) (rest.length ∙ run.length_is) at) (ap (λ (m : ℕ). b / m) (sym (rest.region ∙ run.region_is)) ∙ in_region);
          last = on.1.last r lt ∙ record_last (run.fixed r).region (run.fixed r).from (run.fixed r).first (with_made r fs (histories w r)) (cell_at new r).number (kept_now r lt).history;
          tracks = λ p one.
              let g = tracks_there p one in
              let t = within.tracks p.name in
              record { sure = λ other sure. g.sure other (t.sure sure); possible = λ seen. t.possible (g.possible seen) };
          dirty = λ seen. within.dirty (dirty_there seen);
          unsettled = unsettled_now;
        }

    region_now : RegionRunsAs plexes (state_at new run.fixed now.life.entries r) r now
    region_now = subst (λ (es : List Entry). RegionRunsAs plexes (told_state r es) r now) (sym (on.1.entries_are r)) region_told

  pub runs_now : RunsAsVolume plexes new now
  runs_now =
      record {
        fixed = run.fixed;
        some = subst (λ (m : ℕ). 0 < m) (sym same_length) run.some;
        sized = subst (λ (m : ℕ). 0 < m) (sym same_region) run.sized;
        length_is = rest.length ∙ run.length_is ∙ sym same_length;
        region_is = rest.region ∙ run.region_is ∙ sym same_region;
        epoch = λ r lt. let before = subst (λ (m : ℕ). r < m) goes.count lt in (goes.each r before).stays.epoch ∙ run.epoch r before ∙ sym on.1.epoch_is;
        told = goes.told;
        held = λ r k lt.
            let before = subst (λ (m : ℕ). r < m) goes.count lt in
            run.held r k before ∙ sym (keep_holds (cell_at old r).plexes (cell_at new r).plexes (goes.each r before).stays.plexes k);
        copies = λ r lt. let before = subst (λ (m : ℕ). r < m) goes.count lt in run.copies r before ∙ sym (goes.each r before).stays.log.copies;
        each = λ r lt. region_now r (subst (λ (m : ℕ). r < m) goes.count lt);
      }

  masks_kept : (r : ℕ) (lt : r < length old.cells) → SameMasks (cell_at old r).stage (cell_at new r).stage
  masks_kept r lt =
      subst (λ (s : RegionState). SameMasks (cell_at old r).stage s.stage) (by_course r lt).ends
      (each_track_holds (state_before r lt) (was_unsettled w r) (by_course r lt).course (before r lt).kept (idle_before r lt) (before r lt).unsettled (by_course r lt).fits).masks

  other_now : (r : ℕ) (lt : r < length old.cells) (k : ℕ) → IsOther (cell_at old r).stage k → IsOther (cell_at new r).stage k
  other_now r lt k (inl off) = inl (subst (λ (m : ℕ). has m k ≡ true) (sym (masks_kept r lt).1) off)
  other_now r lt k (inr snap) = inr (subst (λ (m : ℕ). has m k ≡ true) (sym (masks_kept r lt).2) snap)

  pub sure_now : IsSureOfOthers plexes old w → IsSureOfOthers plexes new now
  sure_now sure_of p one r lt h =
      let below = subst (λ (m : ℕ). r < m) goes.count lt in
      let is_fit = fit p one r below in
      other_now r below p.map
      (elim (sure_goes owners fs (volume_failed owners failed w) p.name r h) [
        | inl still ↦ sure_of p one r below (failed_sure ((owners p.name).available && has_failed failed (owners p.name)) (was_unsettled w) (w.tracks p.name) r still)
        | inr idle ↦ elim is_fit.known [ inl on ↦ not_both on (sym is_fit.available ∙ idle) | inr other ↦ other ]
      ])

  pub runs_on : RunsOn plexes owners failed w fs old new
  runs_on = record {
    life = lived fs w.life;
    goes_on = on.0;
    runs = runs_now;
    sure = sure_now;
    exact = run_exact plexes old new was is w run (λ r. with_made r made (histories w r)) goes;
  }

-- a pass makes no entry
pub pass_runs : EachCallIsTracked → (plexes : List PlexImage) (old new : VolumeSeen) → IsVolume old → IsVolume new → (w : Volume) (run : RunsAsVolume plexes old w) →
    (owners : Word → TrackOwner) (failed : Word → Bool) → OwnersFit plexes old owners → FailuresAreTold plexes owners failed old new → new.length ≡ old.length → new.region ≡ old.region →
    RegionsGoOn old new run.fixed (histories w) (histories w) → RunsAsVolume plexes new (volume_failed owners failed w) × (IsSureOfOthers plexes old w → IsSureOfOthers plexes new (volume_failed owners failed w))
pass_runs tracked plexes old new was is w run owners failed fit counted long size goes =
    (runs_now tracked plexes old new was is w run owners failed fit counted [] [] tt tt long size goes, sure_now tracked plexes old new was is w run owners failed fit counted [] [] tt tt long size goes)
