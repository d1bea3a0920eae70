-- A volume of one plex runs on as the one that has another log.
use Rattle.std.proofs.Common.{◌≡◌, ℕ, ◌<◌, false, refl, sym, ◌∙◌, ap, subst, inl, inr, arith, List, [], ◌∷◌, length}
use Rattle.vx_base.specs.Named.{Word}
use Rattle.vx_life.specs.Entry.{Entry}
use Rattle.vx_mask.proofs.MaskLemmas.{has-zero}
use Rattle.vx_mask.proofs.Tests.{not_both}
use Rattle.vx_core.specs.History.{NoCall}
use Rattle.vx_core.specs.Region.{Fixed, RegionState}
use Rattle.vx_core.specs.Schedule.{IsIdle}
use Rattle.vx_core_laws.specs.Course.{IsKeptState}
use Rattle.vx_core_laws.specs.Tracking.{IsSeen}
use Rattle.vx_marks.specs.Log.{LogSeen}
use Rattle.vx_cell.specs.Changes.{CellSeen, first_as_zero, stage_alone}
use Rattle.vx_cell.specs.Plexes.{PlexSeen, SomePieceCut, holds}
use Rattle.vx_cell.specs.Region.{IsCut, marks_or, state_of}
use Rattle.vx_volume.specs.Laws.{with_log_of}
use Rattle.vx_volume.specs.Logging.{ChangesLog, IsAlone, ShowsNothing}
use Rattle.vx_volume.specs.Volume.{IsVolume, VolumeSeen, cell_at, region_at, with_log}
use Rattle.vx_volume.proofs.Loggings.{holds_alone, log_change_stands, log_change_tells, zero_on}
use Rattle.vx_volume.proofs.Wholes.{idle_freeing}
use Rattle.vx_moments.specs.World.{Volume}
use Rattle.vx_image.specs.Image.{PlexImage}
use Rattle.vx_volume_laws.specs.Exact.{ShowsExactly}
use Rattle.vx_volume_laws.specs.Running.{RegionRunsAs, RunsAsVolume, entries_in}
use Rattle.vx_volume_laws.specs.Tracks.{GoesAt, HasMap}
use Rattle.vx_change_laws.specs.Logging.{EachLogChangeFits, EachLogChangeIsExact, EachLogChangeRunsOn, EachLogChangeStaysCut, empty_track, volume_relogged}

-- ---- a region

module _ (c : CellSeen) (log : LogSeen) (fixed : Fixed) (es : List Entry) where
  abbrev renewed : CellSeen
  renewed = record c { stage = stage_alone log.there c.stage; plexes = first_as_zero c.plexes }

  abbrev state_now : RegionState
  state_now = state_of (with_log renewed log) (with_log_of log fixed) es NoCall c.number

  module _ (idle : IsIdle c.stage.phase) (loose : (k : ℕ) → (marks_or log.told c.region).loose k ≡ false) where
    -- nobody sees a mark
    unseen : (k : ℕ) → IsSeen state_now k → ⊥
    unseen k (inl bit) = not_both bit (has-zero k)
    unseen k (inr (inl is_loose)) = not_both is_loose (loose k)
    unseen k (inr (inr freed)) = not_both freed (idle_freeing c.stage.phase k idle)

    goes_empty : (k r : ℕ) → GoesAt state_now k empty_track r
    goes_empty k r = record { sure = λ other h. not_both h refl; possible = λ seen. absurd (unseen k seen) }

    pub region_relogged : (was : LogSeen) (plexes later : List PlexImage) (lies : List Word) (w : Volume) (r : ℕ) → RegionRunsAs plexes (state_of (with_log c was) fixed es NoCall c.number) r w →
        IsKeptState state_now → RegionRunsAs later state_now r (volume_relogged lies w)
    region_relogged was plexes later lies w r run kept =
        record {
          kept = kept;
          here = run.here;
          candidates = run.candidates;
          last = run.last;
          tracks = λ p one. goes_empty p.map r;
          dirty = λ seen. absurd (unseen 30 seen);
          unsettled = run.unsettled;
        }

-- ---- the volume

module _ (map : ℕ) (log : LogSeen) (old new : VolumeSeen) (changes : ChangesLog log old new) (volume : IsVolume old) (alone : IsAlone map old) (nothing : ShowsNothing log old)
    (plexes later : List PlexImage) (w : Volume) (run : RunsAsVolume plexes old w) (lies : List Word) where
  inside : (r : ℕ) → r < length new.cells → r < length old.cells
  inside r lt = subst (λ (n : ℕ). r < n) changes.cells.size lt

  same_length : new.length ≡ old.length
  same_length = ap (λ (v : VolumeSeen). v.length) changes.same

  same_region : new.region ≡ old.region
  same_region = ap (λ (v : VolumeSeen). v.region) changes.same

  is_log : new.log ≡ log
  is_log = ap (λ (v : VolumeSeen). v.log) changes.same

  abbrev state_by : ℕ → CellSeen → LogSeen → RegionState
  state_by r c l = state_of (with_log c l) (with_log_of log (run.fixed r)) (entries_in r w.life.entries) NoCall c.number

  kept_now : (r : ℕ) → r < length new.cells → IsKeptState (state_by r (cell_at new r) new.log)
  kept_now r lt = log_change_stands map log old new changes volume alone nothing run.fixed (λ n. entries_in n w.life.entries) (λ n at. (run.each n at).kept) r lt

  loose_at : (r : ℕ) → r < length old.cells → (k : ℕ) → (marks_or log.told (cell_at old r).region).loose k ≡ false
  loose_at r at k = subst (λ (m : ℕ). (marks_or log.told m).loose k ≡ false) (sym (volume.each r at).index) (nothing.loose r k at)

  region_now : (r : ℕ) → r < length new.cells → RegionRunsAs later (state_by r (cell_at new r) new.log) r (volume_relogged lies w)
  region_now r lt =
      let at = inside r lt in
      let is = changes.cells.each r at in
      subst (λ (l : LogSeen). RegionRunsAs later (state_by r (cell_at new r) l) r (volume_relogged lies w)) (sym is_log)
      (subst (λ (x : CellSeen). RegionRunsAs later (state_by r x log) r (volume_relogged lies w)) (sym is)
      (region_relogged (cell_at old r) log (run.fixed r) (entries_in r w.life.entries) (volume.each r at).idle (loose_at r at) old.log plexes later lies w r (run.each r at)
      (subst (λ (x : CellSeen). IsKeptState (state_by r x log)) is (subst (λ (l : LogSeen). IsKeptState (state_by r (cell_at new r) l)) is_log (kept_now r lt)))))

  held_now : (r k : ℕ) → r < length new.cells → (with_log_of log (run.fixed r)).held k ≡ holds (cell_at new r).plexes k
  held_now r k lt =
      let at = inside r lt in
      sym (holds_alone map (cell_at old r) (alone r at) k) ∙ ap (λ (x : CellSeen). holds x.plexes k) (sym (changes.cells.each r at))

  pub runs_relogged : RunsAsVolume later new (volume_relogged lies w)
  runs_relogged =
      record {
        fixed = λ r. with_log_of log (run.fixed r);
        some = subst (λ (n : ℕ). 0 < n) (sym same_length) run.some;
        sized = subst (λ (n : ℕ). 0 < n) (sym same_region) run.sized;
        length_is = run.length_is ∙ sym same_length;
        region_is = run.region_is ∙ sym same_region;
        epoch = λ r lt. let at = inside r lt in ap (λ (x : CellSeen). x.epoch) (changes.cells.each r at) ∙ run.epoch r at;
        told = log_change_tells log old new changes nothing.told run.told;
        held = held_now;
        copies = λ r lt. ap (λ (l : LogSeen). l.copies) (sym is_log);
        each = region_now;
      }

pub log_change_runs : EachLogChangeRunsOn
log_change_runs map log old new changes volume alone fresh nothing plexes later w run lies =
    record { runs = runs_relogged map log old new changes volume alone nothing plexes later w run lies; sure = λ of p one r lt h. not_both h refl }

-- ---- owners, the marks, and cuts

pub log_change_fits : EachLogChangeFits
log_change_fits log old new changes later numbers owners written p one r lt =
    let at : r < length old.cells = subst (λ (n : ℕ). r < n) changes.cells.size lt in
    subst (λ (x : CellSeen). HasMap x.stage p.map (owners p.name)) (sym (changes.cells.each r at))
    (subst (λ (k : ℕ). HasMap (stage_alone log.there (cell_at old r).stage) k (owners p.name)) (sym (numbers p one))
    (record { available = written p one ∙ sym zero_on; known = inl zero_on; not_dirty = λ e. absurd (omega (arith, e)) }))

pub log_change_exact : EachLogChangeIsExact
log_change_exact log old new changes nothing r n lt alive few =
    let at : r < length old.cells = subst (λ (m : ℕ). r < m) changes.cells.size lt in
    let is : new.log ≡ log = ap (λ (v : VolumeSeen). v.log) changes.same in
    subst (λ (l : LogSeen). ShowsExactly (cell_at new r).stage.bits n (marks_or l.told r)) (sym is)
    (subst (λ (x : CellSeen). ShowsExactly x.stage.bits n (marks_or log.told r)) (sym (changes.cells.each r at))
    (record { shows = λ k. nothing.shows r n k at ∙ sym (has-zero k); tight = λ k. nothing.loose r k at }))

cut_zero : (ps : List PlexSeen) → SomePieceCut ps → SomePieceCut (first_as_zero ps)
cut_zero [] cut = cut
cut_zero (p ∷ ps) cut = cut

pub log_change_cut : EachLogChangeStaysCut
log_change_cut map log old new changes alone power r lt was dead =
    let is = changes.cells.each r lt in
    let same : new.log ≡ log = ap (λ (v : VolumeSeen). v.log) changes.same in
    let cut : IsCut (region_at old r) = was (ap (λ (x : CellSeen). x.stage.phase) (sym is) ∙ dead) in
    subst (λ (l : LogSeen). IsCut (with_log (cell_at new r) l)) (sym same)
    (subst (λ (x : CellSeen). IsCut (with_log x log)) (sym is)
    (elim cut [ inl piece ↦ inl (cut_zero (cell_at old r).plexes piece) | inr gone ↦ not_both gone power ]))
