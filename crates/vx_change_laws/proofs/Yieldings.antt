-- A volume runs on whose log gave up one of its two copies.
use Rattle.std.proofs.Common.{◌≡◌, ℕ, ◌-◌, ◌<◌, sym, ◌∙◌, ap, subst, inl, inr, arith, List, length}
use Rattle.vx_base.specs.Named.{Word}
use Rattle.vx_life.specs.Entry.{Entry}
use Rattle.vx_core.specs.History.{NoCall}
use Rattle.vx_core.specs.Region.{Fixed, RegionState}
use Rattle.vx_core_laws.specs.Course.{IsKeptState}
use Rattle.vx_core_laws.specs.Tracking.{IsOther, IsSeen}
use Rattle.vx_cell.specs.Changes.{CellSeen}
use Rattle.vx_cell.specs.Plexes.{holds}
use Rattle.vx_cell.specs.Region.{marks_or, state_of}
use Rattle.vx_volume.specs.Laws.{EachCopyMayGo, EachYieldingTells}
use Rattle.vx_volume.specs.Volume.{VolumeSeen, cell_at, region_at, with_log}
use Rattle.vx_volume.specs.Yielding.{YieldsCopy}
use Rattle.vx_volume.proofs.Yieldings.{only_marks}
use Rattle.vx_moments.specs.World.{Volume}
use Rattle.vx_image.specs.Image.{PlexImage}
use Rattle.vx_volume_laws.specs.Calls.{StayPlexes}
use Rattle.vx_volume_laws.specs.Exact.{ShowsExactly}
use Rattle.vx_volume_laws.specs.Running.{RegionRunsAs, RunsAsVolume, entries_in}
use Rattle.vx_volume_laws.specs.Tracks.{HasMap}
use Rattle.vx_volume_laws.proofs.Stays.{stay_same}
use Rattle.vx_change_laws.specs.Laws.{RunsStill}
use Rattle.vx_change_laws.specs.Yielding.{EachCopyGivenUpFits, EachCopyGivenUpKeepsPlaces, EachCopyGivenUpRunsElsewhere, EachCopyGivenUpRunsOn, EachCopyGivenUpStaysCut, EachCopyGivenUpStaysExact, volume_on}

module _ (may : EachCopyMayGo) (tells : EachYieldingTells) (copy : ℕ) (old new : VolumeSeen) (yields : YieldsCopy copy old new) (plexes : List PlexImage) (w : Volume) (run : RunsAsVolume plexes old w) where
  cells : (r : ℕ) → cell_at new r ≡ cell_at old r
  cells r = ap (λ (v : VolumeSeen). cell_at v r) yields.same

  inside : (r : ℕ) → r < length new.cells → r < length old.cells
  inside r lt = subst (λ (v : VolumeSeen). r < length v.cells) yields.same lt

  abbrev histories : ℕ → List Entry
  histories r = entries_in r w.life.entries

  -- what is fixed, with one copy
  abbrev fixed_now : ℕ → Fixed
  fixed_now r = record (run.fixed r) { copies = 1 }

  kept_now : (r : ℕ) → r < length new.cells → IsKeptState (state_of (region_at new r) (fixed_now r) (histories r) NoCall (cell_at new r).number)
  kept_now r lt = may copy old new yields run.told run.fixed histories run.copies (λ n at. (run.each n at).kept) r lt

  abbrev state_by : ℕ → CellSeen → RegionState
  state_by r c = state_of (with_log c new.log) (fixed_now r) (histories r) NoCall c.number

  seen_was : (r : ℕ) → r < length old.cells → (k : ℕ) → IsSeen (state_by r (cell_at old r)) k → IsSeen (state_of (region_at old r) (run.fixed r) (histories r) NoCall (cell_at old r).number) k
  seen_was r at k (inl bit) = inl bit
  seen_was r at k (inr (inl loose)) =
      inr (inl (sym ((only_marks (1 - copy) old.log.told new.log.told yields.gives.told (run.told r at).1 (cell_at old r).region).loose k) ∙ loose))
  seen_was r at k (inr (inr freed)) = inr (inr freed)

  region_now : (r : ℕ) → r < length new.cells → RegionRunsAs plexes (state_by r (cell_at new r)) r w
  region_now r lt =
      let at = inside r lt in
      let was = run.each r at in
      subst (λ (x : CellSeen). RegionRunsAs plexes (state_by r x) r w) (sym (cells r))
      (record {
        kept = subst (λ (x : CellSeen). IsKeptState (state_by r x)) (cells r) (kept_now r lt);
        here = was.here;
        candidates = was.candidates;
        last = was.last;
        tracks = λ p one. let g = was.tracks p one in record { sure = g.sure; possible = λ seen. g.possible (seen_was r at p.map seen) };
        dirty = λ seen. was.dirty (seen_was r at 30 seen);
        unsettled = was.unsettled;
      })

  still_yielded : RunsStill plexes plexes old new w w
  still_yielded =
      record {
        runs = record {
          fixed = fixed_now;
          some = subst (λ (v : VolumeSeen). 0 < v.length) (sym yields.same) run.some;
          sized = subst (λ (v : VolumeSeen). 0 < v.region) (sym yields.same) run.sized;
          length_is = run.length_is ∙ ap (λ (v : VolumeSeen). v.length) (sym yields.same);
          region_is = run.region_is ∙ ap (λ (v : VolumeSeen). v.region) (sym yields.same);
          epoch = λ r lt. ap (λ (x : CellSeen). x.epoch) (cells r) ∙ run.epoch r (inside r lt);
          told = tells copy old new yields run.told;
          held = λ r k lt. run.held r k (inside r lt) ∙ ap (λ (x : CellSeen). holds x.plexes k) (sym (cells r));
          copies = λ r lt. sym yields.gives.copies;
          each = region_now;
        };
        sure = λ of p one r lt h. subst (λ (x : CellSeen). IsOther x.stage p.map) (sym (cells r)) (of p one r (inside r lt) h);
      }

-- a volume of the world runs wherever it lies
module _ (plexes : List PlexImage) (old new : VolumeSeen) (w : Volume) (lies : List Word) (still : RunsStill plexes plexes old new w w) where
  region_on : (r : ℕ) (s : RegionState) → RegionRunsAs plexes s r w → RegionRunsAs plexes s r (volume_on lies w)
  region_on r s run = record { kept = run.kept; here = run.here; candidates = run.candidates; last = run.last; tracks = run.tracks; dirty = run.dirty; unsettled = run.unsettled }

  still_on : RunsStill plexes plexes old new w (volume_on lies w)
  still_on =
      let run = still.runs in
      record {
        runs = record {
          fixed = run.fixed;
          some = run.some;
          sized = run.sized;
          length_is = run.length_is;
          region_is = run.region_is;
          epoch = run.epoch;
          told = run.told;
          held = run.held;
          copies = run.copies;
          each = λ r lt. region_on r _ (run.each r lt);
        };
        sure = still.sure;
      }

pub yielding_runs : EachCopyMayGo → EachYieldingTells → EachCopyGivenUpRunsOn
yielding_runs may tells copy old new yields plexes w run = still_yielded may tells copy old new yields plexes w run

pub yielding_elsewhere : EachCopyMayGo → EachYieldingTells → EachCopyGivenUpRunsElsewhere
yielding_elsewhere may tells copy old new yields plexes w run lies = still_on plexes old new w lies (still_yielded may tells copy old new yields plexes w run)

pub yielding_fits : EachCopyGivenUpFits
yielding_fits copy old new yields plexes owners fit p one r lt =
    subst (λ (x : CellSeen). HasMap x.stage p.map (owners p.name)) (ap (λ (v : VolumeSeen). cell_at v r) (sym yields.same))
    (fit p one r (subst (λ (v : VolumeSeen). r < length v.cells) yields.same lt))

pub yielding_exact : EachCopyGivenUpStaysExact
yielding_exact copy old new yields told exact r n lt alive few =
    let is : cell_at new r ≡ cell_at old r = ap (λ (v : VolumeSeen). cell_at v r) yields.same in
    let at : r < length old.cells = subst (λ (v : VolumeSeen). r < length v.cells) yields.same lt in
    let two = yields.gives.two in
    let was : ShowsExactly (cell_at old r).stage.bits (1 - copy) (marks_or old.log.told r) =
    exact r (1 - copy) at (λ dead. alive (ap (λ (x : CellSeen). x.stage.phase) is ∙ dead)) (omega (arith, two)) in
    let only = only_marks (1 - copy) old.log.told new.log.told yields.gives.told (told r at).1 r in
    subst (λ (x : CellSeen). ShowsExactly x.stage.bits n (marks_or new.log.told r)) (sym is) (record { shows = λ k. only.shows n k ∙ was.shows k; tight = λ k. only.loose k ∙ was.tight k })

pub yielding_places : EachCopyGivenUpKeepsPlaces
yielding_places copy old new yields =
    record {
      length_is = ap (λ (v : VolumeSeen). v.length) yields.same;
      region_is = ap (λ (v : VolumeSeen). v.region) yields.same;
      count = ap (λ (v : VolumeSeen). length v.cells) yields.same;
      plexes = λ r lt. subst (λ (x : CellSeen). StayPlexes (cell_at old r).plexes x.plexes) (ap (λ (v : VolumeSeen). cell_at v r) (sym yields.same)) (stay_same (cell_at old r).plexes);
      masks = λ r lt. let is : cell_at new r ≡ cell_at old r = ap (λ (v : VolumeSeen). cell_at v r) yields.same in (
        ap (λ (x : CellSeen). x.stage.on) is,
        ap (λ (x : CellSeen). x.stage.off) is,
        ap (λ (x : CellSeen). x.stage.snaps) is,
        ap (λ (x : CellSeen). x.stage.logged) is,
      );
      there = yields.gives.there;
    }

pub yielding_cut : EachCopyGivenUpStaysCut
yielding_cut copy old new yields r lt alive dead = absurd (alive (ap (λ (v : VolumeSeen). (cell_at v r).stage.phase) (sym yields.same) ∙ dead))
