-- A volume runs on as the one that a plex has left.
use Rattle.std.proofs.Common.{◌≡◌, ◌≢◌, ℕ, ◌<◌, Bool, true, sym, ◌∙◌, ap, subst, inl, inr, List, length}
use Rattle.std.specs.Prelude.{◌&&◌, not, Contains}
use Rattle.vx_base.specs.Named.{Word}
use Rattle.vx_life.specs.Entry.{Entry}
use Rattle.vx_mask.specs.Mask.{has, only}
use Rattle.vx_mask.proofs.MaskLemmas.{has-only_other}
use Rattle.vx_mask.proofs.Sets.{in_without, out_without_left, without_parts}
use Rattle.vx_mask.proofs.Tests.{true_or_false}
use Rattle.vx_core.specs.declared.stage.Stage.{Stage}
use Rattle.vx_core.specs.declared.stage.Phase.TheVariants.{Settled, Dead}
use Rattle.vx_core.specs.History.{NoCall}
use Rattle.vx_core.specs.Plexes.{take_out}
use Rattle.vx_core.specs.Region.{Fixed, RegionState}
use Rattle.vx_core_laws.specs.Course.{IsKeptState}
use Rattle.vx_core_laws.specs.Tracking.{IsOther}
use Rattle.vx_marks.specs.Log.{LogSeen}
use Rattle.vx_cell.specs.Changes.{CellSeen}
use Rattle.vx_cell.specs.Parting.{without_plex}
use Rattle.vx_cell.specs.Plexes.{holds}
use Rattle.vx_cell.specs.Region.{marks_or, state_of}
use Rattle.vx_volume.specs.Laws.{EachLeavingTells, EachPlexMayLeave, without_held}
use Rattle.vx_volume.specs.Parting.{LosesPlexes}
use Rattle.vx_volume.specs.Switching.{CanSpare, IsSettled, IsTight}
use Rattle.vx_volume.specs.Volume.{IsVolume, VolumeSeen, cell_at, with_log}
use Rattle.vx_volume.proofs.Partings.{holds_less}
use Rattle.vx_volume.proofs.Switchings.{low_by}
use Rattle.vx_moments.specs.Tracks.{TrackOwner}
use Rattle.vx_moments.specs.World.{Track, Volume}
use Rattle.vx_image.specs.Image.{PlexImage}
use Rattle.vx_volume_laws.specs.Exact.{ShowsExactly}
use Rattle.vx_volume_laws.specs.Running.{IsSureOfOthers, RegionRunsAs, RunsAsVolume, entries_in}
use Rattle.vx_volume_laws.specs.Tracks.{GoesAt, HasMap}
use Rattle.vx_change_laws.specs.Laws.{RunsStill}
use Rattle.vx_change_laws.specs.Parting.{ArePartedBy, EachPartingFits, EachPartingRunsOn, EachPartingStaysCut, EachPartingStaysExact, volume_parted}

-- ---- the stage

-- what is not written to then was not, ..
other_was : (s : Stage) (map k : ℕ) → IsOther (take_out s map) k → IsOther s k
other_was s map k (inl off) = inl (without_parts s.off (only map) k off).0
other_was s map k (inr snap) = inr snap

-- .. and what was not is not, but for the plex
other_still : (s : Stage) (map k : ℕ) → k ≢ map → IsOther s k → IsOther (take_out s map) k
other_still s map k apart (inl off) = inl (in_without s.off (only map) k off (has-only_other map k apart))
other_still s map k apart (inr snap) = inr snap

on_still : (s : Stage) (map k : ℕ) → k ≢ map → has (take_out s map).on k ≡ has s.on k
on_still s map k apart =
    elim (true_or_false (has s.on k)) [
      | inl here ↦ in_without s.on (only map) k here (has-only_other map k apart) ∙ sym here
      | inr none ↦ out_without_left s.on (only map) k none ∙ sym none
    ]

-- ---- a region

module _ (map : ℕ) (c : CellSeen) (log : LogSeen) (fixed : Fixed) (es : List Entry) where
  abbrev lost : CellSeen
  lost = record c { stage = take_out c.stage map; plexes = without_plex map c.plexes }

  abbrev state_was : RegionState
  state_was = state_of (with_log c log) fixed es NoCall c.number

  abbrev state_now : RegionState
  state_now = state_of (with_log lost log) (without_held map fixed) es NoCall c.number

  goes_still : (k : ℕ) (t : Track) (r : ℕ) → GoesAt state_was k t r → GoesAt state_now k t r
  goes_still k t r g = record { sure = λ other h. g.sure (other_was c.stage map k other) h; possible = λ seen. g.possible seen }

  module _ (plexes later : List PlexImage) (parted : ArePartedBy map plexes later) (lies : List Word) (w : Volume) (r : ℕ) (run : RegionRunsAs plexes state_was r w) where
    track_stays : (p : PlexImage) → Contains later p → GoesAt state_now p.map (w.tracks p.name) r
    track_stays p one =
        let was = (parted p one).0 in
        subst (λ (n : Word). GoesAt state_now p.map (w.tracks n) r) was.2
        (subst (λ (k : ℕ). GoesAt state_now k (w.tracks was.0.name) r) was.3 (goes_still was.0.map (w.tracks was.0.name) r (run.tracks was.0 was.1)))

    pub region_parted : IsKeptState state_now → RegionRunsAs later state_now r (volume_parted lies w)
    region_parted kept =
        record {
          kept = kept;
          here = run.here;
          candidates = run.candidates;
          last = run.last;
          tracks = track_stays;
          dirty = λ seen. run.dirty seen;
          unsettled = run.unsettled;
        }

-- ---- the volume

module _ (leaves : EachPlexMayLeave) (tells : EachLeavingTells) (map : ℕ) (old new : VolumeSeen) (loses : LosesPlexes map old new)
    (volume : IsVolume old) (spare : CanSpare map old) (settled : IsSettled old) (tight : IsTight old)
    (plexes later : List PlexImage) (parted : ArePartedBy map plexes later) (w : Volume) (run : RunsAsVolume plexes old w) (lies : List Word) where
  inside : (r : ℕ) → r < length new.cells → r < length old.cells
  inside r lt = subst (λ (n : ℕ). r < n) loses.cells.size lt

  same_length : new.length ≡ old.length
  same_length = ap (λ (v : VolumeSeen). v.length) loses.same

  same_region : new.region ≡ old.region
  same_region = ap (λ (v : VolumeSeen). v.region) loses.same

  same_log : new.log ≡ old.log
  same_log = ap (λ (v : VolumeSeen). v.log) loses.same

  abbrev state_by : ℕ → CellSeen → LogSeen → RegionState
  state_by r c log = state_of (with_log c log) (without_held map (run.fixed r)) (entries_in r w.life.entries) NoCall c.number

  kept_now : (r : ℕ) → r < length new.cells → IsKeptState (state_by r (cell_at new r) new.log)
  kept_now r lt = leaves map old new loses volume spare settled tight run.fixed (λ n. entries_in n w.life.entries) (λ n at. (run.each n at).kept) r lt

  region_now : (r : ℕ) → r < length new.cells → RegionRunsAs later (state_by r (cell_at new r) new.log) r (volume_parted lies w)
  region_now r lt =
      let at = inside r lt in
      let is = loses.cells.each r at in
      subst (λ (log : LogSeen). RegionRunsAs later (state_by r (cell_at new r) log) r (volume_parted lies w)) (sym same_log)
      (subst (λ (x : CellSeen). RegionRunsAs later (state_by r x old.log) r (volume_parted lies w)) (sym is)
      (region_parted map (cell_at old r) old.log (run.fixed r) (entries_in r w.life.entries) plexes later parted lies w r (run.each r at)
      (subst (λ (x : CellSeen). IsKeptState (state_by r x old.log)) is (subst (λ (log : LogSeen). IsKeptState (state_by r (cell_at new r) log)) same_log (kept_now r lt)))))

  held_now : (r k : ℕ) → r < length new.cells → (without_held map (run.fixed r)).held k ≡ holds (cell_at new r).plexes k
  held_now r k lt =
      let at = inside r lt in
      let c = cell_at old r in
      let whole = (volume.each r at).whole in
      ap (λ (b : Bool). b && not (has (only map) k)) (run.held r k at)
      ∙ sym (holds_less map c.plexes whole.differ (low_by c.stage (holds c.plexes) map whole.formed.stage) k)
      ∙ ap (λ (x : CellSeen). holds x.plexes k) (sym (loses.cells.each r at))

  runs_now : RunsAsVolume later new (volume_parted lies w)
  runs_now =
      record {
        fixed = λ r. without_held map (run.fixed r);
        some = subst (λ (n : ℕ). 0 < n) (sym same_length) run.some;
        sized = subst (λ (n : ℕ). 0 < n) (sym same_region) run.sized;
        length_is = run.length_is ∙ sym same_length;
        region_is = run.region_is ∙ sym same_region;
        epoch = λ r lt. let at = inside r lt in ap (λ (x : CellSeen). x.epoch) (loses.cells.each r at) ∙ run.epoch r at;
        told = tells map old new loses run.told;
        held = held_now;
        copies = λ r lt. run.copies r (inside r lt) ∙ ap (λ (log : LogSeen). log.copies) (sym same_log);
        each = region_now;
      }

  sure_now : IsSureOfOthers plexes old w → IsSureOfOthers later new (volume_parted lies w)
  sure_now of p one r lt h =
      let at = inside r lt in
      let was = (parted p one).0 in
      let q = was.0 in
      let other : IsOther (cell_at old r).stage p.map = subst (λ (k : ℕ). IsOther (cell_at old r).stage k) was.3 (of q was.1 r at (subst (λ (n : Word). (w.tracks n).sure r ≡ true) (sym was.2) h)) in
      subst (λ (x : CellSeen). IsOther x.stage p.map) (sym (loses.cells.each r at)) (other_still (cell_at old r).stage map p.map (parted p one).1 other)

  pub still_parted : RunsStill plexes later old new w (volume_parted lies w)
  still_parted = record { runs = runs_now; sure = sure_now }

pub parting_runs : EachPlexMayLeave → EachLeavingTells → EachPartingRunsOn
parting_runs leaves tells map old new loses volume spare settled tight plexes later parted w run lies = still_parted leaves tells map old new loses volume spare settled tight plexes later parted w run lies

-- ---- owners

fit_still : (map : ℕ) (s : Stage) (k : ℕ) (p q : TrackOwner) → k ≢ map → q.available ≡ p.available → HasMap s k p → HasMap (take_out s map) k q
fit_still map s k p q apart same fit =
    record {
      available = same ∙ fit.available ∙ sym (on_still s map k apart);
      known = elim fit.known [ inl on ↦ inl (on_still s map k apart ∙ on) | inr other ↦ inr (other_still s map k apart other) ];
      not_dirty = fit.not_dirty;
    }

pub parting_fits : EachPartingFits
parting_fits map old new loses plexes later parted owners owners' stay fit p one r lt =
    let at : r < length old.cells = subst (λ (n : ℕ). r < n) loses.cells.size lt in
    let was = (parted p one).0 in
    let q = was.0 in
    let fit_was : HasMap (cell_at old r).stage p.map (owners p.name) =
    subst (λ (n : Word). HasMap (cell_at old r).stage p.map (owners n)) was.2 (subst (λ (k : ℕ). HasMap (cell_at old r).stage k (owners q.name)) was.3 (fit q was.1 r at)) in
    subst (λ (x : CellSeen). HasMap x.stage p.map (owners' p.name)) (sym (loses.cells.each r at))
    (fit_still map (cell_at old r).stage p.map (owners p.name) (owners' p.name) (parted p one).1 (stay p one) fit_was)

-- ---- the log, and power

pub parting_exact : EachPartingStaysExact
parting_exact map old new loses exact r n lt alive few =
    let at : r < length old.cells = subst (λ (m : ℕ). r < m) loses.cells.size lt in
    let is = loses.cells.each r at in
    let same : new.log ≡ old.log = ap (λ (v : VolumeSeen). v.log) loses.same in
    let alive_was : (cell_at old r).stage.phase ≡ Dead → ⊥ = λ dead. alive (ap (λ (x : CellSeen). x.stage.phase) is ∙ dead) in
    subst (λ (log : LogSeen). ShowsExactly (cell_at new r).stage.bits n (marks_or log.told r)) (sym same)
    (subst (λ (x : CellSeen). ShowsExactly x.stage.bits n (marks_or old.log.told r)) (sym is) (exact r n at alive_was (subst (λ (log : LogSeen). n < log.copies) same few)))

not_dead : Settled ≡ Dead → ⊥
not_dead e = cc

pub parting_cut : EachPartingStaysCut
parting_cut map old new loses settled r lt dead = absurd (not_dead (sym (settled r lt) ∙ ap (λ (x : CellSeen). x.stage.phase) (sym (loses.cells.each r lt)) ∙ dead))
