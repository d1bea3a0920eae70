-- A volume of which devices have failed, and a map that is that of no plex.
use Rattle.std.proofs.Common.{◌≡◌, ℕ, ◌/◌, ◌<◌, Bool, true, false, sym, ◌∙◌, ap, inl, inr, cond, arith, List, length}
use Rattle.std.specs.Prelude.{◌&&◌, ◌||◌}
use Rattle.vx_base.specs.Named.{Word}
use Rattle.vx_mask.specs.Mask.{has}
use Rattle.vx_mask.proofs.Tests.{not_both, or_from_right}
use Rattle.vx_block.specs.Regions.{region_count}
use Rattle.vx_core.specs.Region.{RegionState}
use Rattle.vx_volume.specs.Volume.{IsVolume, VolumeSeen, cell_at}
use Rattle.vx_moments.specs.World.{Track, Volume}
use Rattle.vx_image.specs.Image.{PlexImage}
use Rattle.vx_moments.specs.Tracks.{TrackOwner, has_failed, volume_failed, was_unsettled}
use Rattle.vx_moments.proofs.Blocks.{below_count}
use Rattle.vx_volume_laws.specs.Running.{RegionRunsAs, RunsAsVolume, state_at}
use Rattle.vx_volume_laws.specs.Tracks.{GoesAt}
use Rattle.vx_change_laws.specs.Laws.{EachFailureIsNoted, EachFreeMapIsNew, RunsStill}

-- ---- failures

-- a failure makes nothing sure, and nothing impossible
failed_sure : (b : Bool) (left : ℕ → Bool) (t : Track) (r : ℕ) → (cond b (record t { possible = λ n. left n || t.possible n }) t).sure r ≡ true → t.sure r ≡ true
failed_sure true left t r h = h
failed_sure false left t r h = h

failed_possible : (b : Bool) (left : ℕ → Bool) (t : Track) (r : ℕ) → t.possible r ≡ true → (cond b (record t { possible = λ n. left n || t.possible n }) t).possible r ≡ true
failed_possible true left t r h = or_from_right (left r) (t.possible r) h
failed_possible false left t r h = h

module _ (owners : Word → TrackOwner) (failed : Word → Bool) (w : Volume) where
  abbrev now : Volume
  now = volume_failed owners failed w

  track_failed : (s : RegionState) (k : ℕ) (name : Word) (r : ℕ) → GoesAt s k (w.tracks name) r → GoesAt s k (now.tracks name) r
  track_failed s k name r g =
      let b = (owners name).available && has_failed failed (owners name) in
      record {
        sure = λ other h. g.sure other (failed_sure b (was_unsettled w) (w.tracks name) r h);
        possible = λ seen. failed_possible b (was_unsettled w) (w.tracks name) r (g.possible seen);
      }

  region_failed : (plexes : List PlexImage) (s : RegionState) (r : ℕ) → RegionRunsAs plexes s r w → RegionRunsAs plexes s r now
  region_failed plexes s r h =
      record {
        kept = h.kept;
        here = h.here;
        candidates = h.candidates;
        last = h.last;
        tracks = λ p one. track_failed s p.map p.name r (h.tracks p one);
        dirty = h.dirty;
        unsettled = h.unsettled;
      }

  pub runs_failed : (plexes : List PlexImage) (v : VolumeSeen) → RunsAsVolume plexes v w → RunsStill plexes plexes v v w now
  runs_failed plexes v run =
      record {
        runs = record {
          fixed = run.fixed;
          some = run.some;
          sized = run.sized;
          length_is = run.length_is;
          region_is = run.region_is;
          epoch = run.epoch;
          told = run.told;
          held = run.held;
          copies = run.copies;
          each = λ r lt. region_failed plexes (state_at v run.fixed w.life.entries r) r (run.each r lt);
        };
        sure = λ of p one r lt h. of p one r lt (failed_sure ((owners p.name).available && has_failed failed (owners p.name)) (was_unsettled w) (w.tracks p.name) r h);
      }

pub failure_noted : EachFailureIsNoted
failure_noted plexes v w run owners failed = runs_failed owners failed w plexes v run

-- ---- a free map

-- a volume that runs has a region
pub some_region : (plexes : List PlexImage) (v : VolumeSeen) (w : Volume) → IsVolume v → RunsAsVolume plexes v w → 0 < length v.cells
some_region plexes v w volume run =
    let below : 0 / v.region < region_count v.length v.region = below_count 0 v.length v.region run.sized run.some in
    let count = volume.count in
    omega (arith, below, count)

pub free_map_new : EachFreeMapIsNew
free_map_new map v volume free plexes w run owners fit p one same =
    let lt = some_region plexes v w volume run in
    let at = free.each 0 lt in
    elim ((fit p one 0 lt).known) [
      | inl on ↦ not_both (ap (λ (k : ℕ). has (cell_at v 0).stage.on k) (sym same) ∙ on) at.on
      | inr other ↦
          elim other [
            | inl off ↦ not_both (ap (λ (k : ℕ). has (cell_at v 0).stage.off k) (sym same) ∙ off) at.off
            | inr snap ↦ not_both (ap (λ (k : ℕ). has (cell_at v 0).stage.snaps k) (sym same) ∙ snap) at.snaps
          ]
    ]
