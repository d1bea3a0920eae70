-- What is opened over the plexes of its regions is a volume.
use Rattle.std.proofs.Common.{◌≡◌, ℕ, ◌+◌, ◌-◌, ◌*◌, ◌/◌, ◌^◌, ◌<◌, ◌≤◌, min, Bool, true, false, if◌then◌else◌, refl, sym, ◌∙◌, ap, subst, arith, List, [], length}
use Rattle.std.specs.Prelude.{IsTrue}
use Rattle.std.proofs.Math.Nat.{le-div_iff_mul-le, add-mul}
use Rattle.std.proofs.lemmas.Bool.Decides.{nat_tests}
use Rattle.vx_block.specs.Geometry.{is_geometry}
use Rattle.vx_block.specs.Regions.{region_count}
use Rattle.vx_mask.specs.Mask.{has}
use Rattle.vx_core.specs.declared.stage.Stage.{Stage}
use Rattle.vx_core.specs.declared.stage.Phase.{Phase}
use Rattle.vx_core.specs.declared.stage.Phase.TheVariants.{Settled, Unsettled, Dead, Busy}
use Rattle.vx_core.specs.Form.{FormIn, IsFormed}
use Rattle.vx_core.specs.Schedule.{IsIdle}
use Rattle.vx_core.specs.Soundness.{MarkedIn, freeing}
use Rattle.vx_marks.specs.Log.{AreClaimed, LogSeen}
use Rattle.vx_cell.specs.Changes.{CellSeen}
use Rattle.vx_cell.specs.Plexes.{PlexSeen, holds}
use Rattle.vx_cell.specs.Region.{IsLogOf, IsWhole}
use Rattle.vx_pages.specs.Items.{item_at}
use Rattle.vx_pages.specs.declared.local_piece.LocalPiece.{Ghosts}
use Rattle.vx_piece.specs.Seen.{Seen}
use Rattle.vx_volume.specs.declared.log.VolumeLog.{VolumeLog}
use Rattle.vx_volume.specs.declared.log.VolumeLog.TheVariants.{Absent, Maps}
use Rattle.vx_volume.specs.declared.volume.VolumeShape.{VolumeShape}
use Rattle.vx_volume.specs.Log.{log_seen}
use Rattle.vx_volume.specs.Opening.{AreOpenable, AreOpenedCells, ArePlexesOf, AreVolumeMasks, HasCurrent, IsOpenedCell, count_of, size_of, stage_of}
use Rattle.vx_volume.specs.Volume.{IsCellOf, IsVolume, VolumeSeen, no_cell, with_log}

-- ---- sizes

pub sized : (length region : ℕ) → IsTrue (is_geometry length region) → (0 < region) × (region ≤ 2048)
sized length region valid = grind (arith, nat_tests)

region_begins : (length region r : ℕ) → 0 < region → r < region_count length region → r * region < length
region_begins length region r some lt =
    let last : r + 1 ≤ (length + (region - 1)) / region = omega arith in
    let below : (r + 1) * region ≤ length + (region - 1) = (le-div_iff_mul-le some).0 last in
    let one : (r + 1) * region ≡ r * region + 1 * region = add-mul r 1 region in
    omega (arith, below, one)

some_blocks : (length region r : ℕ) → 0 < region → r < region_count length region → 0 < min region (length - r * region)
some_blocks length region r some lt = let begins = region_begins length region r some lt in omega (arith, begins)

few_blocks : (length region r : ℕ) → region ≤ 2048 → min region (length - r * region) < 2 ^ 64
few_blocks length region r few = omega arith

-- ---- the log

pub no_claims : {P : Type 0} {ghosts : Ghosts P} (seen : P → Seen) (log : VolumeLog P ghosts) → (log_seen seen log).there ≡ false → (r k : ℕ) → (log_seen seen log).claims r k ≡ false
no_claims seen Absent none r k = refl
no_claims seen (Maps store) none r k = cc

pub not_lent : {P : Type 0} {ghosts : Ghosts P} (seen : P → Seen) (log : VolumeLog P ghosts) → (log_seen seen log).lent ≡ false
not_lent seen Absent = refl
not_lent seen (Maps store) = refl

-- ---- a phase in which no job is under way

pub idle_form : (s : Stage) (phase : Phase) → IsIdle phase → FormIn s phase
idle_form s Settled idle = tt
idle_form s Unsettled idle = tt
idle_form s Dead idle = tt
idle_form s (Busy w) idle = absurd idle

pub idle_marked : (s : Stage) (phase : Phase) → IsIdle phase → MarkedIn s phase
idle_marked s Settled idle = tt
idle_marked s Unsettled idle = tt
idle_marked s Dead idle = tt
idle_marked s (Busy w) idle = absurd idle

pub idle_freeing : (phase : Phase) (k : ℕ) → IsIdle phase → freeing phase k ≡ false
idle_freeing Settled k idle = refl
idle_freeing Unsettled k idle = refl
idle_freeing Dead k idle = refl
idle_freeing (Busy w) k idle = absurd idle

begins_idle : (b : Bool) → IsIdle (if b then Unsettled else Settled)
begins_idle true = tt
begins_idle false = tt

-- ---- a region

module _ (shape : VolumeShape) (log : LogSeen) (masks : AreVolumeMasks shape log) (none : log.there ≡ false → (r k : ℕ) → log.claims r k ≡ false) where
  opened_formed : (r bits : ℕ) (ps : List PlexSeen) → bits < 2 ^ 64 → AreClaimed (log.claims r) bits → ArePlexesOf shape (size_of shape r) ps → HasCurrent shape log r →
      IsFormed (stage_of shape log.there bits) (stage_of shape log.there bits).phase (holds ps)
  opened_formed r bits ps fits claimed plexes current =
      record {
        stage = record {
          on_fits = masks.on_fits;
          off_fits = masks.off_fits;
          snaps_fit = masks.snaps_fit;
          bits_fit = fits;
          off_apart = masks.off_apart;
          snaps_apart = masks.snaps_apart;
          off_snaps = masks.off_snaps;
          dirty_apart = masks.dirty_apart;
          held_on = plexes.held;
          plexes = plexes.known;
          alone = masks.alone;
          unlogged = λ off k. let m = masks.unlogged off k in (m.0, m.1, claimed k ∙ none off r k);
        };
        readable = (current.0, current.1, claimed current.0 ∙ current.2, idle_freeing _ current.0 (begins_idle (has bits 30)));
        step = idle_form (stage_of shape log.there bits) _ (begins_idle (has bits 30));
        marked = idle_marked (stage_of shape log.there bits) _ (begins_idle (has bits 30));
      }

  opened_log : (r bits : ℕ) → r < count_of shape → log.there ≡ true → IsLogOf log r (stage_of shape log.there bits)
  opened_log r bits lt there = let m = masks.maps there in record { there = there; known = masks.regions r lt; maps = m.0; dirty = m.1 }

  opened_whole : (r : ℕ) (ps : List PlexSeen) (cell : CellSeen) → r < count_of shape → ArePlexesOf shape (size_of shape r) ps → HasCurrent shape log r → IsOpenedCell shape log r ps cell → IsWhole (with_log cell log)
  opened_whole r ps cell lt plexes current is =
      let size = sized shape.geometry.length shape.geometry.region shape.geometry.valid in
      subst (λ (x : CellSeen). IsWhole (with_log x log)) (sym is.is)
      (record {
        formed = opened_formed r is.bits ps is.fits is.claimed plexes current;
        differ = plexes.differ;
        cover = plexes.cover;
        some = some_blocks shape.geometry.length shape.geometry.region r size.0 lt;
        fits = few_blocks shape.geometry.length shape.geometry.region r size.1;
        logged = λ there. opened_log r is.bits lt there;
      })

  -- the volume of the cells that were opened
  abbrev volume_with : List CellSeen → ℕ → VolumeSeen
  volume_with cells scratch = record { length = shape.geometry.length; region = shape.geometry.region; cells = cells; log = log; scratch = scratch; most = 0 }

  opened_cell : (r : ℕ) (ps : List PlexSeen) (cells : List CellSeen) (scratch : ℕ) → r < count_of shape → ArePlexesOf shape (size_of shape r) ps → HasCurrent shape log r → IsOpenedCell shape log r ps (item_at no_cell cells r) → IsCellOf (volume_with cells scratch) r
  opened_cell r ps cells scratch lt plexes current is =
      record {
        index = ap (λ (x : CellSeen). x.region) is.is;
        start = ap (λ (x : CellSeen). x.start) is.is;
        size = ap (λ (x : CellSeen). x.size) is.is;
        idle = subst (λ (x : CellSeen). IsIdle x.stage.phase) (sym is.is) (begins_idle (has is.bits 30));
        whole = opened_whole r ps (item_at no_cell cells r) lt plexes current is;
        below = subst (λ (x : CellSeen). x.number ≤ 0) (sym is.is) (omega arith);
      }

  pub opened_volume : (regions : List (List PlexSeen)) (cells : List CellSeen) (scratch : ℕ) → AreOpenable shape log regions → ((r : ℕ) → r < count_of shape → HasCurrent shape log r) → log.lent ≡ false → AreOpenedCells shape log regions cells → scratch ≡ 512 * shape.geometry.region → IsVolume (volume_with cells scratch)
  opened_volume regions cells scratch able current own are size =
      record {
        count = are.count ∙ able.count;
        each = λ r lt.
            let inside : r < length regions = subst (λ (n : ℕ). r < n) are.count lt in
            let below : r < count_of shape = subst (λ (n : ℕ). r < n) able.count inside in
            opened_cell r (item_at [] regions r) cells scratch below (able.plexes r inside) (current r below) (are.each r inside);
        own = own;
        scratch = size;
      }
