-- A new log, or none, can be the log of a running volume: it claims and shows nothing of the regions.
use Rattle.std.proofs.Common.{◌≡◌, ◌∙◌, ℕ, ◌<◌, Bool, true, false, List, length, Option, Some, None, refl, sym, ap, subst, arith}
use Rattle.std.specs.Prelude.{◌&&◌, nat_lt}
use Rattle.std.proofs.lemmas.Bool.Decides.{nat_tests}
use Rattle.vx_block.specs.Regions.{region_count}
use Rattle.vx_block.specs.declared.geometry.Geometry.{Geometry}
use Rattle.vx_mask.specs.Marks.{Marks}
use Rattle.vx_mask.proofs.MaskLemmas.{has-zero}
use Rattle.vx_mapfmt.specs.declared.shape.DcoShape.{DcoShape}
use Rattle.vx_piece.specs.Seen.{Seen}
use Rattle.vx_pages.specs.declared.local_piece.LocalPiece.{Ghosts}
use Rattle.vx_cell.specs.Region.{Tells, marks_or}
use Rattle.vx_maps.specs.Creating.{AllTell}
use Rattle.vx_maps.specs.Stores.{shape_of, store_seen}
use Rattle.vx_maps.specs.declared.store.MapStore.{MapStore}
use Rattle.vx_config_parts.specs.declared.vol.Vol.{Vol}
use Rattle.vx_objects.specs.declared.config.Config.{Config}
use Rattle.vx_volume.specs.declared.log.VolumeLog.TheVariants as logs
use Rattle.vx_volume.specs.Log.{absent_log, log_seen}
use Rattle.vx_volume.specs.Logging.{IsNewLogFor, ShowsNothing}
use Rattle.vx_volume.specs.Volume.{VolumeSeen, volume_seen}
use Rattle.vx_lending.specs.Logs.{AreShown, IsFreshStore, marked_maps}
use Rattle.vx_lending.specs.declared.public.Running.{Running}
use Rattle.vx_group_volumes.specs.Runs.{RunsIn}

-- ---- the regions

-- those of the running volume are those of its record
pub regions_are : {P : Type 0} {ghosts : Ghosts P} (see : P → Seen) (c : Config) (good : ℕ) (numbers : List ℕ) (v : Vol) (r : Running P ghosts) → RunsIn see c good numbers v r → length (volume_seen see r.volume).cells ≡ region_count v.len v.region
regions_are see c good numbers v r runs =
    let seen = volume_seen see r.volume in
    let length_is : seen.length ≡ v.len = runs.lies.lies.length_is ∙ runs.form.shape_is.length_is ∙ sym runs.keeps.length_is in
    let region_is : seen.region ≡ v.region = runs.lies.lies.region_is ∙ runs.form.shape_is.region_is ∙ sym runs.keeps.region_is in
    runs.whole.count ∙ ap (λ n. region_count n seen.region) length_is ∙ ap (region_count v.len) region_is

below : (r n m : ℕ) → n ≡ m → r < m → nat_lt r n ≡ true
below r n m e lt = grind (arith, nat_tests)

-- the maps of these blocks and regions have each of them
region_known : (shape : DcoShape) (geometry : Geometry) (len region r : ℕ) → shape.geometry ≡ geometry → geometry.length ≡ len → geometry.region ≡ region → r < region_count len region → nat_lt r shape.regions ≡ true
region_known shape geometry len region r e f h lt =
    below r shape.regions (region_count len region)
    (shape.counted ∙ ap (λ (g : Geometry). region_count g.length g.region) e ∙ ap (λ n. region_count n geometry.region) f ∙ ap (region_count len) h) lt

-- ---- the marks

and_false : (b : Bool) → (b && false) ≡ false
and_false true = refl
and_false false = refl

no_map : (k : ℕ) → marked_maps 0 k ≡ false
no_map k = ap (λ (b : Bool). nat_lt k 32 && b) (has-zero k) ∙ and_false (nat_lt k 32)

module _ (maps known : ℕ → Bool) where
  marks_told : (told : Option (ℕ → Marks)) → AreShown maps known told → Tells told
  marks_told None shown = shown
  marks_told (Some marks) shown = tt

  marks_shown : (told : Option (ℕ → Marks)) → AreShown maps known told → (r n k : ℕ) → known r ≡ true → (marks_or told r).shows n k ≡ maps k
  marks_shown None shown r n k here = absurd shown
  marks_shown (Some marks) shown r n k here = (shown r here).0 n k

  none_loose : (told : Option (ℕ → Marks)) → AreShown maps known told → (r k : ℕ) → known r ≡ true → (marks_or told r).loose k ≡ false
  none_loose None shown r k here = absurd shown
  none_loose (Some marks) shown r k here = (shown r here).1 k

-- ---- a new log

module _ {P : Type 0} {ghosts : Ghosts P} (see : P → Seen) (c : Config) (good : ℕ) (numbers : List ℕ) (v : Vol) (r : Running P ghosts) (runs : RunsIn see c good numbers v r)
    (copies : List (List Seen)) (geometry : Geometry) (long : geometry.length ≡ v.len) (region : geometry.region ≡ v.region) (store : MapStore P ghosts) (fresh : IsFreshStore see geometry 0 copies store) where
  known : (k : ℕ) → k < length (volume_seen see r.volume).cells → (store_seen see store).has_region k ≡ true
  known k lt = region_known (shape_of store) geometry v.len v.region k fresh.geometry_is long region (subst (λ n. k < n) (regions_are see c good numbers v r runs) lt)

  -- it can be the log of the volume
  pub fresh_may : IsNewLogFor (log_seen see (logs.Maps store)) (volume_seen see r.volume)
  fresh_may = record {
    claims = λ k m lt. fresh.claims k m (known k lt) ∙ no_map m;
    own = refl;
    known = λ there k lt. known k lt;
    maps = λ there. omega arith;
  }

  -- and shows nothing of it, where the copies told what they held
  pub fresh_shows_nothing : AllTell copies → ShowsNothing (log_seen see (logs.Maps store)) (volume_seen see r.volume)
  fresh_shows_nothing tell =
      let told = (store_seen see store).told in
      let has_it = (store_seen see store).has_region in
      let shown : AreShown (marked_maps 0) has_it told = fresh.told tell in
      record {
        told = marks_told (marked_maps 0) has_it told shown;
        shows = λ k n m lt. marks_shown (marked_maps 0) has_it told shown k n m (known k lt) ∙ no_map m;
        loose = λ k m lt. none_loose (marked_maps 0) has_it told shown k m (known k lt);
      }

-- ---- no log

pub absent_may : (v : VolumeSeen) → IsNewLogFor absent_log v
absent_may v = record { claims = λ k m lt. refl; own = refl; known = λ there k lt. refl; maps = λ there. omega arith }

pub absent_shows_nothing : (v : VolumeSeen) → ShowsNothing absent_log v
absent_shows_nothing v = record { told = tt; shows = λ k n m lt. refl; loose = λ k m lt. refl }
