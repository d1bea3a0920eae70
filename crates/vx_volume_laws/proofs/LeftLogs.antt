-- What the log of a volume shows is what its copies hold.
use Rattle.std.proofs.Common.{◌≡◌, ℕ, zero, suc, ◌<◌, Bool, true, false, Option, Some, None, List, [], ◌∷◌, length, refl, sym, ap, ◌∙◌, subst, arith}
use Rattle.std.specs.Prelude.{is_some, if◌then◌else◌, IfSome}
use Rattle.std.proofs.lemmas.Bool.{and_from, lt-ltb}
use Rattle.vx_block.specs.Regions.{region_count}
use Rattle.vx_block.specs.declared.geometry.Geometry.{Geometry}
use Rattle.vx_mask.specs.Marks.{Marks}
use Rattle.vx_mapfmt.specs.Bits.{marks}
use Rattle.vx_mapfmt.specs.Sizes.{page_count}
use Rattle.vx_piece.specs.Seen.{Seen}
use Rattle.vx_runs.specs.Run.{run_contents}
use Rattle.vx_cell.specs.Region.{Tells, marks_or}
use Rattle.vx_pages.specs.declared.local_piece.LocalPiece.{Ghosts}
use Rattle.vx_pages.specs.Sector.{KeepsPiece}
use Rattle.vx_pages.specs.Stays.{piece_same}
use Rattle.vx_maps.specs.declared.store.MapStore.{MapStore}
use Rattle.vx_maps.specs.Going.{CopiesGo}
use Rattle.vx_maps.specs.Loading.{copy_at}
use Rattle.vx_maps.specs.Sheets.{sheets_seen}
use Rattle.vx_maps.specs.Slots.{copies_in}
use Rattle.vx_maps.specs.Stores.{store_seen}
use Rattle.vx_maps.specs.Wholes.{store_copies}
use Rattle.vx_maps.specs.Creating.{AllTell, BeginsWith, EachBegins, heads_tell}
use Rattle.vx_maps.proofs.Contents.{store_begins, store_count, store_some, tells_begin}
use Rattle.vx_maps.proofs.CopyLaws.{store_goes}
use Rattle.vx_maps.proofs.Shows.{marks_bits}
use Rattle.vx_volume.specs.declared.log.VolumeLog.{VolumeLog}
use Rattle.vx_volume.specs.declared.log.VolumeLog.TheVariants.{Absent, Maps}
use Rattle.vx_volume.specs.Log.{LogGoes, log_seen}
use Rattle.vx_lending.specs.Logs.{AreShown, IsFreshLog, IsFreshStore, IsLoadedLog, log_copies, log_header, marked_maps}
use Rattle.vx_volume_laws.proofs.OpenedImages.{same_item}
use Rattle.vx_volume_laws.specs.Lying.{IsLogFor, IsLogOver}
use Rattle.vx_volume_laws.specs.Places.{IsSamePlace}
use Rattle.vx_volume_laws.specs.Recorded.{IsNewLog}
use Rattle.vx_volume_laws.proofs.Stays.{copies_weaker, place_kept}

marks_told : (told : Option (ℕ → Marks)) (fact : (ℕ → Marks) → Type 0) → IfSome told fact → Tells told → fact (marks_or told)
marks_told None fact h tells = absurd tells
marks_told (Some marks) fact h tells = h

some_pages : (regions : ℕ) → 0 < regions → 0 < page_count regions
some_pages regions some = omega (arith, some)

module _ {P : Type 0} {ghosts : Ghosts P} (store : MapStore P ghosts) where
  copies_long : length (store_copies ghosts.seen store) ≡ copies_in (sheets_seen ghosts.seen store.base.sheets)
  copies_long = store_count store

  some_copies : 0 < length (store_copies ghosts.seen store)
  some_copies = subst (λ n. 0 < n) (sym copies_long) (by (sheets_seen ghosts.seen store.base.sheets).second)
    where
      by : {A : Type 0} (x : Option A) → 0 < (if is_some x then 2 else 1)
      by None = omega arith
      by (Some y) = omega arith

  store_over : 0 < store.base.shape.regions → IsLogOver (store_seen ghosts.seen store) store.base.shape.regions (store_copies ghosts.seen store)
  store_over some =
      record {
        there = sym (lt-ltb 0 (length (store_copies ghosts.seen store)) some_copies);
        count = let pages = store.paged.count in let more = some_pages store.base.shape.regions some in store.copied 0 (omega (arith, pages, more)) ∙ sym copies_long;
        shows = λ tells n r k lt.
            let same = copies_long in
            marks_told (store_seen ghosts.seen store).told
            (λ told. (n region map : ℕ) → n < copies_in (sheets_seen ghosts.seen store.base.sheets) → (told region).shows n map ≡ marks store.base.shape.regions (run_contents (copy_at (store_copies ghosts.seen store) n)) map region) (marks_bits store) tells n r k (omega (arith, lt, same))
            ∙ ap (λ (x : List Seen). marks store.base.shape.regions (run_contents x) k r) (same_item [] (store_copies ghosts.seen store) n);
      }

-- the log of a volume with regions is over its copies
pub log_over : {P : Type 0} {ghosts : Ghosts P} (geometry : Geometry) (log : VolumeLog P ghosts) → IsLogFor geometry log → 0 < region_count geometry.length geometry.region →
    IsLogOver (log_seen ghosts.seen log) (region_count geometry.length geometry.region) (log_copies ghosts.seen log)
log_over geometry Absent fits some = record { there = refl; count = refl; shows = λ tells n r k lt. absurd (omega (arith, lt)) }
log_over {ghosts = ghosts} geometry (Maps store) fits some =
    let same : store.base.shape.regions ≡ region_count geometry.length geometry.region = store.base.shape.counted ∙ ap (λ (g : Geometry). region_count g.length g.region) fits in
    subst (λ n. IsLogOver (store_seen ghosts.seen store) n (store_copies ghosts.seen store)) same (store_over store (omega (arith, some, same)))

-- as its pieces go on, so do those of its copies, and it is a log for the same volume
pub log_goes : {P : Type 0} {ghosts : Ghosts P} (old new : VolumeLog P ghosts) → LogGoes ghosts.seen old new → CopiesGo IsSamePlace (log_copies ghosts.seen old) (log_copies ghosts.seen new) × ((geometry : Geometry) → IsLogFor geometry old → IsLogFor geometry new)
log_goes Absent Absent goes = (tt, λ geometry fits. fits)
log_goes Absent (Maps new) goes = absurd goes
log_goes (Maps old) Absent goes = absurd goes
log_goes {ghosts = ghosts} (Maps old) (Maps new) goes = (copies_weaker KeepsPiece IsSamePlace (λ p q h. place_kept p q h.kept) (store_copies ghosts.seen old) (store_copies ghosts.seen new) (store_goes KeepsPiece piece_same old new goes.0), λ geometry fits. ap (λ shape. shape.geometry) goes.0.shape ∙ fits)

-- a log that was loaded, or made new, is one for its volume
pub loaded_for : {P : Type 0} {ghosts : Ghosts P} (geometry : Geometry) (old : List (List Seen)) (log : VolumeLog P ghosts) → IsLoadedLog ghosts.seen geometry old log → IsLogFor geometry log
loaded_for geometry old Absent is = tt
loaded_for geometry old (Maps store) is = is.0

pub fresh_for : {P : Type 0} {ghosts : Ghosts P} (geometry : Geometry) (mask : ℕ) (old : List (List Seen)) (log : VolumeLog P ghosts) → IsFreshLog ghosts.seen geometry mask old log → IsLogFor geometry log
fresh_for geometry mask old Absent is = tt
fresh_for geometry mask old (Maps store) is = is.geometry_is

-- ---- a new log

-- the marks that are told, of a region that is known
shown_told : (maps known : ℕ → Bool) (told : Option (ℕ → Marks)) → AreShown maps known told → Tells told × ((r : ℕ) → known r ≡ true → ((n k : ℕ) → (marks_or told r).shows n k ≡ maps k) × ((k : ℕ) → (marks_or told r).loose k ≡ false))
shown_told maps known None shown = absurd shown
shown_told maps known (Some marks) shown = (tt, shown)

heads_all : (xs : List (List Seen)) → AllTell xs → ((n : ℕ) → n < length xs → 0 < length (copy_at xs n)) → heads_tell xs ≡ true
heads_all [] tell some = refl
heads_all (x ∷ xs) tell some = and_from _ _ (tells_begin x tell.0 (some 0 (omega arith))) (heads_all xs tell.1 (λ n lt. some (suc n) (omega (arith, lt))))

begins_at : (bytes : List ℕ) (xs : List (List Seen)) (n : ℕ) → EachBegins bytes xs → n < length xs → BeginsWith bytes (copy_at xs n)
begins_at bytes [] n each lt = absurd (omega (arith, lt))
begins_at bytes (x ∷ xs) zero each lt = each.0
begins_at bytes (x ∷ xs) (suc n) each lt = begins_at bytes xs n each.1 (omega (arith, lt))

-- a log that was made new over copies that tell what they hold
pub log_new : {P : Type 0} {ghosts : Ghosts P} (geometry : Geometry) (mask : ℕ) (old : List (List Seen)) (store : MapStore P ghosts) → AllTell old → IsFreshStore ghosts.seen geometry mask old store →
    IsNewLog geometry mask (store_seen ghosts.seen store) (store_copies ghosts.seen store)
log_new {ghosts = ghosts} geometry mask old store tell fresh =
    let count : store.base.shape.regions ≡ region_count geometry.length geometry.region = store.base.shape.counted ∙ ap (λ (g : Geometry). region_count g.length g.region) fresh.geometry_is in
    let known = λ (r : ℕ) (low : r < region_count geometry.length geometry.region). lt-ltb r store.base.shape.regions (omega (arith, low, count)) in
    let told = shown_told (marked_maps mask) (store_seen ghosts.seen store).has_region (store_seen ghosts.seen store).told (fresh.told tell) in
    let copies = store_copies ghosts.seen store in
    let long = store_count store in
    record {
      claims = λ r k low. fresh.claims r k (known r low);
      shows = λ r n k low. (told.1 r (known r low)).0 n k;
      tight = λ r k low. (told.1 r (known r low)).1 k;
      tells = told.0;
      heads = λ all n lt.
          let heads = heads_all copies all (λ m lt'. store_some store m (omega (arith, lt', long))) in
          ap (λ (x : List Seen). run_contents x 0) (sym (same_item [] copies n)) ∙ (store_begins store n (omega (arith, lt, long)) (log_header geometry)).0 (begins_at (log_header geometry) copies n (fresh.heads heads) lt);
    }
