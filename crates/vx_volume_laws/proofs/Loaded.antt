-- What a log that was loaded shows is what a log plex of the image marks.
use Rattle.std.proofs.Common.{◌≡◌, ℕ, ◌+◌, ◌*◌, ◌/◌, ◌<◌, ◌≤◌, Bool, true, false, Option, Some, None, List, [], ◌∷◌, length, map, refl, sym, ap, ◌∙◌, subst, arith}
use Rattle.std.specs.Prelude.{◌&&◌, nat_lt, slice_index_or, Contains}
use Rattle.std.specs.List.{All, filter}
use Rattle.std.specs.Str.{bytes_eq}
use Rattle.std.proofs.Math.Nat.{mul-le-mul_right}
use Rattle.std.proofs.lemmas.Bool.{and_parts, and_from, false≢true, ltb-true}
use Rattle.std.proofs.lemmas.List.Elements.{All-head, All-tail}
use Rattle.vx_base.specs.Blocks.{Contents}
use Rattle.vx_base.specs.Named.{Word}
use Rattle.vx_base.proofs.NamedLemmas.{bytes_eq_self}
use Rattle.vx_block.specs.Regions.{region_count}
use Rattle.vx_mask.specs.Marks.{Marks}
use Rattle.vx_mapfmt.specs.Bits.{bit_in, marks, is_headed}
use Rattle.vx_mapfmt.specs.Header.{maps_header}
use Rattle.vx_mapfmt.specs.Sizes.{parts_of, map_bytes_of, plex_bytes_of, page_count, page_sector}
use Rattle.vx_mapfmt.proofs.SizeLemmas.{slots_before, page_in_slot}
use Rattle.vx_piece.specs.Seen.{Seen}
use Rattle.vx_runs.specs.Part.{Tells}
use Rattle.vx_runs.specs.Run.{RunTells, run_contents}
use Rattle.vx_marks.specs.Log.{LogSeen}
use Rattle.vx_carve.specs.Carved.{AreCut}
use Rattle.vx_carve.specs.Together.{Holds, HoldsTold}
use Rattle.vx_cell.specs.Region.{marks_or}
use Rattle.vx_maps.specs.Creating.{AllTell}
use Rattle.vx_maps.specs.Loading.{IsLoaded, AreClaims, copy_at}
use Rattle.vx_config_parts.specs.declared.plex.Plex.{Plex}
use Rattle.vx_config_parts.specs.declared.state.PlexState.{PlexState}
use Rattle.vx_config_parts.specs.declared.state.PlexState.TheVariants as plex
use Rattle.vx_config_parts.specs.declared.vol.Vol.{Vol}
use Rattle.vx_config_parts.specs.Objects.{is_log_plex_of}
use Rattle.vx_objects.specs.declared.config.Config.{Config}
use Rattle.vx_image.specs.Lies.{columns_of}
use Rattle.vx_image.proofs.PlexMembers.{IsIn, in_map}
use Rattle.vx_image.specs.Image.{LogCopy}
use Rattle.vx_image.specs.Bytes.{Sectors, plex_contents, is_held, is_active, is_log_copy, plex_marks, log_copies, image_of}
use Rattle.vx_image.proofs.Members.{is_in, contains, into_filter}
use Rattle.vx_volume.specs.Log.{absent_log}
use Rattle.vx_volume.specs.Opening.{count_of}
use Rattle.vx_lending.specs.declared.form.VolumeForm.{VolumeForm}
use Rattle.vx_image.specs.UsedPlexes.{used_logs, is_used_log, is_used_state}
use Rattle.vx_lending.specs.Form.{IsFormOf, IsLayoutOf}
use Rattle.vx_lending.proofs.Distinct.{filtered, in_at}
use Rattle.vx_lending.proofs.Places.{columns_lie}
use Rattle.vx_lending.proofs.Zips.{zip_length, zip_at}
use Rattle.vx_volume_laws.specs.Contents.{AreSectorsOf, ShowsCopy}
use Rattle.vx_volume_laws.specs.LoadedLogs.{AreTakenCopies}
use Rattle.vx_volume_laws.proofs.OpenedRuns.{cut_holds}
use Rattle.vx_volume_laws.proofs.OpenedImages.{same_item, some_of}

-- ---- what holds tells

told_tells : (contents : ℕ → Contents) (device start count : ℕ) (told : Option Contents) → HoldsTold contents device start count told → Tells told
told_tells contents device start count None h = absurd h
told_tells contents device start count (Some t) h = tt

pub run_tells : (contents : ℕ → Contents) (ps : List Seen) → All (Holds contents) ps → RunTells ps
run_tells contents [] h = tt
run_tells contents (p ∷ ps) h = (told_tells contents p.device p.start p.sectors p.told (All-head (Holds contents) p ps h), run_tells contents ps (All-tail (Holds contents) p ps h))

pub all_tell : (contents : ℕ → Contents) (copies : List (List Seen)) → All (λ copy. All (Holds contents) copy) copies → AllTell copies
all_tell contents [] h = tt
all_tell contents (x ∷ xs) h = (run_tells contents x (All-head (λ copy. All (Holds contents) copy) x xs h), all_tell contents xs (All-tail (λ copy. All (Holds contents) copy) x xs h))

-- ---- the sectors of the maps

below_end : (a b count : ℕ) → a ≤ b → b ≤ 512 * count → a / 512 ≤ count
below_end a b count le fits = omega (arith, le, fits)

pages_inside : (regions region : ℕ) → region < regions → region / 4096 < page_count regions
pages_inside regions region lt = omega (arith, lt)

page_inside : (regions map region count : ℕ) → region < regions → map < 32 → plex_bytes_of 32 (map_bytes_of regions) ≤ 512 * count → page_sector (map_bytes_of regions) map (region / 4096) < count
page_inside regions map region count lt low fits =
    let size = map_bytes_of regions in
    let units = parts_of 8192 (512 + parts_of 8 regions) in
    let before : (3 + map) * (size / 512) ≡ (3 + map) * size / 512 = slots_before (3 + map) size units refl in
    let slot : (3 + map) * (size / 512) + 1 + region / 4096 < (3 + (map + 1)) * size / 512 = page_in_slot regions size map (region / 4096) units refl refl (pages_inside regions region lt) in
    let more : (3 + (map + 1)) * size ≤ (3 + 32) * size = mul-le-mul_right size (omega (arith, low)) in
    let end : (3 + (map + 1)) * size / 512 ≤ count = below_end ((3 + (map + 1)) * size) ((3 + 32) * size) count more fits in
    omega (arith, before, slot, end)

some_sectors : (regions count : ℕ) → plex_bytes_of 32 (map_bytes_of regions) ≤ 512 * count → 0 < count
some_sectors regions count fits = omega (arith, fits)

-- marks are those of what holds the same in the sectors of the maps
pub same_marks : (regions count : ℕ) (x y : Contents) → ((i : ℕ) → i < count → x i ≡ y i) → plex_bytes_of 32 (map_bytes_of regions) ≤ 512 * count → (map region : ℕ) → marks regions x map region ≡ marks regions y map region
same_marks regions count x y same fits map region = by (nat_lt region regions) (nat_lt map 32) refl refl
  where
    by : (a b : Bool) → nat_lt region regions ≡ a → nat_lt map 32 ≡ b → ((a && b) && bit_in (x (page_sector (map_bytes_of regions) map (region / 4096))) region) ≡ ((a && b) && bit_in (y (page_sector (map_bytes_of regions) map (region / 4096))) region)
    by true true e f = ap (λ (page : List ℕ). bit_in page region) (same (page_sector (map_bytes_of regions) map (region / 4096)) (page_inside regions map region count (ltb-true region regions e) (ltb-true map 32 f) fits))
    by true false e f = refl
    by false b e f = refl

-- ---- the copy

active_in : (s : PlexState) → is_used_state false s ≡ true → is_active s ≡ true
active_in plex.Empty h = absurd (false≢true h)
active_in plex.Clean h = h
active_in plex.Active h = refl
active_in plex.IoFail h = h
active_in plex.Stale h = h
active_in plex.SnapAtt h = h
active_in plex.SnapDone h = h
active_in plex.DcoSnp h = h

pub copy_in : (c : Config) (good : ℕ) (bytes : Sectors) (v : Vol) (dco : Option Word) (q : Plex) → IsIn (used_logs dco c good false v.name) q → is_headed v.len v.region (plex_contents c bytes q) ≡ true → Contains (log_copies dco c good bytes v) (plex_marks c bytes v q)
copy_in c good bytes v None q h headed = absurd h
copy_in c good bytes v (Some dco) q h headed =
    let w = filtered (is_used_log c good false v.name) c.plexes q h in
    let first = and_parts (is_log_plex_of v.name q) (is_used_state false q.state && is_held c good q) w.1 in
    let second = and_parts (is_used_state false q.state) (is_held c good q) first.1 in
    let passes = and_from _ _ first.0 (and_from _ _ (active_in q.state second.0) (and_from _ _ second.1 headed)) in
    contains (map (plex_marks c bytes v) (filter (is_log_copy c good bytes v) c.plexes)) (plex_marks c bytes v q)
    (in_map (plex_marks c bytes v) (filter (is_log_copy c good bytes v) c.plexes) q (is_in (filter (is_log_copy c good bytes v) c.plexes) q (into_filter (is_log_copy c good bytes v) c.plexes q (contains c.plexes q w.0) passes)))

held_in : (c : Config) (good : ℕ) (fresh : Bool) (v : Vol) (dco : Option Word) (q : Plex) → IsIn (used_logs dco c good fresh v.name) q → is_held c good q ≡ true
held_in c good fresh v None q h = absurd h
held_in c good fresh v (Some dco) q h =
    let w = filtered (is_used_log c good fresh v.name) c.plexes q h in
    (and_parts (is_used_state fresh q.state) (is_held c good q) (and_parts (is_log_plex_of v.name q) (is_used_state fresh q.state && is_held c good q) w.1).1).1

-- what is told of the marks
told_marks : (copies : ℕ) (claims : ℕ → ℕ → Bool) (told : Option (ℕ → Marks)) → AreClaims copies claims told → (r : ℕ) →
    ((n k : ℕ) → n < copies → (marks_or told r).shows n k ≡ claims r k) × ((k : ℕ) → (marks_or told r).loose k ≡ false)
told_marks copies claims None h r = absurd h
told_marks copies claims (Some marks) h r = h r

shows_by_volume : (c : Config) (good : ℕ) (bytes : Sectors) (v : Vol) (form : VolumeForm) → IsFormOf c good v false form →
    (numbers : List ℕ) (contents : ℕ → Contents) → AreSectorsOf good numbers contents bytes →
    (count : ℕ) (copies : List (List Seen)) → plex_bytes_of 32 (map_bytes_of (region_count v.len v.region)) ≤ 512 * count → AreTakenCopies numbers form.logs.items count copies → All (λ copy. All (Holds contents) copy) copies →
    (counts : ℕ → ℕ → ℕ) (new : List (List Seen)) (log : LogSeen) → IsLoaded (maps_header v.len v.region 32) (region_count v.len v.region) copies counts new log →
    (copy : LogCopy) × Contains (image_of c good bytes v).copies copy × ShowsCopy log copy (region_count v.len v.region)
shows_by_volume c good bytes v form is numbers contents sectors count copies fits taken hold counts new log loaded =
    let n = loaded.taken.copy in
    let inside = loaded.taken.inside in
    let same = taken.long in
    let laid : n < length form.logs.items = omega (arith, inside, same) in
    let used = used_logs v.dco c good false v.name in
    let long = zip_length (IsLayoutOf c) used form.logs.items is.logs in
    let there : n < length used = omega (arith, laid, long) in
    let q = slice_index_or used n (some_of used n there) in
    let q_in : IsIn used q = in_at used n (some_of used n there) there in
    let d = some_of form.logs.items n laid in
    let l = slice_index_or form.logs.items n d in
    let lay : IsLayoutOf c q l = zip_at (IsLayoutOf c) used form.logs.items is.logs n (some_of used n there) d laid in
    let pieces = slice_index_or copies n [] in
    let at : copy_at copies n ≡ pieces = same_item [] copies n in
    let cut : AreCut numbers q.unit (columns_of c q) 0 count pieces =
    subst (λ u. AreCut numbers u (columns_of c q) 0 count pieces) lay.unit (subst (λ columns. AreCut numbers l.unit columns 0 count pieces) lay.columns (taken.cut n d laid)) in
    let own : All (Holds contents) pieces = hold n [] inside in
    let held = held_in c good false v v.dco q q_in in
    let same_contents = λ (i : ℕ) (lt : i < count).
    let start : 0 + i ≡ i = omega arith in
    cut_holds good c.disks numbers contents bytes sectors q.unit (columns_of c q) (columns_lie c good q held q.ncol 0) pieces 0 count i cut own (omega (arith, lt)) ∙ ap (λ m. plex_contents c bytes q m) start in
    let tells : RunTells (copy_at copies n) = subst RunTells (sym at) (run_tells contents pieces own) in
    let head : run_contents pieces 0 ≡ maps_header v.len v.region 32 = ap (λ ps. run_contents ps 0) (sym at) ∙ loaded.taken.headed tells in
    let first : plex_contents c bytes q 0 ≡ maps_header v.len v.region 32 = sym (same_contents 0 (some_sectors (region_count v.len v.region) count fits)) ∙ head in
    let headed : is_headed v.len v.region (plex_contents c bytes q) ≡ true = subst (λ (x : List ℕ). bytes_eq x (maps_header v.len v.region 32) ≡ true) (sym first) (bytes_eq_self (maps_header v.len v.region 32)) in
    let claims = λ (r k : ℕ). loaded.claims tells r k ∙ ap (λ ps. marks (region_count v.len v.region) (run_contents ps) k r) at ∙ same_marks (region_count v.len v.region) count (run_contents pieces) (plex_contents c bytes q) same_contents fits k r in
    let told = told_marks log.copies log.claims log.told (loaded.told (all_tell contents copies hold)) in (
      plex_marks c bytes v q,
      copy_in c good bytes v v.dco q q_in headed,
      record {
        claims = λ r k lt. claims r k;
        shows = λ r m k lt few. (told r).0 m k few ∙ claims r k;
        tight = λ r k lt. (told r).1 k;
      },
    )

-- the same by the form, which has the blocks and regions of the volume
pub loaded_shows : (c : Config) (good : ℕ) (bytes : Sectors) (v : Vol) (form : VolumeForm) → IsFormOf c good v false form →
    (numbers : List ℕ) (contents : ℕ → Contents) → AreSectorsOf good numbers contents bytes →
    (count : ℕ) (copies : List (List Seen)) → plex_bytes_of 32 (map_bytes_of (count_of form.shape)) ≤ 512 * count → AreTakenCopies numbers form.logs.items count copies → All (λ copy. All (Holds contents) copy) copies →
    (counts : ℕ → ℕ → ℕ) (new : List (List Seen)) (log : LogSeen) → IsLoaded (maps_header form.shape.geometry.length form.shape.geometry.region 32) (count_of form.shape) copies counts new log →
    (copy : LogCopy) × Contains (image_of c good bytes v).copies copy × ShowsCopy log copy (count_of form.shape)
loaded_shows c good bytes v form is numbers contents sectors count copies fits taken hold counts new log loaded =
    shows_from form.shape.geometry.length form.shape.geometry.region is.shape_is.length_is is.shape_is.region_is fits loaded
  where
    ShowsBy : ℕ → ℕ → Type 0
    ShowsBy length region =
        plex_bytes_of 32 (map_bytes_of (region_count length region)) ≤ 512 * count → IsLoaded (maps_header length region 32) (region_count length region) copies counts new log →
        (copy : LogCopy) × Contains (image_of c good bytes v).copies copy × ShowsCopy log copy (region_count length region)

    shows_from : (length region : ℕ) → length ≡ v.len → region ≡ v.region → ShowsBy length region
    shows_from length region e f =
        subst (λ n. ShowsBy n region) (sym e) (subst (λ m. ShowsBy v.len m) (sym f) (λ fits loaded. shows_by_volume c good bytes v form is numbers contents sectors count copies fits taken hold counts new log loaded))

-- ---- no log

none_copies : (c : Config) (good : ℕ) (bytes : Sectors) (v : Vol) (dco : Option Word) → dco ≡ None → Contains (log_copies dco c good bytes v) (λ r k. false)
none_copies c good bytes v None e = (0, omega arith, refl)
none_copies c good bytes v (Some dco) e = absurd cc

pub absent_shows : (c : Config) (good : ℕ) (bytes : Sectors) (v : Vol) → v.dco ≡ None → (regions : ℕ) → (copy : LogCopy) × Contains (image_of c good bytes v).copies copy × ShowsCopy absent_log copy regions
absent_shows c good bytes v e regions = ((λ r k. false), none_copies c good bytes v v.dco e, record { claims = λ r k lt. refl; shows = λ r n k lt few. refl; tight = λ r k lt. refl })
