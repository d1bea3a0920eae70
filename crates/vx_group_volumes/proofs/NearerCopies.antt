-- What the copies of a log that were taken hold, before and after they were called, is what its log plexes do.
use Rattle.std.proofs.Common.{◌≡◌, ℕ, zero, suc, ◌+◌, ◌*◌, ◌/◌, ◌<◌, ◌≤◌, true, false, Option, Some, None, List, [], ◌∷◌, length, refl, sym, ap, ◌∙◌, subst, arith}
use Rattle.std.specs.Prelude.{◌&&◌, Contains, is_some, slice_index_or}
use Rattle.std.specs.List.{All, filter}
use Rattle.std.specs.Str.{bytes_eq}
use Rattle.std.proofs.lemmas.Bool.{and_from, and_parts, false≢true}
use Rattle.vx_base.specs.Blocks.{Contents}
use Rattle.vx_base.specs.Named.{Word}
use Rattle.vx_base.proofs.NamedLemmas.{bytes_eq_same, bytes_eq_self}
use Rattle.vx_block.specs.Regions.{region_count}
use Rattle.vx_mapfmt.specs.Bits.{is_headed, marks}
use Rattle.vx_mapfmt.specs.Header.{maps_header}
use Rattle.vx_mapfmt.specs.Sizes.{map_bytes_of, parts_of, plex_bytes_of}
use Rattle.vx_piece.specs.Seen.{Seen}
use Rattle.vx_runs.specs.Run.{run_contents}
use Rattle.vx_pages.specs.Items.{item_at}
use Rattle.vx_pages.specs.Sector.{KeepsPiece}
use Rattle.vx_maps.specs.Going.{CutCopiesGo}
use Rattle.vx_maps.proofs.Claims.{same_at, same_count}
use Rattle.vx_maps.proofs.CopyLaws.{copies_count, copy_goes}
use Rattle.vx_carve.specs.Together.{Holds}
use Rattle.vx_layout.specs.declared.layout.Layout.{Layout}
use Rattle.vx_config_parts.specs.declared.plex.Plex.{Plex}
use Rattle.vx_config_parts.specs.declared.vol.Vol.{Vol}
use Rattle.vx_config_parts.specs.Objects.{is_log_plex_of}
use Rattle.vx_objects.specs.declared.config.Config.{Config}
use Rattle.vx_image.specs.Lies.{columns_of}
use Rattle.vx_image.proofs.PlexMembers.{IsIn, from_map}
use Rattle.vx_image.specs.Image.{LogCopy}
use Rattle.vx_image.specs.Bytes.{Sectors, is_active, is_held, is_log_copy, log_copies, plex_contents, plex_marks}
use Rattle.vx_image.specs.UsedPlexes.{used_logs}
use Rattle.vx_lending.specs.declared.form.VolumeForm.{VolumeForm}
use Rattle.vx_lending.specs.Form.{IsFormOf, IsLayoutOf}
use Rattle.vx_lending.proofs.Distinct.{filtered}
use Rattle.vx_lending.proofs.Places.{columns_lie, log_taken}
use Rattle.vx_lending.specs.Logs.{log_header}
use Rattle.vx_lending.specs.Pieces.{copy_pieces}
use Rattle.vx_lending.specs.Taken.{AreTakenCopies, log_sectors}
use Rattle.vx_volume_laws.specs.Contents.{AreSectorsOf}
use Rattle.vx_volume_laws.specs.Places.{IsSamePlace, LieOn, spot_at}
use Rattle.vx_volume_laws.proofs.Loaded.{copy_in, same_marks}
use Rattle.vx_volume_laws.proofs.OpenedImages.{same_item, some_of}
use Rattle.vx_volume_laws.proofs.Spots.{all_left, all_right, cut_lies, kept_lies, lies_holds, same_lies}
use Rattle.vx_volume_laws.proofs.Stays.{copies_weaker, place_kept}
use Rattle.vx_maps.specs.Narrowing.{IsCounted, is_marked_on}
use Rattle.vx_group_volumes.proofs.Held.{layout_plex}
use Rattle.vx_group_volumes.proofs.Taken.{layout_of}
use Rattle.vx_group_volumes.proofs.Unlogged.{among_used, header_by, some_log, used_active}

-- ---- where they lie

-- there is a copy for each layout, which lies where its first so many blocks do
pub record LieOnLayouts (numbers : List ℕ) (layouts : List Layout) (count : ℕ) (copies : List (List Seen)) : Type 0 where
  pub long : length copies ≡ length layouts
  pub each : (n : ℕ) (d : Layout) → n < length layouts → LieOn numbers (slice_index_or layouts n d).unit (slice_index_or layouts n d).columns 0 count (slice_index_or copies n [])

pub taken_lie : (numbers : List ℕ) (layouts : List Layout) (count : ℕ) (copies : List (List Seen)) → AreTakenCopies numbers layouts count copies → LieOnLayouts numbers layouts count copies
taken_lie numbers layouts count copies taken = record {
  long = taken.long;
  each = λ n d lt. cut_lies numbers (slice_index_or layouts n d).unit (slice_index_or layouts n d).columns 0 count (slice_index_or copies n []) (taken.cut n d lt);
}

module _ (copies later : List (List Seen)) (goes : CutCopiesGo KeepsPiece copies later) where
  -- each sector stays in its place
  spots_stay : (n k : ℕ) → spot_at (slice_index_or later n []) k ≡ spot_at (slice_index_or copies n []) k
  spots_stay n k =
      let places = copy_goes IsSamePlace goes.cut later n (copies_weaker KeepsPiece IsSamePlace (λ p q h. place_kept p q h.kept) goes.cut later goes.goes) in
      ap (λ (x : List Seen). spot_at x k) (sym (same_item [] later n))
      ∙ kept_lies (item_at [] goes.cut n) (item_at [] later n) places k
      ∙ same_lies (item_at [] copies n) (item_at [] goes.cut n) (same_at copies goes.cut n goes.same) k
      ∙ ap (λ (x : List Seen). spot_at x k) (same_item [] copies n)

  pub later_lie : (numbers : List ℕ) (layouts : List Layout) (count : ℕ) → LieOnLayouts numbers layouts count copies → LieOnLayouts numbers layouts count later
  later_lie numbers layouts count lie = record {
    long = copies_count KeepsPiece goes.cut later goes.goes ∙ same_count copies goes.cut goes.same ∙ lie.long;
    each = λ n d lt k low. spots_stay n k ∙ lie.each n d lt k low;
  }

-- ---- what they hold

-- the pieces of one copy
own_copy : (P : Seen → Type 0) (xs : List (List Seen)) (n : ℕ) → All P (copy_pieces xs) → n < length xs → All P (slice_index_or xs n [])
own_copy P [] n all lt = absurd (omega (arith, lt))
own_copy P (x ∷ xs) zero all lt = all_left P x (copy_pieces xs) all
own_copy P (x ∷ xs) (suc n) all lt = own_copy P xs n (all_right P x (copy_pieces xs) all) (omega (arith, lt))

log_fits : (regions : ℕ) → plex_bytes_of 32 (map_bytes_of regions) ≤ 512 * (35 * (map_bytes_of regions / 512))
log_fits regions = by (parts_of 8192 (512 + parts_of 8 regions))
  where
    by : (units : ℕ) → (3 + 32) * (units * 8192) ≤ 512 * (35 * (units * 8192 / 512))
    by units = omega arith

-- a log plex of the volume that counts
pub record IsLog (c : Config) (good : ℕ) (v : Vol) (bytes : Sectors) (q : Plex) : Type 0 where
  pub used : IsIn (used_logs v.dco c good false v.name) q
  pub headed : is_headed v.len v.region (plex_contents c bytes q) ≡ true

module _ (c : Config) (good : ℕ) (v : Vol) (form : VolumeForm) (is : IsFormOf c good v false form) (numbers : List ℕ) (copies : List (List Seen)) (lie : LieOnLayouts numbers form.logs.items (log_sectors form.shape.geometry) copies)
    (contents : ℕ → Contents) (hold : All (Holds contents) (copy_pieces copies)) (bytes : Sectors) (sectors : AreSectorsOf good numbers contents bytes) where
  abbrev header : List ℕ
  header = log_header form.shape.geometry

  abbrev regions : ℕ
  regions = region_count form.shape.geometry.length form.shape.geometry.region

  header_is : header ≡ maps_header v.len v.region 32
  header_is = header_by form.shape.geometry.length form.shape.geometry.region v.len v.region is.shape_is.length_is is.shape_is.region_is

  regions_are : regions ≡ region_count v.len v.region
  regions_are = ap (λ n. region_count n form.shape.geometry.region) is.shape_is.length_is ∙ ap (λ n. region_count v.len n) is.shape_is.region_is

  -- the copy holds what the log plex does
  record IsCopyOf (n : ℕ) (q : Plex) : Type 0 where
    pub inside : n < length copies
    pub used : IsIn (used_logs v.dco c good false v.name) q
    pub same : (i : ℕ) → i < log_sectors form.shape.geometry → run_contents (slice_index_or copies n []) i ≡ plex_contents c bytes q i

  holds_plex : (n : ℕ) → n < length form.logs.items → (d : Layout) (q : Plex) → IsIn (used_logs v.dco c good false v.name) q → IsLayoutOf c q (slice_index_or form.logs.items n d) → IsCopyOf n q
  holds_plex n laid d q used lay =
      let count = log_sectors form.shape.geometry in
      let l = slice_index_or form.logs.items n d in
      let pieces = slice_index_or copies n [] in
      let long = lie.long in
      let inside : n < length copies = omega (arith, long, laid) in
      let on : LieOn numbers q.unit (columns_of c q) 0 count pieces =
      subst (λ u. LieOn numbers u (columns_of c q) 0 count pieces) lay.unit (subst (λ columns. LieOn numbers l.unit columns 0 count pieces) lay.columns (lie.each n d laid)) in
      let held = (log_taken c good v false v.dco q used).0.held in
      record {
        inside = inside;
        used = used;
        same = λ i lt.
            let start : 0 + i ≡ i = omega arith in
            lies_holds good c.disks numbers contents bytes sectors q.unit (columns_of c q) (columns_lie c good q held q.ncol 0) pieces 0 count i on (own_copy (Holds contents) copies n hold inside) (omega (arith, lt)) ∙ ap (λ m. plex_contents c bytes q m) start;
      }

  copy_plex : (n : ℕ) → n < length copies → (q : Plex) × IsCopyOf n q
  copy_plex n inside =
      let long = lie.long in
      let laid : n < length form.logs.items = omega (arith, long, inside) in
      let d = some_of form.logs.items n laid in
      let r = layout_plex c (used_logs v.dco c good false v.name) form.logs.items n d is.logs laid in
      (r.0, holds_plex n laid d r.0 r.1 r.2)

  plex_copy : (q : Plex) → IsIn (used_logs v.dco c good false v.name) q → (n : ℕ) × IsCopyOf n q
  plex_copy q used =
      let r = layout_of c (used_logs v.dco c good false v.name) form.logs.items q is.logs used in
      let d = some_of form.logs.items r.0 r.1 in
      (r.0, holds_plex r.0 r.1 d q used (r.2 d))

  -- what its first sector holds
  first_is : (n : ℕ) (q : Plex) → IsCopyOf n q → run_contents (item_at [] copies n) 0 ≡ plex_contents c bytes q 0
  first_is n q it = ap (λ (x : List Seen). run_contents x 0) (same_item [] copies n) ∙ it.same 0 (some_log regions)

  marks_are : (n : ℕ) (q : Plex) → IsCopyOf n q → (map region : ℕ) → is_marked_on regions copies n map region ≡ plex_marks c bytes v q region map
  marks_are n q it map region =
      ap (λ (x : List Seen). marks regions (run_contents x) map region) (same_item [] copies n)
      ∙ same_marks regions (log_sectors form.shape.geometry) (run_contents (slice_index_or copies n [])) (plex_contents c bytes q) it.same (log_fits regions) map region
      ∙ ap (λ (m : ℕ). marks m (plex_contents c bytes q) map region) regions_are

  -- ---- copies that count

  -- a log plex that counts has a copy that does, and marks what it does
  pub record HasCopy (x : LogCopy) : Type 0 where
    pub copy : ℕ
    pub counted : IsCounted header copies copy
    pub shows : (map region : ℕ) → is_marked_on regions copies copy map region ≡ x region map

  pub copy_of_log : (q : Plex) → IsLog c good v bytes q → HasCopy (plex_marks c bytes v q)
  copy_of_log q log =
      let r = plex_copy q log.used in
      let first = first_is r.0 q r.1 ∙ bytes_eq_same (plex_contents c bytes q 0) (maps_header v.len v.region 32) log.headed ∙ sym header_is in
      record { copy = r.0; counted = record { inside = r.1.inside; headed = first }; shows = marks_are r.0 q r.1 }

  -- and a copy that counts is one of the image's
  pub record IsInImage (n : ℕ) : Type 0 where
    pub copy : LogCopy
    pub there : Contains (log_copies v.dco c good bytes v) copy
    pub shows : (map region : ℕ) → is_marked_on regions copies n map region ≡ copy region map

  pub image_copy : (n : ℕ) → IsCounted header copies n → IsInImage n
  image_copy n counted =
      let r = copy_plex n counted.inside in
      let first : plex_contents c bytes r.0 0 ≡ maps_header v.len v.region 32 = sym (first_is n r.0 r.1) ∙ counted.headed ∙ header_is in
      let headed : is_headed v.len v.region (plex_contents c bytes r.0) ≡ true = subst (λ (x : List ℕ). bytes_eq x (maps_header v.len v.region 32) ≡ true) (sym first) (bytes_eq_self (maps_header v.len v.region 32)) in
      record { copy = plex_marks c bytes v r.0; there = copy_in c good bytes v v.dco r.0 r.1.used headed; shows = marks_are n r.0 r.1 }

  -- ---- those of the image

  plex_of : (dco : Option Word) → is_some dco ≡ true → (x : LogCopy) → IsIn (log_copies dco c good bytes v) x →
      (q : Plex) × IsIn (used_logs dco c good false v.name) q × (is_headed v.len v.region (plex_contents c bytes q) ≡ true) × (x ≡ plex_marks c bytes v q)
  plex_of None some x there = absurd (false≢true some)
  plex_of (Some dco) some x there =
      let r = from_map (plex_marks c bytes v) (filter (is_log_copy c good bytes v) c.plexes) x there in
      let q = r.0 in
      let w = filtered (is_log_copy c good bytes v) c.plexes q r.1 in
      let first = and_parts (is_log_plex_of v.name q) (is_active q.state && (is_held c good q && is_headed v.len v.region (plex_contents c bytes q))) w.1 in
      let second = and_parts (is_active q.state) (is_held c good q && is_headed v.len v.region (plex_contents c bytes q)) first.1 in
      let third = and_parts (is_held c good q) (is_headed v.len v.region (plex_contents c bytes q)) second.1 in
      (q, among_used (Some dco) c good v.name q refl w.0 (and_from _ _ first.0 (and_from _ _ (used_active q.state second.0) third.0)), third.1, r.2)

  pub copy_of_image : is_some v.dco ≡ true → (x : LogCopy) → IsIn (log_copies v.dco c good bytes v) x → HasCopy x
  copy_of_image some x there =
      let r = plex_of v.dco some x there in
      subst (λ (y : LogCopy). HasCopy y) (sym r.3) (copy_of_log r.0 (record { used = r.1; headed = r.2 }))
