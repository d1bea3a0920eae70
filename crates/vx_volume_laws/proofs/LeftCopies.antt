-- The copies of the log that a volume leaves are those of its image.
use Rattle.std.proofs.Common.{◌≡◌, ◌⊎◌, inl, inr, ℕ, zero, suc, ◌+◌, ◌*◌, ◌/◌, ◌<◌, ◌≤◌, Bool, true, false, Option, Some, None, List, [], ◌∷◌, length, refl, sym, ap, ◌∙◌, subst, arith}
use Rattle.std.specs.Prelude.{◌&&◌, slice_index_or, Contains}
use Rattle.std.specs.List.{All, filter}
use Rattle.std.proofs.lemmas.Bool.{and_parts, and_from, false≢true}
use Rattle.vx_base.specs.Blocks.{Contents}
use Rattle.vx_base.specs.Named.{Word}
use Rattle.vx_block.specs.Regions.{region_count}
use Rattle.vx_mapfmt.specs.Bits.{marks, is_headed}
use Rattle.vx_mapfmt.specs.Sizes.{map_bytes_of, parts_of, plex_bytes_of}
use Rattle.vx_piece.specs.Seen.{Seen}
use Rattle.vx_runs.specs.Run.{run_contents}
use Rattle.vx_maps.specs.Creating.{AllTell}
use Rattle.vx_carve.specs.Together.{Holds}
use Rattle.vx_config_parts.specs.declared.plex.Plex.{Plex}
use Rattle.vx_config_parts.specs.declared.state.PlexState.{PlexState}
use Rattle.vx_config_parts.specs.declared.state.PlexState.TheVariants as plex
use Rattle.vx_config_parts.specs.declared.vol.Vol.{Vol}
use Rattle.vx_config_parts.specs.Objects.{is_log_plex_of}
use Rattle.vx_objects.specs.declared.config.Config.{Config}
use Rattle.vx_image.specs.Lies.{columns_of}
use Rattle.vx_image.proofs.PlexMembers.{IsIn, from_map}
use Rattle.vx_image.specs.Image.{LogCopy}
use Rattle.vx_image.specs.Bytes.{Sectors, plex_contents, is_held, is_active, is_log_copy, plex_marks, log_copies}
use Rattle.vx_image.proofs.Members.{is_in, contains}
use Rattle.vx_volume.specs.Opening.{count_of}
use Rattle.vx_lending.specs.declared.form.VolumeForm.{VolumeForm}
use Rattle.vx_image.specs.UsedPlexes.{used_logs, is_used_log, is_used_state}
use Rattle.vx_lending.specs.Form.{AreLayouts, IsFormOf, IsLayoutOf}
use Rattle.vx_lending.proofs.Bits.{kept}
use Rattle.vx_lending.proofs.Distinct.{filtered}
use Rattle.vx_lending.proofs.Places.{columns_lie}
use Rattle.vx_lending.proofs.Zips.{zip_length, zip_at}
use Rattle.vx_lending.specs.Pieces.{copy_pieces}
use Rattle.vx_lending.specs.Taken.{log_sectors}
use Rattle.vx_volume_laws.specs.Contents.{AreSectorsOf}
use Rattle.vx_volume_laws.proofs.Held.{place_in}
use Rattle.vx_volume_laws.proofs.Loaded.{run_tells, same_marks}
use Rattle.vx_volume_laws.proofs.OpenedImages.{some_of}
use Rattle.vx_volume_laws.specs.Places.{LieOn, LieOnLogs}
use Rattle.vx_volume_laws.specs.Keeping.{KeepsVolume, LiesStill}
use Rattle.vx_volume_laws.proofs.Spots.{all_left, all_right, lies_holds}

used_active : (s : PlexState) → is_active s ≡ true → is_used_state false s ≡ true
used_active plex.Empty h = absurd (false≢true h)
used_active plex.Clean h = h
used_active plex.Active h = refl
used_active plex.IoFail h = h
used_active plex.Stale h = h
used_active plex.SnapAtt h = h
used_active plex.SnapDone h = h
used_active plex.DcoSnp h = h

-- the pieces of one copy
own_copy : (P : Seen → Type 0) (xs : List (List Seen)) (n : ℕ) → All P (copy_pieces xs) → n < length xs → All P (slice_index_or xs n [])
own_copy P [] n all lt = absurd (omega (arith, lt))
own_copy P (x ∷ xs) zero all lt = all_left P x (copy_pieces xs) all
own_copy P (x ∷ xs) (suc n) all lt = own_copy P xs n (all_right P x (copy_pieces xs) all) (omega (arith, lt))

-- each piece of each copy tells what it holds
pub copies_tell : (contents : ℕ → Contents) (xs : List (List Seen)) → All (Holds contents) (copy_pieces xs) → AllTell xs
copies_tell contents [] all = tt
copies_tell contents (x ∷ xs) all = (run_tells contents x (all_left (Holds contents) x (copy_pieces xs) all), copies_tell contents xs (all_right (Holds contents) x (copy_pieces xs) all))

log_fits : (regions : ℕ) → plex_bytes_of 32 (map_bytes_of regions) ≤ 512 * (35 * (map_bytes_of regions / 512))
log_fits regions = by (parts_of 8192 (512 + parts_of 8 regions))
  where
    by : (units : ℕ) → (3 + 32) * (units * 8192) ≤ 512 * (35 * (units * 8192 / 512))
    by units = omega arith

module _ (c0 : Config) (good0 : ℕ) (v0 : Vol) (fresh : Bool) (form : VolumeForm) (is : IsFormOf c0 good0 v0 fresh form) (numbers : List ℕ) (copies : List (List Seen)) (on : LieOnLogs numbers form.logs.items (log_sectors form.shape.geometry) copies)
    (contents : ℕ → Contents) (hold : All (Holds contents) (copy_pieces copies)) (c : Config) (good : ℕ) (v : Vol) (keeps : KeepsVolume c0 good0 v0 fresh c good v) (bytes : Sectors) (sectors : AreSectorsOf good numbers contents bytes) where
  -- the copy marks nothing, and the log has none
  pub record MarksNothing (x : LogCopy) : Type 0 where
    pub clear : (r k : ℕ) → x r k ≡ false
    pub none : length copies ≡ 0

  -- the copy marks what one of the log's does
  pub record MarksAsCopy (x : LogCopy) : Type 0 where
    pub copy : ℕ
    pub inside : copy < length copies
    pub marks_are : (r k : ℕ) → x r k ≡ marks (count_of form.shape) (run_contents (slice_index_or copies copy [])) k r

  regions_are : count_of form.shape ≡ region_count v.len v.region
  regions_are =
      ap (λ n. region_count n form.shape.geometry.region) (is.shape_is.length_is ∙ sym keeps.length_is) ∙ ap (λ n. region_count v.len n) (is.shape_is.region_is ∙ sym keeps.region_is)

  -- a copy of the log holds what the log plex does
  pub record HoldsPlex (q : Plex) : Type 0 where
    pub copy : ℕ
    pub inside : copy < length copies
    pub same : (i : ℕ) → i < log_sectors form.shape.geometry → plex_contents c bytes q i ≡ run_contents (slice_index_or copies copy []) i

  by_place : (q p : Plex) → is_held c good q ≡ true → LiesStill c0 c p q → (dco : Option Word) → AreLayouts c0 (used_logs dco c0 good0 fresh v0.name) form.logs.items → IsIn (used_logs dco c0 good0 fresh v0.name) p → HoldsPlex q
  by_place q p held still dco layouts there =
      let used = used_logs dco c0 good0 fresh v0.name in
      let place = place_in used p there in
      let n = place.0 in
      let low = place.1.inside in
      let long = zip_length (IsLayoutOf c0) used form.logs.items layouts in
      let laid : n < length form.logs.items = omega (arith, long, low) in
      let same = on.long in
      let inside : n < length copies = omega (arith, same, laid) in
      let d = some_of form.logs.items n laid in
      let l = slice_index_or form.logs.items n d in
      let lay : IsLayoutOf c0 p l = subst (λ x. IsLayoutOf c0 x l) (place.1.at p) (zip_at (IsLayoutOf c0) used form.logs.items layouts n p d laid) in
      let pieces = slice_index_or copies n [] in
      let count = log_sectors form.shape.geometry in
      let there_on : LieOn numbers q.unit (columns_of c q) 0 count pieces =
      subst (λ u. LieOn numbers u (columns_of c q) 0 count pieces) (lay.unit ∙ sym still.unit) (subst (λ columns. LieOn numbers l.unit columns 0 count pieces) (lay.columns ∙ sym still.columns) (on.each n d laid)) in
      let own : All (Holds contents) pieces = own_copy (Holds contents) copies n hold inside in
      record {
        copy = n;
        inside = inside;
        same = λ i lt.
            let start : 0 + i ≡ i = omega arith in
            sym (ap (λ m. plex_contents c bytes q m) start) ∙ sym (lies_holds good c.disks numbers contents bytes sectors q.unit (columns_of c q) (columns_lie c good q held q.ncol 0) pieces 0 count i there_on own (omega (arith, lt)));
      }

  pub marks_held : (q : Plex) → HoldsPlex q → MarksAsCopy (plex_marks c bytes v q)
  marks_held q it =
      record {
        copy = it.copy;
        inside = it.inside;
        marks_are = λ r k.
            ap (λ m. marks m (plex_contents c bytes q) k r) (sym regions_are)
            ∙ same_marks (count_of form.shape) (log_sectors form.shape.geometry) (plex_contents c bytes q) (run_contents (slice_index_or copies it.copy [])) it.same (log_fits (count_of form.shape)) k r;
      }

  -- a log plex that counts now is held by a copy
  pub used_held : (q : Plex) → IsIn (used_logs v.dco c good false v.name) q → HoldsPlex q
  used_held q among = by v.dco among (keeps.logs q (contains (used_logs v.dco c good false v.name) q among))
    where
      held_of : (dco : Option Word) → IsIn (used_logs dco c good false v.name) q → is_held c good q ≡ true
      held_of None h = absurd h
      held_of (Some d) h =
          let w = filtered (is_used_log c good false v.name) c.plexes q h in
          (and_parts (is_used_state false q.state) (is_held c good q) (and_parts (is_log_plex_of v.name q) (is_used_state false q.state && is_held c good q) w.1).1).1

      by : (dco : Option Word) → IsIn (used_logs dco c good false v.name) q → (p : Plex) × Contains (used_logs v0.dco c0 good0 fresh v0.name) p × LiesStill c0 c p q → HoldsPlex q
      by dco h p = by_place q p.0 (held_of dco h) p.2 v0.dco is.logs (is_in (used_logs v0.dco c0 good0 fresh v0.name) p.0 p.1)

  copy_of_log : (dco dco0 : Option Word) → dco ≡ dco0 → ((q : Plex) → Contains (used_logs dco c good false v.name) q → (p : Plex) × Contains (used_logs dco0 c0 good0 fresh v0.name) p × LiesStill c0 c p q) →
      AreLayouts c0 (used_logs dco0 c0 good0 fresh v0.name) form.logs.items → (x : LogCopy) → IsIn (log_copies dco c good bytes v) x → MarksNothing x ⊎ MarksAsCopy x
  copy_of_log None None e logs layouts x (inl same) =
      let long = zip_length (IsLayoutOf c0) [] form.logs.items layouts in
      let count = on.long in
      inl (record { clear = λ r k. ap (λ (y : LogCopy). y r k) same; none = count ∙ long })
  copy_of_log None None e logs layouts x (inr more) = absurd more
  copy_of_log None (Some d) e logs layouts x there = absurd cc
  copy_of_log (Some d) None e logs layouts x there = absurd cc
  copy_of_log (Some d) (Some d0) e logs layouts x there =
      let r = from_map (plex_marks c bytes v) (filter (is_log_copy c good bytes v) c.plexes) x there in
      let w = filtered (is_log_copy c good bytes v) c.plexes r.0 r.1 in
      let first = and_parts (is_log_plex_of v.name r.0) (is_active r.0.state && (is_held c good r.0 && is_headed v.len v.region (plex_contents c bytes r.0))) w.1 in
      let second = and_parts (is_active r.0.state) (is_held c good r.0 && is_headed v.len v.region (plex_contents c bytes r.0)) first.1 in
      let third = and_parts (is_held c good r.0) (is_headed v.len v.region (plex_contents c bytes r.0)) second.1 in
      let among : IsIn (used_logs (Some d) c good false v.name) r.0 = kept (is_used_log c good false v.name) c.plexes r.0 w.0 (and_from _ _ first.0 (and_from _ _ (used_active r.0.state second.0) third.0)) in
      let p = logs r.0 (contains (used_logs (Some d) c good false v.name) r.0 among) in
      inr (subst (λ (y : LogCopy). MarksAsCopy y) (sym r.2) (marks_held r.0 (by_place r.0 p.0 third.0 p.2 (Some d0) layouts (is_in (used_logs (Some d0) c0 good0 fresh v0.name) p.0 p.1))))

  pub copy_now : (x : LogCopy) → IsIn (log_copies v.dco c good bytes v) x → MarksNothing x ⊎ MarksAsCopy x
  copy_now x there = copy_of_log v.dco v0.dco keeps.dco keeps.logs is.logs x there
