-- The data plexes that a volume leaves are those of its image.
use Rattle.std.proofs.Common.{◌≡◌, inl, inr, ℕ, zero, suc, ◌+◌, ◌-◌, ◌*◌, ◌/◌, ◌<◌, min, Bool, true, false, cond, not, List, [], ◌∷◌, length, map, refl, sym, ap, ◌∙◌, subst, arith}
use Rattle.std.specs.Prelude.{◌&&◌, slice_index_or}
use Rattle.std.specs.List.{All, AllZip}
use Rattle.std.proofs.lemmas.Bool.{and_from, false≢true, lt-ltb, eq-eqb}
use Rattle.std.proofs.lemmas.List.{length-map}
use Rattle.vx_base.specs.Blocks.{Contents, is_in as block_in}
use Rattle.vx_block.specs.Regions.{region_count}
use Rattle.vx_mask.specs.Mask.{has}
use Rattle.vx_piece.specs.Seen.{Seen}
use Rattle.vx_carve.specs.Carved.{AreCut}
use Rattle.vx_carve.specs.Together.{Holds}
use Rattle.vx_cell.specs.Changes.{CellSeen}
use Rattle.vx_cell.specs.Plexes.{PlexSeen, holds, contents_of, blocks_of}
use Rattle.vx_config_parts.specs.declared.plex.Plex.{Plex}
use Rattle.vx_config_parts.specs.declared.vol.Vol.{Vol}
use Rattle.vx_config_parts.specs.Objects.{is_data_plex_of}
use Rattle.vx_objects.specs.declared.config.Config.{Config}
use Rattle.vx_image.specs.Lies.{columns_of}
use Rattle.vx_image.proofs.PlexMembers.{IsIn}
use Rattle.vx_image.specs.Image.{is_available_state}
use Rattle.vx_image.specs.Bytes.{Sectors, plex_contents, is_held, map_or_zero, relation_maps}
use Rattle.vx_pages.specs.Items.{item_at}
use Rattle.vx_volume.specs.Volume.{VolumeSeen, IsVolume, cell_at, no_cell}
use Rattle.vx_lending.specs.RegionPieces.{all_pieces, own_pieces}
use Rattle.vx_lending.specs.RegionsTaken.{own_map, is_among, IsTakenRegion}
use Rattle.vx_lending.specs.declared.form.VolumeForm.{VolumeForm}
use Rattle.vx_image.specs.UsedPlexes.{IsVolOf, is_on, held_plexes, maps_of}
use Rattle.vx_lending.specs.Form.{IsFormOf, IsLayoutOf}
use Rattle.vx_lending.proofs.Bits.{kept, into_held, into_off, on_plex}
use Rattle.vx_lending.proofs.Distinct.{filtered}
use Rattle.vx_lending.proofs.Maps.{in_among}
use Rattle.vx_lending.proofs.Places.{columns_lie}
use Rattle.vx_lending.proofs.Zips.{zip_length, zip_at}
use Rattle.vx_lending.specs.Left.{region_plexes}
use Rattle.vx_lending.specs.Pieces.{copy_pieces}
use Rattle.vx_volume_laws.specs.Contents.{AreSectorsOf}
use Rattle.vx_volume_laws.proofs.Held.{contents_at, own_hold, IsPlaceOf, place_in, at_map}
use Rattle.vx_volume_laws.proofs.OpenedImages.{some_of}
use Rattle.vx_volume_laws.proofs.Ranges.{in_range, same_blocks}
use Rattle.vx_volume_laws.proofs.OpenedRuns.{cut_holds}
use Rattle.vx_volume_laws.specs.Keeping.{KeepsPlex, KeepsVolume, data_plexes}
use Rattle.vx_volume_laws.specs.Lying.{LiesAs, pieces_in}
use Rattle.vx_volume_laws.proofs.Spots.{all_left}

-- ---- lists

-- what goes with a member of the second list
pub zip_right : {A B : Type 0} (R : A → B → Type 0) (xs : List A) (ys : List B) → AllZip R xs ys → (y : B) → IsIn ys y → (x : A) × IsIn xs x × R x y
zip_right R [] [] h y there = absurd there
zip_right R [] (z ∷ ys) h y there = absurd h
zip_right R (x ∷ xs) [] h y there = absurd h
zip_right R (x ∷ xs) (z ∷ ys) h y (inl same) = (x, inl refl, subst (λ w. R x w) (sym same) h.0)
zip_right R (x ∷ xs) (z ∷ ys) h y (inr there) = let r = zip_right R xs ys h.1 y there in (r.0, inr r.1, r.2)

-- .. and of the first
pub zip_left : {A B : Type 0} (R : A → B → Type 0) (xs : List A) (ys : List B) → AllZip R xs ys → (x : A) → IsIn xs x → (y : B) × IsIn ys y × R x y
zip_left R [] [] h x there = absurd there
zip_left R [] (z ∷ ys) h x there = absurd h
zip_left R (w ∷ xs) [] h x there = absurd h
zip_left R (w ∷ xs) (z ∷ ys) h x (inl same) = (z, inl refl, subst (λ u. R u z) (sym same) h.0)
zip_left R (w ∷ xs) (z ∷ ys) h x (inr there) = let r = zip_left R xs ys h.1 x there in (r.0, inr r.1, r.2)

pub plexes_at : (cells : List CellSeen) (r : ℕ) → slice_index_or (region_plexes cells) r [] ≡ (item_at no_cell cells r).plexes
plexes_at [] r = refl
plexes_at (x ∷ cells) zero = refl
plexes_at (x ∷ cells) (suc r) = plexes_at cells r

-- ---- the plexes as they were

module _ (c0 : Config) (good0 : ℕ) (v0 : Vol) (fresh : Bool) (form : VolumeForm) (of : IsVolOf c0 v0) (is : IsFormOf c0 good0 v0 fresh form) (numbers : List ℕ) (volume : VolumeSeen) (copies : List (List Seen)) (whole : IsVolume volume) (lies : LiesAs numbers form volume copies)
    (c : Config) (good : ℕ) (v : Vol) (keeps : KeepsVolume c0 good0 v0 fresh c good v) where
  -- a data plex now, and as the volume was opened
  pub record HasBeen (q : Plex) : Type 0 where
    pub was : Plex
    pub there : IsIn c0.plexes was
    pub own : is_data_plex_of v0.name was ≡ true
    pub kept_is : KeepsPlex c0 good0 c good was q

  pub has_been : (q : Plex) → IsIn c.plexes q → is_data_plex_of v.name q ≡ true → HasBeen q
  has_been q there own =
      let r = zip_right (KeepsPlex c0 good0 c good) (data_plexes c0 v0.name) (data_plexes c v.name) keeps.plexes q (kept (is_data_plex_of v.name) c.plexes q there own) in
      let w = filtered (is_data_plex_of v0.name) c0.plexes r.0 r.1 in
      record { was = r.0; there = w.0; own = w.1; kept_is = r.2 }

  -- the plex of a map that is on
  pub record IsNow (k : ℕ) : Type 0 where
    pub plex : Plex
    pub there : IsIn c.plexes plex
    pub own : is_data_plex_of v.name plex ≡ true
    pub map_is : map_or_zero plex.map ≡ k

  pub on_now : (k : ℕ) → has form.shape.on k ≡ true → IsNow k
  on_now k on =
      let p = on_plex c0 good0 v0 of form.shape is.shape_is k on in
      let r = zip_left (KeepsPlex c0 good0 c good) (data_plexes c0 v0.name) (data_plexes c v.name) keeps.plexes p.plex (kept (is_data_plex_of v0.name) c0.plexes p.plex p.there p.own) in
      let w = filtered (is_data_plex_of v.name) c.plexes r.0 r.1 in
      record { plex = r.0; there = w.0; own = w.1; map_is = r.2.map ∙ p.map_is }

  -- a stale plex is off
  pub off_now : (q : Plex) → HasBeen q → not (is_available_state q.state) ≡ true → has form.shape.off (map_or_zero q.map) ≡ true
  off_now q been stale =
      let k = been.kept_is in
      let off : is_on c0 good0 been.was ≡ false = by (is_held c0 good0 been.was) (is_available_state been.was.state) (subst (λ (b : Bool). not b ≡ true) k.available stale) in
      subst (λ (m : ℕ). has form.shape.off m ≡ true) (sym k.map) (is.shape_is.off.each (map_or_zero been.was.map) ∙ into_off c0 good0 v0 been.was been.there been.own off)
    where
      by : (a b : Bool) → not b ≡ true → (a && b) ≡ false
      by true true h = absurd (false≢true h)
      by true false h = refl
      by false b h = refl

  -- a relation is one of the regions
  pub snap_now : (m : ℕ) → IsIn (relation_maps c.snaps v.name) m → has form.shape.snaps m ≡ true
  snap_now m there = is.shape_is.snaps.each m ∙ in_among m (relation_maps c0.snaps v0.name) (subst (λ (ms : List ℕ). IsIn ms m) keeps.relations there)

  -- ---- a region

  module _ (r : ℕ) (lt : r < length volume.cells) where
    abbrev plexes : List PlexSeen
    plexes = slice_index_or (region_plexes volume.cells) r []

    inside : r < length (region_plexes volume.cells)
    inside = let n = length-map volume.cells (λ (cell : CellSeen). cell.plexes) in omega (arith, n, lt)

    taken : IsTakenRegion numbers form.maps.items form.layouts.items (r * volume.region) (min volume.region (volume.length - r * volume.region)) plexes
    taken =
        subst (λ (n : ℕ). IsTakenRegion numbers form.maps.items form.layouts.items (r * n) (min n (volume.length - r * n)) plexes) (sym lies.region_is)
        (subst (λ (n : ℕ). IsTakenRegion numbers form.maps.items form.layouts.items (r * form.shape.geometry.region) (min form.shape.geometry.region (n - r * form.shape.geometry.region)) plexes) (sym lies.length_is) (lies.regions r inside))

    pub held_now : (q : Plex) → HasBeen q → is_held c good q ≡ true → holds (cell_at volume r).plexes (map_or_zero q.map) ≡ true
    held_now q been held =
        let k = been.kept_is in
        let among = into_held c0 good0 v0 been.was been.there been.own (k.held held) in
        ap (λ (ps : List PlexSeen). holds ps (map_or_zero q.map)) (sym (plexes_at volume.cells r))
        ∙ taken.held (map_or_zero q.map) ∙ ap (λ (ms : List ℕ). is_among (map_or_zero q.map) ms) is.maps ∙ ap (λ (m : ℕ). is_among m (maps_of (held_plexes c0 good0 v0.name))) k.map ∙ among

    module _ (contents : ℕ → Contents) (hold : All (Holds contents) (pieces_in volume copies)) (bytes : Sectors) (sectors : AreSectorsOf good numbers contents bytes) where
      contents_now : (q : Plex) (been : HasBeen q) → is_held c good q ≡ true → (j : ℕ) → IsPlaceOf (held_plexes c0 good0 v0.name) been.was j → (i : ℕ) → i < min volume.region (volume.length - r * volume.region) →
          contents_of plexes (map_or_zero q.map) i ≡ plex_contents c bytes q (r * volume.region + i)
      contents_now q been held j place i low =
          let p = been.was in
          let k = been.kept_is in
          let start = r * volume.region in
          let size = min volume.region (volume.length - r * volume.region) in
          let maps : map own_map plexes ≡ maps_of (held_plexes c0 good0 v0.name) = taken.maps_are ∙ is.maps in
          let own = length-map plexes own_map in
          let all = length-map (held_plexes c0 good0 v0.name) (λ (x : Plex). map_or_zero x.map) in
          let many = ap length maps in
          let there = place.inside in
          let short : j < length plexes = omega (arith, own, all, many, there) in
          let long = zip_length (IsLayoutOf c0) (held_plexes c0 good0 v0.name) form.layouts.items is.layouts in
          let laid : j < length form.layouts.items = omega (arith, long, there) in
          let d = some_of form.layouts.items j laid in
          let l = slice_index_or form.layouts.items j d in
          let lay : IsLayoutOf c0 p l = subst (λ x. IsLayoutOf c0 x l) (place.at p) (zip_at (IsLayoutOf c0) (held_plexes c0 good0 v0.name) form.layouts.items is.layouts j p d laid) in
          let pieces = slice_index_or (map own_pieces plexes) j [] in
          let cut : AreCut numbers q.unit (columns_of c q) start (start + size) pieces =
          subst (λ u. AreCut numbers u (columns_of c q) start (start + size) pieces) (lay.unit ∙ sym k.lies.unit)
          (subst (λ columns. AreCut numbers l.unit columns start (start + size) pieces) (lay.columns ∙ sym k.lies.columns) (taken.cut j d laid)) in
          let own_is : slice_index_or (map own_map plexes) j 0 ≡ map_or_zero q.map = ap (λ xs. slice_index_or xs j 0) maps ∙ at_map (λ (x : Plex). map_or_zero x.map) (held_plexes c0 good0 v0.name) p j 0 place ∙ sym k.map in
          ap (λ m. contents_of plexes m i) (sym own_is) ∙ contents_at plexes j i taken.differ short
          ∙ cut_holds good c.disks numbers contents bytes sectors q.unit (columns_of c q) (columns_lie c good q held q.ncol 0) pieces start (start + size) i cut
          (own_hold (Holds contents) (region_plexes volume.cells) r j (all_left (Holds contents) (all_pieces (region_plexes volume.cells)) (copy_pieces copies) hold) inside short) (omega (arith, low))

      -- the region has each of its blocks as the plex has it
      pub block_now : (q : Plex) → HasBeen q → is_held c good q ≡ true → (b : ℕ) → 0 < volume.region → b < volume.length → b / volume.region ≡ r →
          plex_contents c bytes q b ≡ blocks_of (cell_at volume r).start (cell_at volume r).size (cell_at volume r).plexes (map_or_zero q.map) b
      block_now q been held b sized low here =
          let cell = whole.each r lt in
          let start = r * volume.region in
          let size = min volume.region (volume.length - r * volume.region) in
          let count = whole.count in
          let among = kept (λ p. is_data_plex_of v0.name p && is_held c0 good0 p) c0.plexes been.was been.there (and_from _ _ been.own (been.kept_is.held held)) in
          let place = place_in (held_plexes c0 good0 v0.name) been.was among in
          let below : r < region_count volume.length volume.region = omega (arith, count, lt) in
          let test : block_in start size b ≡ true =
          same_blocks volume.length volume.region r b sized below
          ∙ and_from _ _ (lt-ltb r (region_count volume.length volume.region) below) (and_from _ _ (lt-ltb b volume.length low) (eq-eqb (b / volume.region) r here)) in
          let range = in_range start size b test in
          let first = range.0 in
          let last = range.1 in
          let at : start + (b - start) ≡ b = omega (arith, first) in
          let value : contents_of plexes (map_or_zero q.map) (b - start) ≡ plex_contents c bytes q b = contents_now q been held place.0 place.1 (b - start) (omega (arith, first, last)) ∙ ap (λ n. plex_contents c bytes q n) at in
          sym (
          ap (λ n. blocks_of n (cell_at volume r).size (cell_at volume r).plexes (map_or_zero q.map) b) cell.start
          ∙ ap (λ n. blocks_of start n (cell_at volume r).plexes (map_or_zero q.map) b) cell.size
          ∙ ap (λ ps. blocks_of start size ps (map_or_zero q.map) b) (sym (plexes_at volume.cells r))
          ∙ ap (λ (t : Bool). cond t (contents_of plexes (map_or_zero q.map) (b - start)) []) test
          ∙ value
          )
