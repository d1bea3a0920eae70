-- A region of an opened volume is opened as the image of the volume.
use Rattle.std.proofs.Common.{◌≡◌, inl, ℕ, zero, suc, ◌+◌, ◌-◌, ◌*◌, ◌/◌, ◌<◌, min, Bool, true, false, cond, List, [], ◌∷◌, length, map, refl, sym, ap, ◌∙◌, subst, arith}
use Rattle.std.specs.Prelude.{◌&&◌, ◌==◌, nat_lt, slice_index_or, Contains}
use Rattle.std.specs.List.{filter}
use Rattle.std.proofs.lemmas.Bool.{and_parts, and_from, false≢true, false_from_ne_true}
use Rattle.std.proofs.lemmas.List.{length-map}
use Rattle.vx_base.specs.Blocks.{Contents, is_in as block_in}
use Rattle.vx_block.specs.Geometry.{is_region_size}
use Rattle.vx_block.specs.Regions.{region_count}
use Rattle.vx_mask.specs.Mask.{has}
use Rattle.vx_life.specs.Candidates.{Candidates, Values, IsAmong}
use Rattle.vx_life.specs.Candidates.Values.{OneOf}
use Rattle.vx_marks.specs.Log.{LogSeen, AreClaimed}
use Rattle.vx_core.specs.History.{NoCall}
use Rattle.vx_core.specs.Region.{Fixed}
use Rattle.vx_core.specs.Soundness.{IsDataIn}
use Rattle.vx_core.specs.declared.stage.Phase.TheVariants.{Settled, Unsettled}
use Rattle.vx_core.proofs.ScheduleLaws.{kept_from_fresh}
use Rattle.vx_carve.specs.Carved.{AreCut}
use Rattle.vx_carve.specs.Together.{Holds}
use Rattle.vx_cell.specs.Changes.{CellSeen}
use Rattle.vx_cell.specs.Plexes.{PlexSeen, holds, contents_of, blocks_of}
use Rattle.vx_cell.specs.Region.{RegionSeen, IsWhole, StandsFor, state_of}
use Rattle.vx_config_parts.specs.declared.plex.Plex.{Plex}
use Rattle.vx_config_parts.specs.declared.vol.Vol.{Vol}
use Rattle.vx_config_parts.specs.Objects.{is_data_plex_of}
use Rattle.vx_objects.specs.declared.config.Config.{Config}
use Rattle.vx_image.specs.Lies.{columns_of}
use Rattle.vx_image.proofs.PlexMembers.{IsIn, from_map}
use Rattle.vx_image.specs.Image.{PlexImage, LogCopy, Image, IsFilled, is_available}
use Rattle.vx_image.specs.Bytes.{Sectors, plex_contents, plex_image, is_held, map_or_zero, relation_maps, image_of}
use Rattle.vx_image.specs.Meaning.{StandsForCandidates}
use Rattle.vx_image.specs.Soundness.{IsSoundImage}
use Rattle.vx_image.proofs.Members.{is_in, contains}
use Rattle.vx_pages.specs.Items.{item_at}
use Rattle.vx_volume.specs.declared.volume.VolumeShape.{VolumeShape}
use Rattle.vx_volume.specs.Opening.{count_of, size_of, stage_of}
use Rattle.vx_volume.specs.Volume.{VolumeSeen, cell_at, region_at, with_log}
use Rattle.vx_lending.specs.RegionPieces.{own_pieces}
use Rattle.vx_lending.specs.RegionsTaken.{own_map, is_among, IsTakenRegion}
use Rattle.vx_volume_laws.specs.Opening.{HaveOwnMaps, IsOpened, IsWellFormed, is_block_of, region_blocks}
use Rattle.vx_volume_laws.proofs.Openings.{each_opening_is_fresh}
use Rattle.vx_lending.specs.declared.form.VolumeForm.{VolumeForm}
use Rattle.vx_image.specs.UsedPlexes.{IsVolOf, is_on, held_plexes, maps_of}
use Rattle.vx_lending.specs.Form.{IsFormOf, IsLayoutOf}
use Rattle.vx_lending.proofs.Distinct.{AreDistinct, distinct_by, distinct_filter, filtered}
use Rattle.vx_lending.proofs.Rules.{plex_names, vol_geometry}
use Rattle.vx_lending.proofs.Maps.{among_in, plex_among, one_of_map}
use Rattle.vx_lending.proofs.Bits.{kept, into_on, on_plex, on_off, held_on}
use Rattle.vx_lending.proofs.Places.{columns_lie}
use Rattle.vx_lending.proofs.Zips.{zip_length, zip_at}
use Rattle.vx_volume_laws.specs.Contents.{AreSectorsOf, HoldRegions, ShowsCopy}
use Rattle.vx_volume_laws.specs.Opened.{IsFixedOf, IsOpenedBy}
use Rattle.vx_volume_laws.proofs.Ranges.{in_range, same_blocks}
use Rattle.vx_volume_laws.proofs.OpenedRuns.{cut_holds}
use Rattle.vx_volume_laws.proofs.Held.{contents_at, own_hold, of_image, in_image, IsPlaceOf, place_in, at_map}

-- ---- the image is well formed

some_size : (n : ℕ) → is_region_size n ≡ true → 0 < n
some_size zero h = absurd (false≢true h)
some_size (suc n) h = omega arith

some_blocks : (c : Config) (v : Vol) → IsVolOf c v → 0 < v.region
some_blocks c v of =
    let first = and_parts (is_region_size v.region && nat_lt 0 v.len) _ (vol_geometry c v of) in
    some_size v.region (and_parts (is_region_size v.region) (nat_lt 0 v.len) first.0).0

own_maps : (c : Config) (good : ℕ) (bytes : Sectors) (ps : List Plex) → AreDistinct (λ (p : Plex). map_or_zero p.map) ps → HaveOwnMaps (map (plex_image c good bytes) ps)
own_maps c good bytes [] h = tt
own_maps c good bytes (p ∷ ps) h = (
  λ q one same.
      let r = from_map (plex_image c good bytes) ps q (is_in (map (plex_image c good bytes) ps) q one) in
      h.0 r.0 r.1 (same ∙ ap (λ (x : PlexImage). x.map) r.2),
  own_maps c good bytes ps h.1,
)

pub well_formed : (c : Config) (good : ℕ) (bytes : Sectors) (v : Vol) → IsVolOf c v → IsWellFormed (image_of c good bytes v)
well_formed c good bytes v of =
    record {
      region = some_blocks c v of;
      maps = own_maps c good bytes (filter (is_data_plex_of v.name) c.plexes)
          (distinct_by (λ (p : Plex). p.name) (λ (p : Plex). map_or_zero p.map) (filter (is_data_plex_of v.name) c.plexes) (distinct_filter (λ (p : Plex). p.name) (is_data_plex_of v.name) c.plexes (plex_names c))
          (λ p q here there same.
          let a = filtered (is_data_plex_of v.name) c.plexes p here in
          let b = filtered (is_data_plex_of v.name) c.plexes q there in
          one_of_map c v of p q a.0 b.0 a.1 b.1 same));
    }

-- ---- a region

pub same_item : {A : Type 0} (none : A) (xs : List A) (i : ℕ) → item_at none xs i ≡ slice_index_or xs i none
same_item none [] i = refl
same_item none (x ∷ xs) zero = refl
same_item none (x ∷ xs) (suc i) = same_item none xs i

pub some_of : {A : Type 0} (xs : List A) (j : ℕ) → j < length xs → A
some_of [] j lt = absurd (omega (arith, lt))
some_of (x ∷ xs) j lt = x

both : {A : Type 0} (a b : Bool) (x y z : A) → a ≡ b → (a ≡ true → x ≡ y) → cond a x z ≡ cond b y z
both true true x y z e same = same refl
both true false x y z e same = absurd (false≢true (sym e))
both false true x y z e same = absurd (false≢true e)
both false false x y z e same = refl

-- the region as it is opened, with these marks
abbrev region_with : VolumeShape → LogSeen → ℕ → List PlexSeen → ℕ → RegionSeen
region_with shape log r plexes bits =
    record {
      stage = stage_of shape log.there bits;
      region = r;
      start = r * shape.geometry.region;
      size = size_of shape r;
      number = 0;
      epoch = 0;
      plexes = plexes;
      log = log;
    }

-- what is fixed of it: a relation's list is that of a current plex
abbrev fixed_with : Image → Candidates → VolumeShape → LogSeen → ℕ → List PlexSeen → ℕ → Fixed
fixed_with image candidates shape log r plexes current =
    record {
      held = holds plexes;
      copies = log.copies;
      base = λ m. blocks_of (r * shape.geometry.region) (size_of shape r) plexes current;
      first = λ b. cond (is_block_of image r b) (candidates b) (OneOf ([] ∷ []));
      region = r;
      from = 0;
    }

first_inside : (is : Bool) (x y : Values) → is ≡ true → cond is x y ≡ x
first_inside true x y e = refl
first_inside false x y e = absurd (false≢true e)

first_beyond : (is : Bool) (x : Values) → is ≡ false → IsAmong (cond is x (OneOf ([] ∷ []))) []
first_beyond true x e = absurd (false≢true (sym e))
first_beyond false x e = inl refl

module _ (c : Config) (good : ℕ) (bytes : Sectors) (v : Vol) (of : IsVolOf c v) (fresh : Bool) (form : VolumeForm) (is : IsFormOf c good v fresh form) (numbers : List ℕ) (contents : ℕ → Contents) (sectors : AreSectorsOf good numbers contents bytes) (regions : List (List PlexSeen)) (hold : HoldRegions contents regions) (r : ℕ) (inside : r < length regions) (low : r < count_of form.shape) (taken : IsTakenRegion numbers form.maps.items form.layouts.items (r * form.shape.geometry.region) (min form.shape.geometry.region (form.shape.geometry.length - r * form.shape.geometry.region)) (slice_index_or regions r [])) where
  sized : 0 < form.shape.geometry.region
  sized = let some = some_blocks c v of in let same = is.shape_is.region_is in omega (arith, some, same)

  same_test : (b : ℕ) → block_in (r * form.shape.geometry.region) (size_of form.shape r) b ≡ is_block_of (image_of c good bytes v) r b
  same_test b =
      same_blocks form.shape.geometry.length form.shape.geometry.region r b sized low
      ∙ ap (λ n. nat_lt r (region_count n form.shape.geometry.region) && (nat_lt b n && b / form.shape.geometry.region == r)) is.shape_is.length_is
      ∙ ap (λ n. nat_lt r (region_count v.len n) && (nat_lt b v.len && b / n == r)) is.shape_is.region_is

  -- what a held plex holds of a block of the region
  block_held : (q : Plex) → is_held c good q ≡ true → (j : ℕ) → IsPlaceOf (held_plexes c good v.name) q j → (i : ℕ) → i < size_of form.shape r →
      contents_of (slice_index_or regions r []) (map_or_zero q.map) i ≡ plex_contents c bytes q (r * form.shape.geometry.region + i)
  block_held q held j place i lt =
      let plexes = slice_index_or regions r [] in
      let maps : map own_map plexes ≡ maps_of (held_plexes c good v.name) = taken.maps_are ∙ is.maps in
      let own = length-map plexes own_map in
      let all = length-map (held_plexes c good v.name) (λ (p : Plex). map_or_zero p.map) in
      let many = ap length maps in
      let there = place.inside in
      let short : j < length plexes = omega (arith, own, all, many, there) in
      let long = zip_length (IsLayoutOf c) (held_plexes c good v.name) form.layouts.items is.layouts in
      let laid : j < length form.layouts.items = omega (arith, long, there) in
      let d = some_of form.layouts.items j laid in
      let l = slice_index_or form.layouts.items j d in
      let lay : IsLayoutOf c q l = subst (λ p. IsLayoutOf c p l) (place.at q) (zip_at (IsLayoutOf c) (held_plexes c good v.name) form.layouts.items is.layouts j q d laid) in
      let pieces = slice_index_or (map own_pieces plexes) j [] in
      let start = r * form.shape.geometry.region in
      let cut : AreCut numbers q.unit (columns_of c q) start (start + size_of form.shape r) pieces =
      subst (λ u. AreCut numbers u (columns_of c q) start (start + size_of form.shape r) pieces) lay.unit (subst (λ columns. AreCut numbers l.unit columns start (start + size_of form.shape r) pieces) lay.columns (taken.cut j d laid)) in
      let own_is : slice_index_or (map own_map plexes) j 0 ≡ map_or_zero q.map = ap (λ xs. slice_index_or xs j 0) maps ∙ at_map (λ (p : Plex). map_or_zero p.map) (held_plexes c good v.name) q j 0 place in
      ap (λ m. contents_of plexes m i) (sym own_is) ∙ contents_at plexes j i taken.differ short
      ∙ cut_holds good c.disks numbers contents bytes sectors q.unit (columns_of c q) (columns_lie c good q held q.ncol 0) pieces start (start + size_of form.shape r) i cut (own_hold (Holds contents) regions r j hold inside short) (omega (arith, lt))

  block_is : (q : Plex) → IsIn c.plexes q → is_data_plex_of v.name q ≡ true → is_held c good q ≡ true → (b : ℕ) →
      blocks_of (r * form.shape.geometry.region) (size_of form.shape r) (slice_index_or regions r []) (map_or_zero q.map) b ≡ region_blocks (image_of c good bytes v) r (plex_image c good bytes q) b
  block_is q there own held b =
      let among = kept (λ p. is_data_plex_of v.name p && is_held c good p) c.plexes q there (and_from _ _ own held) in
      let place = place_in (held_plexes c good v.name) q among in
      let start = r * form.shape.geometry.region in
      both _ _ _ _ [] (same_test b) (λ e.
      let w = in_range start (size_of form.shape r) b e in
      let first = w.0 in
      let last = w.1 in
      let at : start + (b - start) ≡ b = omega (arith, first) in
      block_held q held place.0 place.1 (b - start) (omega (arith, first, last)) ∙ ap (λ n. plex_contents c bytes q n) at)

  -- ---- the masks

  on_is : (q : Plex) → IsIn c.plexes q → is_data_plex_of v.name q ≡ true → (a : Bool) → is_on c good q ≡ a → has form.shape.on (map_or_zero q.map) ≡ a
  on_is q there own true e = is.shape_is.on.each (map_or_zero q.map) ∙ into_on c good v q there own e
  on_is q there own false e = false_from_ne_true _ (λ h.
      on_off c good v of form.shape is.shape_is (map_or_zero q.map) (map_or_zero q.map) (on_plex c good v of form.shape is.shape_is (map_or_zero q.map) h) (record { plex = q; there = there; own = own; map_is = refl; on = e }) refl)

  held_is : (k : ℕ) → holds (slice_index_or regions r []) k ≡ true → (p : PlexImage) × Contains (image_of c good bytes v).plexes p × (p.map ≡ k) × (p.held ≡ true)
  held_is k h =
      let w = plex_among (held_plexes c good v.name) k (subst (λ ms. is_among k ms ≡ true) is.maps (sym (taken.held k) ∙ h)) in
      let x = filtered (λ p. is_data_plex_of v.name p && is_held c good p) c.plexes w.plex w.there in
      let parts = and_parts (is_data_plex_of v.name w.plex) (is_held c good w.plex) x.1 in
      (plex_image c good bytes w.plex, in_image c good bytes v w.plex x.0 parts.0, w.map_is, parts.1)

  -- ---- the whole

  opened_as : (log : LogSeen) (copy : LogCopy) → ShowsCopy log copy (count_of form.shape) → (bits : ℕ) → AreClaimed (log.claims r) bits → IsWhole (region_with form.shape log r (slice_index_or regions r []) bits) → (candidates : Candidates) →
      (fixed : Fixed) × IsOpened (image_of c good bytes v) copy candidates r (state_of (region_with form.shape log r (slice_index_or regions r []) bits) fixed [] NoCall 0)
      × IsFixedOf (region_with form.shape log r (slice_index_or regions r []) bits) fixed
  opened_as log copy shows bits claimed whole candidates =
      let image = image_of c good bytes v in
      let bits_are = λ (k : ℕ). claimed k ∙ shows.claims r k low in
      let current = whole.formed.readable in (
        fixed_with image candidates form.shape log r (slice_index_or regions r []) current.0,
        record {
          masks = whole.formed.stage;
          bits = bits_are;
          phase = ap (λ (b : Bool). cond b Unsettled Settled) (bits_are 30);
          snaps = λ m h. contains (relation_maps c.snaps v.name) m (among_in m (relation_maps c.snaps v.name) (sym (is.shape_is.snaps.each m) ∙ h));
          shows = λ n k lt. shows.shows r n k low lt;
          tight = λ k. shows.tight r k low;
          held = held_is;
          values = λ p one held b.
              let w = of_image c good bytes v p one in
              subst (λ (x : PlexImage). blocks_of (r * form.shape.geometry.region) (size_of form.shape r) (slice_index_or regions r []) x.map b ≡ region_blocks image r x b) (sym w.is)
              (block_is w.plex w.there w.of (subst (λ (x : PlexImage). x.held ≡ true) w.is held) b);
          data_plexes = λ p one.
              let w = of_image c good bytes v p one in
              subst (λ (x : PlexImage). IsDataIn form.shape.on form.shape.off x.map) (sym w.is) (held_on c good v of form.shape is.shape_is w.plex (is_on c good w.plex) refl w.there w.of);
          on = λ p one.
              let w = of_image c good bytes v p one in
              subst (λ (x : PlexImage). has form.shape.on x.map ≡ is_available x) (sym w.is) (on_is w.plex w.there w.of (is_on c good w.plex) refl);
          readable = (current.0, current.1, sym (bits_are current.0) ∙ current.2);
          base = λ m b related clear. refl;
          first = λ b h. first_inside (is_block_of image r b) (candidates b) (OneOf ([] ∷ [])) h;
          beyond = λ b h. first_beyond (is_block_of image r b) (candidates b) h;
          no_call = refl;
          no_entries = refl;
          no_number = refl;
        },
        record { held = λ k. refl; copies = refl; region = refl },
      )

-- ---- a volume

pub opened_is : (c : Config) (good : ℕ) (bytes : Sectors) (v : Vol) (form : VolumeForm) (copy : LogCopy) (volume : VolumeSeen) → IsOpenedBy c good bytes v form copy volume → (candidates : Candidates) (r : ℕ) → r < length volume.cells →
    (fixed : Fixed) × IsOpened (image_of c good bytes v) copy candidates r (state_of (region_at volume r) fixed [] NoCall (cell_at volume r).number) × IsFixedOf (region_at volume r) fixed
opened_is c good bytes v form copy volume by candidates r lt =
    let count = by.opened.cells.count in
    let many = by.long in
    let inside : r < length by.regions = omega (arith, lt, count) in
    let low : r < count_of form.shape = omega (arith, inside, many) in
    let cell = by.opened.cells.each r inside in
    let plexes = slice_index_or by.regions r [] in
    let place : item_at [] by.regions r ≡ plexes = same_item [] by.regions r in
    let first : region_at volume r ≡ with_log (cell_at volume r) by.log = ap (λ l. with_log (cell_at volume r) l) by.opened.log_is in
    let second = ap (λ (x : CellSeen). with_log x by.log) cell.is in
    let third = ap (λ ps. region_with form.shape by.log r ps cell.bits) place in
    let same : region_at volume r ≡ region_with form.shape by.log r plexes cell.bits = first ∙ second ∙ third in
    subst (λ (x : RegionSeen). (fixed : Fixed) × IsOpened (image_of c good bytes v) copy candidates r (state_of x fixed [] NoCall x.number) × IsFixedOf x fixed) (sym same)
    (opened_as c good bytes v by.of by.fresh form by.form_is by.numbers by.contents by.sectors by.regions by.hold r inside low (by.taken r inside) by.log copy by.shows cell.bits cell.claimed (subst IsWhole same (by.whole.each r lt).whole) candidates)

pub opened_stands : (c : Config) (good : ℕ) (bytes : Sectors) (v : Vol) (form : VolumeForm) (copy : LogCopy) (volume : VolumeSeen) → IsOpenedBy c good bytes v form copy volume → (candidates : Candidates) →
    IsSoundImage (image_of c good bytes v) → StandsForCandidates (image_of c good bytes v) candidates → IsFilled v.state → Contains (image_of c good bytes v).copies copy → (r : ℕ) → r < length volume.cells →
    (fixed : Fixed) × IsOpened (image_of c good bytes v) copy candidates r (state_of (region_at volume r) fixed [] NoCall (cell_at volume r).number) × StandsFor (region_at volume r) fixed [] NoCall × IsFixedOf (region_at volume r) fixed
opened_stands c good bytes v form copy volume by candidates sound stands filled one r lt =
    let w = opened_is c good bytes v form copy volume by candidates r lt in (
      w.0,
      w.1,
      kept_from_fresh (state_of (region_at volume r) w.0 [] NoCall (cell_at volume r).number)
          (each_opening_is_fresh (image_of c good bytes v) candidates sound stands filled (well_formed c good bytes v by.of) copy one r (state_of (region_at volume r) w.0 [] NoCall (cell_at volume r).number) w.1),
      w.2,
    )
