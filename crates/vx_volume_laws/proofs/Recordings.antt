-- The image of a volume that begins its life is the start of the one that was EMPTY.
use Rattle.std.proofs.Common.{◌≡◌, ◌⊎◌, inl, inr, ℕ, ◌*◌, ◌/◌, ◌<◌, ◌≤◌, Bool, true, false, not, Option, Some, None, List, [], ◌∷◌, length, refl, sym, ap, ◌∙◌, subst, arith}
use Rattle.std.specs.Prelude.{◌&&◌, ◌==◌, nat_le, nat_lt, is_some, slice_index_or, Contains}
use Rattle.std.specs.List.{All, list_all}
use Rattle.std.specs.Str.{bytes_eq}
use Rattle.std.proofs.lemmas.Bool.{false≢true, cases_lt, lt-ltb, le-ltb}
use Rattle.std.proofs.lemmas.Bool.Decides.{nat_tests}
use Rattle.std.proofs.lemmas.List.Folds.{list_all-map}
use Rattle.vx_base.specs.Blocks.{Contents}
use Rattle.vx_base.specs.Named.{Word}
use Rattle.vx_base.proofs.NamedLemmas.{bytes_eq_self}
use Rattle.vx_block.specs.Regions.{region_count}
use Rattle.vx_mask.specs.Mask.{has}
use Rattle.vx_block.specs.declared.geometry.Geometry.{Geometry}
use Rattle.vx_mapfmt.specs.Sizes.{map_bytes_of}
use Rattle.vx_mapfmt.specs.Bits.{bit_in, is_headed, marks, page_in}
use Rattle.vx_mapfmt.specs.Header.{maps_header}
use Rattle.vx_piece.specs.Seen.{Seen}
use Rattle.vx_runs.specs.Run.{run_contents}
use Rattle.vx_marks.specs.Log.{LogSeen}
use Rattle.vx_cell.specs.Region.{Tells}
use Rattle.vx_carve.specs.Together.{Holds}
use Rattle.vx_config_parts.specs.declared.plex.Plex.{Plex}
use Rattle.vx_config_parts.specs.declared.vol.Vol.{Vol}
use Rattle.vx_config_parts.specs.Objects.{is_data_plex_of}
use Rattle.vx_objects.specs.declared.config.Config.{Config}
use Rattle.vx_image.proofs.PlexMembers.{IsIn}
use Rattle.vx_image.specs.Image.{PlexImage, LogCopy, Image, regions_of}
use Rattle.vx_image.specs.Bytes.{Sectors, image_of, log_copies, map_or_zero, plex_contents, plex_image, plex_marks}
use Rattle.vx_image.specs.Meaning.{lowest_of}
use Rattle.vx_image.proofs.Members.{is_in, contains, into_filter}
use Rattle.vx_volume.specs.Log.{absent_log}
use Rattle.vx_volume.specs.Opening.{count_of}
use Rattle.vx_volume_laws.specs.Start.{IsSamePlex, IsStartOf}
use Rattle.vx_lending.specs.declared.form.VolumeForm.{VolumeForm}
use Rattle.vx_image.specs.UsedPlexes.{IsVolOf, used_logs}
use Rattle.vx_lending.specs.Form.{IsFormOf}
use Rattle.vx_lending.specs.FormLaws.{HasOn}
use Rattle.vx_lending.proofs.Bits.{kept, on_plex}
use Rattle.vx_lending.proofs.Distinct.{filtered}
use Rattle.vx_lending.proofs.Maps.{one_without}
use Rattle.vx_lending.proofs.Rules.{plex_low}
use Rattle.vx_lending.specs.Logs.{marked_maps}
use Rattle.vx_lending.specs.Pieces.{copy_pieces}
use Rattle.vx_lending.specs.Taken.{log_sectors}
use Rattle.vx_volume_laws.specs.Contents.{AreSectorsOf, ShowsCopy}
use Rattle.vx_volume_laws.proofs.Held.{in_image, of_image}
use Rattle.vx_volume_laws.proofs.Loaded.{absent_shows, copy_in}
use Rattle.vx_volume_laws.specs.Keeping.{data_plexes}
use Rattle.vx_volume_laws.specs.Lying.{IsLogOver}
use Rattle.vx_volume_laws.specs.Places.{LieOnLogs}
use Rattle.vx_volume_laws.specs.Recorded.{EachPlainStartIsRecorded, EachStartIsRecorded, HasOthers, IsNewLog, IsSameBy, RecordsStart, is_lowest}
use Rattle.vx_volume_laws.proofs.LeftCopies.{HoldsPlex, MarksAsCopy, MarksNothing, copies_tell, copy_now, marks_held, used_held}
use Rattle.vx_volume_laws.proofs.Lowest.{has_lowest}
use Rattle.vx_volume_laws.proofs.Plexes.{zip_left, zip_right}

not_false : (b : Bool) → not b ≡ false → b ≡ true
not_false true h = refl
not_false false h = absurd (false≢true (sym h))

-- a log has sectors
some_sectors : (geometry : Geometry) → 0 < log_sectors geometry
some_sectors geometry = by (region_count geometry.length geometry.region)
  where
    by : (regions : ℕ) → 0 < 35 * (map_bytes_of regions / 512)
    by regions = omega arith

not_zero : (n : ℕ) → 0 < n → (n == 0) ≡ false
not_zero n some = grind (arith, nat_tests)

some_length : {A : Type 0} (xs : List A) (x : A) → IsIn xs x → (length xs == 0) ≡ false
some_length [] x there = absurd there
some_length (y ∷ xs) x there = not_zero (length (y ∷ xs)) (omega arith)

module _ (c0 : Config) (good0 : ℕ) (v0 : Vol) (form : VolumeForm) (of : IsVolOf c0 v0) (is : IsFormOf c0 good0 v0 true form) (on : HasOn form.shape) (bytes0 : Sectors) (c : Config) (good : ℕ) (v : Vol) (bytes : Sectors) (records : RecordsStart c0 good0 v0 bytes0 c good v bytes) where
  abbrev ps : List Plex
  ps = data_plexes c0 v0.name

  abbrev qs : List Plex
  qs = data_plexes c v.name

  abbrev empty : Image
  empty = image_of c0 good bytes0 v0

  abbrev image : Image
  image = image_of c good bytes v

  -- a plex of the image, and as it was
  pub record WasEmpty (p : PlexImage) : Type 0 where
    pub plex : Plex
    pub is_image : p ≡ plex_image c good bytes plex
    pub was : Plex
    pub there : IsIn ps was
    pub same : IsSameBy c0 bytes0 c bytes good was plex

  was_empty : (p : PlexImage) → Contains image.plexes p → WasEmpty p
  was_empty p one =
      let x = of_image c good bytes v p one in
      let r = zip_right (IsSameBy c0 bytes0 c bytes good) ps qs records.plexes x.plex (kept (is_data_plex_of v.name) c.plexes x.plex x.there x.of) in
      record { plex = x.plex; is_image = x.is; was = r.0; there = r.1; same = r.2 }

  same_plex : (p : PlexImage) (e : WasEmpty p) → IsSamePlex (plex_image c0 good bytes0 e.was) p
  same_plex p e =
      subst (λ (x : PlexImage). IsSamePlex (plex_image c0 good bytes0 e.was) x) (sym e.is_image) (record { map = e.same.map; held = e.same.held; values = e.same.values })

  in_empty : (p : Plex) → IsIn ps p → Contains empty.plexes (plex_image c0 good bytes0 p)
  in_empty p there = let w = filtered (is_data_plex_of v0.name) c0.plexes p there in in_image c0 good bytes0 v0 p w.0 w.1

  lowest_image : (p : Plex) → IsIn ps p → is_lowest ps p ≡ true → Contains (lowest_of empty.plexes) (plex_image c0 good bytes0 p)
  lowest_image p there low =
      into_filter (λ (x : PlexImage). list_all (λ (y : PlexImage). nat_le x.map y.map) empty.plexes) empty.plexes (plex_image c0 good bytes0 p) (in_empty p there)
      (list_all-map (λ (y : PlexImage). nat_le (map_or_zero p.map) y.map) (plex_image c0 good bytes0) ps ∙ low)

  some_plex : (p : Plex) × IsIn ps p × (is_lowest ps p ≡ true)
  some_plex = let p = on_plex c0 good0 v0 of form.shape is.shape_is on.0 on.1 in has_lowest (λ (x : Plex). map_or_zero x.map) ps p.plex (kept (is_data_plex_of v0.name) c0.plexes p.plex p.there p.own)

  -- where each copy marks just these maps, which are all but the lowest
  module _ (others : ℕ → Bool) (lowest : (p : Plex) → IsIn ps p → others (map_or_zero p.map) ≡ not (is_lowest ps p)) (each : (x : LogCopy) → IsIn image.copies x → (r k : ℕ) → r < regions_of image → x r k ≡ others k)
      (none : (x : LogCopy) → IsIn image.copies x → (r k : ℕ) → others k ≡ false → x r k ≡ false) (x0 : LogCopy) (some : IsIn image.copies x0) where
    starts : IsStartOf empty image
    starts =
        record {
          empty_is = records.empty_is;
          filled = records.filled;
          length = records.keeps.length_is;
          region = records.keeps.region_is;
          alone = records.alone;
          plexes = λ p one. let e = was_empty p one in (plex_image c0 good bytes0 e.was, in_empty e.was e.there, same_plex p e);
          low =
              let p = some_plex in
              let r = zip_left (IsSameBy c0 bytes0 c bytes good) ps qs records.plexes p.0 p.1 in
              let w = filtered (is_data_plex_of v.name) c.plexes r.0 r.1 in
              let clear : others (map_or_zero r.0.map) ≡ false = ap others r.2.map ∙ lowest p.0 p.1 ∙ ap not p.2 in
              (plex_image c good bytes r.0, in_image c good bytes v r.0 w.0 w.1, λ x one i. none x (is_in image.copies x one) i (map_or_zero r.0.map) clear);
          copy = some_length image.copies x0 some;
          marked = λ x one r low p one_p clear.
              let e = was_empty p one_p in
              let map_is : p.map ≡ map_or_zero e.was.map = ap (λ (y : PlexImage). y.map) e.is_image ∙ e.same.map in
              let is_low : not (is_lowest ps e.was) ≡ false = sym (lowest e.was e.there) ∙ ap others (sym map_is) ∙ sym (each x (is_in image.copies x one) r p.map low) ∙ clear in
              (plex_image c0 good bytes0 e.was, lowest_image e.was e.there (not_false (is_lowest ps e.was) is_low), same_plex p e);
        }

  -- ---- with a log

  module _ (numbers : List ℕ) (copies : List (List Seen)) (lies : LieOnLogs numbers form.logs.items (log_sectors form.shape.geometry) copies) (mask : ℕ) (has_others : HasOthers mask ps) (log : LogSeen) (over : IsLogOver log (count_of form.shape) copies)
      (new : IsNewLog form.shape.geometry mask log copies) (told : Tells log.told) (contents : ℕ → Contents) (hold : All (Holds contents) (copy_pieces copies)) (sectors : AreSectorsOf good numbers contents bytes) (q : Plex) (used : IsIn (used_logs v.dco c good false v.name) q) where
    regions_same : count_of form.shape ≡ region_count v.len v.region
    regions_same =
        ap (λ n. region_count n form.shape.geometry.region) (is.shape_is.length_is ∙ sym records.keeps.length_is) ∙ ap (λ n. region_count v.len n) (is.shape_is.region_is ∙ sym records.keeps.region_is)

    held : HoldsPlex c0 good0 v0 true form is numbers copies lies contents hold c good v records.keeps bytes sectors q
    held = used_held c0 good0 v0 true form is numbers copies lies contents hold c good v records.keeps bytes sectors q used

    as_mask : (x : LogCopy) → MarksAsCopy c0 good0 v0 true form is numbers copies lies contents hold c good v records.keeps bytes sectors x → (r k : ℕ) → r < count_of form.shape → x r k ≡ marked_maps mask k
    as_mask x it r k low = it.marks_are r k ∙ sym (over.shows told it.copy r k it.inside) ∙ new.shows r it.copy k low

    beyond : (n : ℕ) (holds : Contents) (k r : ℕ) → n ≤ r → marks n holds k r ≡ false
    beyond n holds k r le = ap (λ (b : Bool). (b && nat_lt k 32) && bit_in (page_in n holds k r) r) (le-ltb r n le)

    none_mask : (x : LogCopy) → MarksAsCopy c0 good0 v0 true form is numbers copies lies contents hold c good v records.keeps bytes sectors x → (r k : ℕ) → marked_maps mask k ≡ false → x r k ≡ false
    none_mask x it r k clear =
        elim (cases_lt r (count_of form.shape)) [
          | inl low ↦ as_mask x it r k low ∙ clear
          | inr past ↦ it.marks_are r k ∙ beyond (count_of form.shape) (run_contents (slice_index_or copies it.copy [])) k r past
        ]

    marks_as : (x : LogCopy) → IsIn image.copies x → MarksAsCopy c0 good0 v0 true form is numbers copies lies contents hold c good v records.keeps bytes sectors x
    marks_as x there = by (copy_now c0 good0 v0 true form is numbers copies lies contents hold c good v records.keeps bytes sectors x there)
      where
        by : MarksNothing c0 good0 v0 true form is numbers copies lies contents hold c good v records.keeps bytes sectors x ⊎ MarksAsCopy c0 good0 v0 true form is numbers copies lies contents hold c good v records.keeps bytes sectors x →
            MarksAsCopy c0 good0 v0 true form is numbers copies lies contents hold c good v records.keeps bytes sectors x
        by (inl nothing) = let few = held.inside in let zero_is = nothing.none in absurd (omega (arith, few, zero_is))
        by (inr it) = it

    lowest_by : (p : Plex) → IsIn ps p → marked_maps mask (map_or_zero p.map) ≡ not (is_lowest ps p)
    lowest_by p there =
        let w = filtered (is_data_plex_of v0.name) c0.plexes p there in
        let low = plex_low c0 v0 of p w.0 w.1 in
        ap (λ (b : Bool). b && has mask (map_or_zero p.map)) (lt-ltb (map_or_zero p.map) 32 (omega (arith, low))) ∙ has_others p (contains ps p there)

    own_copy : Contains image.copies (plex_marks c bytes v q)
    own_copy =
        let some : 0 < log_sectors form.shape.geometry = some_sectors form.shape.geometry in
        let first : plex_contents c bytes q 0 ≡ maps_header v.len v.region 32 =
        held.same 0 some ∙ new.heads (copies_tell contents copies hold) held.copy held.inside
        ∙ ap (λ n. maps_header n form.shape.geometry.region 32) (is.shape_is.length_is ∙ sym records.keeps.length_is) ∙ ap (λ n. maps_header v.len n 32) (is.shape_is.region_is ∙ sym records.keeps.region_is) in
        let headed : is_headed v.len v.region (plex_contents c bytes q) ≡ true = subst (λ (x : List ℕ). bytes_eq x (maps_header v.len v.region 32) ≡ true) (sym first) (bytes_eq_self (maps_header v.len v.region 32)) in
        copy_in c good bytes v v.dco q used headed

    start_recorded : IsStartOf empty image × (copy : LogCopy) × Contains image.copies copy × ShowsCopy log copy (count_of form.shape)
    start_recorded =
        let x = plex_marks c bytes v q in
        let own = marks_held c0 good0 v0 true form is numbers copies lies contents hold c good v records.keeps bytes sectors q held in (
          starts (marked_maps mask) lowest_by (λ y there r k low. as_mask y (marks_as y there) r k (subst (λ n. r < n) (sym regions_same) low)) (λ y there r k clear. none_mask y (marks_as y there) r k clear) x (is_in image.copies x own_copy),
          x,
          own_copy,
          record {
            claims = λ r k low. new.claims r k low ∙ sym (as_mask x own r k low);
            shows = λ r n k low few. new.shows r n k low ∙ sym (as_mask x own r k low);
            tight = new.tight;
          },
        )

  -- ---- without one

  module _ (plain : v0.dco ≡ None) where
    clear_copy : (dco : Option Word) → dco ≡ None → (x : LogCopy) → IsIn (log_copies dco c good bytes v) x → (r k : ℕ) → x r k ≡ false
    clear_copy None e x (inl same) r k = ap (λ (y : LogCopy). y r k) same
    clear_copy None e x (inr more) r k = absurd more
    clear_copy (Some d) e x there r k = absurd cc

    no_dco : v.dco ≡ None
    no_dco = records.keeps.dco ∙ plain

    -- it has one data plex
    lowest_plain : (p : Plex) → IsIn ps p → false ≡ not (is_lowest ps p)
    lowest_plain p there =
        let low = some_plex in
        let a = filtered (is_data_plex_of v0.name) c0.plexes p there in
        let b = filtered (is_data_plex_of v0.name) c0.plexes low.0 low.1 in
        let one : p ≡ low.0 = one_without c0 v0 of p low.0 a.0 b.0 a.1 b.1 (ap is_some plain) in
        sym (ap (λ (x : Plex). not (is_lowest ps x)) one ∙ ap not low.2)

    plain_recorded : IsStartOf empty image × (copy : LogCopy) × Contains image.copies copy × ShowsCopy absent_log copy (count_of form.shape)
    plain_recorded =
        let w = absent_shows c good bytes v no_dco (count_of form.shape) in
        (starts (λ k. false) lowest_plain (λ x there r k low. clear_copy v.dco no_dco x there r k) (λ x there r k clear. clear_copy v.dco no_dco x there r k) w.0 (is_in image.copies w.0 w.1), w.0, w.1, w.2)

pub each_start_is_recorded : EachStartIsRecorded
each_start_is_recorded c0 good0 v0 form of is on numbers copies lies mask others log over new contents hold bytes0 c good v bytes sectors records q used =
    start_recorded c0 good0 v0 form of is on bytes0 c good v bytes records numbers copies lies mask others log over new new.tells contents hold sectors q (is_in (used_logs v.dco c good false v.name) q used)

pub each_plain_start_is_recorded : EachPlainStartIsRecorded
each_plain_start_is_recorded c0 good0 v0 form of is on plain bytes0 c good v bytes records = plain_recorded c0 good0 v0 form of is on bytes0 c good v bytes records plain
