-- What a log that was loaded says of a plex that is to leave its volume: it can be spared, or some region needs it; and where it can be spared the
-- image without it is sound, if the one with it is, once each copy of the log marks what is claimed and no more.
use Rattle.std.proofs.Common.{◌≡◌, ◌≢◌, ◌∙◌, ℕ, ◌<◌, ◌^◌, ◌&&◌, not, Bool, true, false, cond, List, [], length, refl, sym, ap, subst, inl, inr, arith}
use Rattle.std.specs.Prelude.{◌==◌, Contains}
use Rattle.std.specs.List.{filter}
use Rattle.std.proofs.lemmas.Bool.{false_from_ne_true, false≢true}
use Rattle.vx_block.specs.Regions.{region_count}
use Rattle.vx_mask.specs.Mask.{has, only, without}
use Rattle.vx_mask.proofs.MaskLemmas.{empty_from_test, has-zero, same_as_only}
use Rattle.vx_mask.proofs.Sets.{out_without}
use Rattle.vx_core.specs.declared.stage.Stage.{Stage}
use Rattle.vx_core.specs.Table.{current}
use Rattle.vx_cell.specs.Changes.{CellSeen, has_other}
use Rattle.vx_cell.specs.Plexes.{PlexSeen}
use Rattle.vx_marks.specs.Log.{LogSeen}
use Rattle.vx_pages.specs.Items.{item_at}
use Rattle.vx_config_parts.specs.declared.plex.Plex.{Plex}
use Rattle.vx_config_parts.specs.declared.state.VolState.{VolState}
use Rattle.vx_config_parts.specs.declared.state.VolState.TheVariants as vol
use Rattle.vx_config_parts.specs.declared.vol.Vol.{Vol}
use Rattle.vx_config_parts.specs.Objects.{is_data_plex_of}
use Rattle.vx_objects.specs.declared.config.Config.{Config}
use Rattle.vx_image.specs.Bytes.{Sectors, image_of, map_or_zero, plex_image}
use Rattle.vx_image.specs.Image.{Image, LogCopy, PlexImage, has_no_copy, is_available, is_marked_by_all}
use Rattle.vx_image.specs.Meaning.{possible_read, sure_read}
use Rattle.vx_image.specs.Soundness.{IsChoiceOfMarks, IsSoundBy, IsSoundImage, IsUnmarkedPlex, MayDiffer}
use Rattle.vx_image.specs.UsedPlexes.{IsVolOf, is_on}
use Rattle.vx_image.proofs.Members.{contains, is_in}
use Rattle.vx_image.proofs.PlexMembers.{IsIn, all_in, any_in, from_map, in_any, in_map}
use Rattle.vx_volume.specs.Opening.{IsOpened, IsOpenedCell, count_of}
use Rattle.vx_volume.specs.Switching.{CanSpare, Needs}
use Rattle.vx_volume.specs.Volume.{VolumeSeen, cell_at}
use Rattle.vx_volume.proofs.Switchings.{apart_from, other_of}
use Rattle.vx_lending.specs.Form.{IsFormOf}
use Rattle.vx_lending.specs.declared.form.VolumeForm.{VolumeForm}
use Rattle.vx_lending.proofs.Bits.{IsPlexAt, into_on, kept, on_plex}
use Rattle.vx_lending.proofs.Distinct.{filtered}
use Rattle.vx_lending.proofs.Maps.{one_of_map}
use Rattle.vx_lending.proofs.Rules.{one_plex, plex_low}
use Rattle.vx_joined_volumes.specs.Parted.{TakesOut}
use Rattle.vx_stages.specs.Left.{IsNeededIn, IsOtherPlex, IsSparedIn}
use Rattle.vx_stages.specs.Starting.{IsFirstMissed}
use Rattle.vx_stage_dissociation.proofs.PartImages.{IsFewerImage, apart, image_fewer, image_then}

-- ---- masks

no_test : (n : ℕ) → cond (n == 0) false true ≡ false → n ≡ 0
no_test n is = by (n == 0) refl is
  where
    by : (b : Bool) → (n == 0) ≡ b → cond b false true ≡ false → n ≡ 0
    by true e h = empty_from_test n e
    by false e h = absurd (false≢true (sym h))

-- where a stage has no other current plex, each other plex that is on is marked
none_other : (s : Stage) (map k : ℕ) → has_other s map ≡ false → has s.on k ≡ true → k ≢ map → has s.bits k ≡ true
none_other s map k is on other =
    let n = without (current s) (only map) in
    let none : has n k ≡ false = ap (λ m. has m k) (no_test n is) ∙ has-zero k in
    out_without s.on s.bits k (false_from_ne_true (has (current s) k) (λ here. other (same_as_only map k (out_without (current s) (only map) k none here)))) on

-- ---- an image with fewer plexes

module _ (v : Image) (ps : List PlexImage) (comes : (x : PlexImage) → Contains ps x → Contains v.plexes x) where
  differ : (state : VolState) (B : ℕ → Bool) → MayDiffer state v B → MayDiffer state (record v { plexes = ps }) B
  differ vol.Empty B may = tt
  differ vol.Clean B may = absurd may
  differ vol.Active B may = record { dirty = may.dirty; stale = λ x one. may.stale x (comes x one) }
  differ vol.NeedSync B may = record { dirty = may.dirty; stale = λ x one. may.stale x (comes x one) }
  differ vol.Sync B may = record { dirty = may.dirty; stale = λ x one. may.stale x (comes x one) }

  was_unmarked : (B : ℕ → Bool) (x : PlexImage) → IsUnmarkedPlex ps B x → IsUnmarkedPlex v.plexes B x
  was_unmarked B x u = record { of = comes x u.of; held = u.held; unmarked = u.unmarked }

  -- a region is sound by a choice that leaves one of these unmarked
  sound_by : (r : ℕ) (B : ℕ → Bool) → (x : PlexImage) → Contains ps x → B x.map ≡ false → IsSoundBy v r B → IsSoundBy (record v { plexes = ps }) r B
  sound_by r B x one clear s = record {
    unmarked = (x, one, clear);
    agree = elim s.agree [
      | inl agree ↦ inl (λ p q here there. agree p q (was_unmarked B p here) (was_unmarked B q there))
      | inr may ↦ inr (differ v.state B may)
    ];
    tracked = λ m one clear p q here there. s.tracked m one clear p q (was_unmarked B p here) (was_unmarked B q there);
  }

module _ (c : Config) (good : ℕ) (v : Vol) (of : IsVolOf c v) (p : Plex) (there : IsIn c.plexes p) (own : is_data_plex_of v.name p ≡ true) where
  abbrev m : ℕ
  m = map_or_zero p.map

  low : m < 64
  low = let few = plex_low c v of p there own in omega (arith, few)

  -- ---- the image as it was

  module _ (bytes : Sectors) where
    abbrev image : Image
    image = image_of c good bytes v

    -- another plex that is available
    other_plex : (k : ℕ) (q : IsPlexAt c good v k true) → k ≢ map_or_zero p.map → IsOtherPlex (image_of c good bytes v) p (plex_image c good bytes q.plex)
    other_plex k q other = record {
      there = contains image.plexes (plex_image c good bytes q.plex) (in_map (plex_image c good bytes) (filter (is_data_plex_of v.name) c.plexes) q.plex (kept (is_data_plex_of v.name) c.plexes q.plex q.there q.own));
      other = λ e. other (sym q.map_is ∙ ap (λ (y : Plex). map_or_zero y.map) (one_plex c q.plex p q.there there e));
      available = q.on;
    }

    -- a map that a copy shows unmarked is not surely marked
    not_sure : (copy : LogCopy) → IsIn image.copies copy → (k r : ℕ) → copy r k ≡ false → sure_read image k r ≡ false
    not_sure copy one k r clear = by (not (has_no_copy image)) (is_marked_by_all image r k) refl
      where
        by : (a b : Bool) → is_marked_by_all image r k ≡ b → (a && b) ≡ false
        by false b e = refl
        by true false e = refl
        by true true e = absurd (false≢true (sym clear ∙ all_in (λ (l : LogCopy). l r k) image.copies copy e one))

    -- a region without any current plex needs it
    pub missed_needed : (r : ℕ) → IsFirstMissed (image_of c good bytes v) r → IsNeededIn (image_of c good bytes v) p
    missed_needed r first = record { region = r; inside = first.inside; missed = λ q other. first.here q other.there other.available }

  -- ---- by the log that was loaded

  module _ (form : VolumeForm) (is : IsFormOf c good v false form) (log : LogSeen) (regions : List (List PlexSeen)) (long : length regions ≡ count_of form.shape) (volume : VolumeSeen) (opened : IsOpened form.shape log regions volume) where
    same_count : count_of form.shape ≡ region_count v.len v.region
    same_count =
        ap (λ n. region_count n form.shape.geometry.region) is.shape_is.length_is
        ∙ ap (λ n. region_count v.len n) is.shape_is.region_is

    in_cells : (r : ℕ) → r < region_count v.len v.region → r < length volume.cells
    in_cells r lt = let count = opened.cells.count in let all = long in let same = same_count in omega (arith, lt, count, all, same)

    in_regions : (r : ℕ) → r < length volume.cells → r < region_count v.len v.region
    in_regions r lt = let count = opened.cells.count in let all = long in let same = same_count in omega (arith, lt, count, all, same)

    cell_is : (r : ℕ) → r < length volume.cells → IsOpenedCell form.shape log r (item_at [] regions r) (cell_at volume r)
    cell_is r lt = let count = opened.cells.count in opened.cells.each r (omega (arith, lt, count))

    on_is : (r : ℕ) → r < length volume.cells → (cell_at volume r).stage.on ≡ form.shape.on
    on_is r lt = ap (λ (x : CellSeen). x.stage.on) (cell_is r lt).is

    bits_are : (r : ℕ) → r < length volume.cells → (k : ℕ) → has (cell_at volume r).stage.bits k ≡ log.claims r k
    bits_are r lt k = let x = cell_is r lt in ap (λ (y : CellSeen). has y.stage.bits k) x.is ∙ x.claimed k

    -- another plex that is on, and that the log does not mark in the region
    record IsSpareAt (r : ℕ) : Type 0 where
      k : ℕ
      plex : IsPlexAt c good v k true
      other : k ≢ map_or_zero p.map
      clear : log.claims r k ≡ false

    spare_at : CanSpare (map_or_zero p.map) volume → (r : ℕ) → r < region_count v.len v.region → IsSpareAt r
    spare_at spare r inside =
        let within = in_cells r inside in
        let s = (cell_at volume r).stage in
        let few : s.on < 2 ^ 64 = subst (λ n. n < 2 ^ 64) (sym (on_is r within)) is.shape_is.on.fits in
        let k = other_of s m few (spare r within) in
        record {
          k = k.0;
          plex = on_plex c good v of form.shape is.shape_is k.0 (sym (ap (λ n. has n k.0) (on_is r within)) ∙ k.1);
          other = apart_from m k.0 low k.3;
          clear = sym (bits_are r within k.0) ∙ k.2;
        }

    -- ---- of the image as it was, of which a copy was loaded

    module _ (bytes : Sectors) (copy : LogCopy) (one : Contains (image_of c good bytes v).copies copy) (claims : (r k : ℕ) → r < count_of form.shape → log.claims r k ≡ copy r k) where
      abbrev was : Image
      was = image_of c good bytes v

      one_in : IsIn was.copies copy
      one_in = is_in was.copies copy one

      shown : (r k : ℕ) → r < region_count v.len v.region → log.claims r k ≡ copy r k
      shown r k lt = let same = same_count in claims r k (omega (arith, lt, same))

      pub is_spared : CanSpare (map_or_zero p.map) volume → IsSparedIn (image_of c good bytes v) p
      is_spared spare r inside =
          let x = spare_at spare r inside in (
            plex_image c good bytes x.plex.plex,
            other_plex bytes x.k x.plex x.other,
            not_sure bytes copy one_in (map_or_zero x.plex.plex.map) r (ap (λ k. copy r k) x.plex.map_is ∙ sym (shown r x.k inside) ∙ x.clear),
          )

      missed_by : (r : ℕ) (within : r < length volume.cells) → has_other (cell_at volume r).stage m ≡ false → (q : PlexImage) → IsOtherPlex was p q → possible_read was q.map r ≡ true
      missed_by r within none q other =
          let f = from_map (plex_image c good bytes) (filter (is_data_plex_of v.name) c.plexes) q (is_in was.plexes q other.there) in
          let x : Plex = f.0 in
          let w = filtered (is_data_plex_of v.name) c.plexes x f.1 in
          let on : is_on c good x ≡ true = subst (λ (y : PlexImage). is_available y ≡ true) f.2 other.available in
          let has_map : has form.shape.on (map_or_zero x.map) ≡ true = is.shape_is.on.each (map_or_zero x.map) ∙ into_on c good v x w.0 w.1 on in
          let differs : map_or_zero x.map ≢ m = λ e. other.other (ap (λ (y : PlexImage). y.name) f.2 ∙ ap (λ (y : Plex). y.name) (one_of_map c v of x p w.0 there w.1 own e)) in
          let marked = none_other (cell_at volume r).stage m (map_or_zero x.map) none (ap (λ n. has n (map_or_zero x.map)) (on_is r within) ∙ has_map) differs in
          let in_copy : copy r (map_or_zero x.map) ≡ true = sym (shown r (map_or_zero x.map) (in_regions r within)) ∙ sym (bits_are r within (map_or_zero x.map)) ∙ marked in
          subst (λ (y : PlexImage). possible_read was y.map r ≡ true) (sym f.2) (in_any (λ (l : LogCopy). l r (map_or_zero x.map)) was.copies copy one_in in_copy)

      pub is_needed : Needs (map_or_zero p.map) volume → IsNeededIn (image_of c good bytes v) p
      is_needed (r, within, none) = record { region = r; inside = in_regions r within; missed = missed_by r within none }

    -- ---- of the image as it is then

    module _ (bytes : Sectors) (marked : (x : LogCopy) → IsIn (image_of c good bytes v).copies x → (r k : ℕ) → r < region_count v.len v.region → x r k ≡ true → log.claims r k ≡ true)
        (remove : Bool) (c' : Config) (takes : TakesOut c v p remove c') (spare : CanSpare (map_or_zero p.map) volume) where
      abbrev now : Image
      now = image_of c good bytes v

      abbrev next : Image
      next = image_of c' good bytes v

      abbrev fewer : IsFewerImage (image_of c good bytes v) (image_of c' good bytes v)
      fewer = image_fewer c v p remove c' takes good bytes

      sound_so : IsSoundImage now → (r : ℕ) (B : ℕ → Bool) → r < region_count v.len v.region → IsChoiceOfMarks now r B → IsSoundBy (record now { plexes = next.plexes }) r B
      sound_so sound r B lt choice =
          let x = spare_at spare r lt in
          let q = plex_image c good bytes x.plex.plex in
          let clear : B x.k ≡ false = false_from_ne_true (B x.k) (λ set.
          let one = any_in (λ (l : LogCopy). l r x.k) now.copies (choice.most x.k set) in
          false≢true (sym x.clear ∙ marked one.0 one.1 r x.k lt one.2)) in
          sound_by now next.plexes fewer.comes r B q
          (image_then c v p remove c' takes good bytes x.plex.plex x.plex.there x.plex.own (apart c v p remove c' takes good bytes x.plex.plex x.plex.there (λ e. x.other (sym x.plex.map_is ∙ e))))
          (ap B x.plex.map_is ∙ clear) (sound r B lt choice)

      choice_was : (r : ℕ) (B : ℕ → Bool) → IsChoiceOfMarks (record now { plexes = next.plexes }) r B → IsChoiceOfMarks now r B
      choice_was r B choice = record { least = choice.least; most = choice.most }

      pub sound_without_it : IsSoundImage (image_of c good bytes v) → IsSoundImage (image_of c' good bytes v)
      sound_without_it sound r B lt choice =
          subst (λ (i : Image). IsSoundBy i r B) (sym fewer.same) (sound_so sound r B lt (choice_was r B (subst (λ (i : Image). IsChoiceOfMarks i r B) fewer.same choice)))
