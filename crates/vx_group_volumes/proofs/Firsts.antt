-- A volume that never was started begins to run.
use Rattle.std.proofs.Common.{◌≡◌, inl, inr, ℕ, zero, suc, ◌<◌, Bool, true, false, not, List, [], ◌∷◌, length, refl, sym, ap, ◌∙◌, subst, arith}
use Rattle.std.specs.Prelude.{◌&&◌, nat_lt, is_some, slice_index_or, Contains}
use Rattle.std.specs.List.{All}
use Rattle.std.proofs.lemmas.Bool.{and_parts, cases_lt, ltb-true}
use Rattle.vx_base.specs.Blocks.{Contents}
use Rattle.vx_base.specs.Named.{Word}
use Rattle.vx_block.specs.Geometry.{is_region_size}
use Rattle.vx_piece.specs.Seen.{Seen}
use Rattle.vx_life.specs.Candidates.Values.{OneOf}
use Rattle.vx_core.specs.History.{NoCall}
use Rattle.vx_core.specs.Region.{Fixed}
use Rattle.vx_carve.specs.Together.{Holds}
use Rattle.vx_cell.specs.Changes.{CellSeen}
use Rattle.vx_cell.specs.Plexes.{AllTell, PlexSeen}
use Rattle.vx_cell.specs.Region.{Tells, state_of}
use Rattle.vx_pages.specs.declared.local_piece.LocalPiece.{Ghosts}
use Rattle.vx_config_parts.specs.declared.state.VolState.TheVariants as vol
use Rattle.vx_config_parts.specs.declared.vol.Vol.{Vol}
use Rattle.vx_objects.specs.declared.config.Config.{Config}
use Rattle.vx_image.specs.Image.{PlexImage}
use Rattle.vx_image.specs.Bytes.{Sectors, image_of, plex_image}
use Rattle.vx_image.proofs.Members.{contains}
use Rattle.vx_volume.specs.declared.log.VolumeLog.{VolumeLog}
use Rattle.vx_volume.specs.declared.log.VolumeLog.TheVariants.{Absent, Maps}
use Rattle.vx_volume.specs.Log.{log_seen}
use Rattle.vx_volume.specs.Opening.{count_of}
use Rattle.vx_volume.specs.Volume.{VolumeSeen, cell_at, log_of, region_at, volume_seen}
use Rattle.vx_lending.specs.RegionPieces.{all_pieces, pieces_of}
use Rattle.vx_lending.specs.declared.form.VolumeForm.{VolumeForm}
use Rattle.vx_image.specs.UsedPlexes.{IsVolOf}
use Rattle.vx_lending.specs.Form.{IsFormOf}
use Rattle.vx_lending.proofs.Bits.{on_plex}
use Rattle.vx_lending.proofs.Rules.{vol_geometry}
use Rattle.vx_lending.specs.Logs.{IsFreshLog, marked_maps}
use Rattle.vx_volume_laws.specs.Opening.{IsOpened}
use Rattle.vx_volume_laws.specs.Start.{EachEmptyBegins}
use Rattle.vx_volume_laws.specs.Contents.{AreSectorsOf, ShowsCopy}
use Rattle.vx_volume_laws.specs.Exact.{IsExactVolume}
use Rattle.vx_volume_laws.specs.Opened.{IsFixedOf, IsOpenedBy}
use Rattle.vx_volume_laws.proofs.ExactLogs.{opening_exact}
use Rattle.vx_volume_laws.proofs.Held.{in_image}
use Rattle.vx_volume_laws.proofs.Loaded.{all_tell, run_tells}
use Rattle.vx_volume_laws.proofs.OpenedImages.{opened_is, same_item, well_formed}
use Rattle.vx_moments.specs.World.{Volume}
use Rattle.vx_moments.specs.Lives.{volume_first}
use Rattle.vx_volume_laws.specs.Running.{RunsAsVolume}
use Rattle.vx_volume_laws.specs.Starting.{EachOpeningRuns, IsOpenedOver}
use Rattle.vx_volume_laws.proofs.LeftLogs.{log_new}
use Rattle.vx_volume_laws.proofs.Spots.{all_left, all_right}
use Rattle.vx_lending.specs.Public.{still_pieces}
use Rattle.vx_lending.specs.declared.public.Public.{Public}
use Rattle.vx_lending.specs.declared.public.Running.{Running}
use Rattle.vx_group_start.specs.Fresh.{is_fresh, maps_to_copy}
use Rattle.vx_group_start.specs.Logs.{IsLogOf}
use Rattle.vx_group_start.specs.Started.{IsStarted}
use Rattle.vx_group_volumes.specs.Copies.{AreTight}
use Rattle.vx_group_volumes.proofs.Begun.{IsFirst, begun_as, begun_opened, begun_over, begun_stands, begun_well, is_low, marks_of}
use Rattle.vx_group_volumes.proofs.Lowest.{copied_clean, logged_others, own_names, plain_others}
use Rattle.vx_group_volumes.proofs.Starts.{some_count}

-- ---- what is told

own_region : (P : Seen → Type 0) (regions : List (List PlexSeen)) (r : ℕ) → All P (all_pieces regions) → r < length regions → All P (pieces_of (slice_index_or regions r []))
own_region P [] r all lt = absurd (omega (arith, lt))
own_region P (x ∷ xs) zero all lt = all_left P (pieces_of x) (all_pieces xs) all
own_region P (x ∷ xs) (suc r) all lt = own_region P xs r (all_right P (pieces_of x) (all_pieces xs) all) (omega (arith, lt))

plexes_tell : (contents : ℕ → Contents) (ps : List PlexSeen) → All (Holds contents) (pieces_of ps) → AllTell ps
plexes_tell contents [] all = tt
plexes_tell contents (p ∷ ps) all = (run_tells contents p.pieces (all_left (Holds contents) p.pieces (pieces_of ps) all), plexes_tell contents ps (all_right (Holds contents) p.pieces (pieces_of ps) all))

some_length : (c : Config) (v : Vol) → IsVolOf c v → 0 < v.len
some_length c v of =
    let first = and_parts (is_region_size v.region && nat_lt 0 v.len) _ (vol_geometry c v of) in
    ltb-true 0 v.len (and_parts (is_region_size v.region) (nat_lt 0 v.len) first.0).1

-- ---- opened over the image as the first life begins

module _ (c : Config) (good : ℕ) (bytes : Sectors) (v : Vol) (form : VolumeForm) (others : ℕ → Bool) (volume : VolumeSeen) (by : IsOpenedBy c good bytes v form (marks_of others) volume) (told : Tells volume.log.told) (w : Volume) where
  -- what is fixed of a region; behind the last one anything
  IsFixedAt : ℕ → Fixed → Type 0
  IsFixedAt r fixed =
      r < length volume.cells →
      IsOpened (begun_as others (image_of c good bytes v).snaps (image_of c good bytes v)) (marks_of others) w.life.candidates r (state_of (region_at volume r) fixed [] NoCall (cell_at volume r).number) × IsFixedOf (region_at volume r) fixed

  chosen : (r : ℕ) → (fixed : Fixed) × IsFixedAt r fixed
  unfolding IsFixedAt
  chosen r =
      elim (cases_lt r (length volume.cells)) [
        | inl lt ↦
            let x = opened_is c good bytes v form (marks_of others) volume by w.life.candidates r lt in
            (x.0, λ again. (begun_opened (image_of c good bytes v) others (marks_of others) w.life.candidates r (state_of (region_at volume r) x.0 [] NoCall (cell_at volume r).number) x.1, x.2))
        | inr past ↦ (record { held = λ k. false; copies = 0; base = λ m b. []; first = λ b. OneOf []; region = r; from = 0 }, λ lt. absurd (omega (arith, lt, past)))
      ]

  fixed_at : (r : ℕ) → r < length volume.cells →
      IsOpened (begun_as others (image_of c good bytes v).snaps (image_of c good bytes v)) (marks_of others) w.life.candidates r (state_of (region_at volume r) (chosen r).0 [] NoCall (cell_at volume r).number) × IsFixedOf (region_at volume r) (chosen r).0
  unfolding IsFixedAt
  fixed_at r lt = (chosen r).1 lt

  inside : (r : ℕ) → r < length volume.cells → r < length by.regions
  inside r lt = let count = by.opened.cells.count in omega (arith, lt, count)

  plexes_are : (r : ℕ) → r < length volume.cells → (cell_at volume r).plexes ≡ slice_index_or by.regions r []
  plexes_are r lt = ap (λ (x : CellSeen). x.plexes) (by.opened.cells.each r (inside r lt)).is ∙ same_item [] by.regions r

  first_over : IsOpenedOver (begun_as others (image_of c good bytes v).snaps (image_of c good bytes v)) volume w
  first_over =
      record {
        fixed = λ r. (chosen r).0;
        copy = marks_of others;
        copy_of = contains (marks_of others ∷ []) (marks_of others) (inl refl);
        some = let long = by.opened.length_is in let is = by.form_is.shape_is.length_is in let some = some_length c v by.of in omega (arith, long, is, some);
        length_is = by.opened.length_is ∙ by.form_is.shape_is.length_is;
        region_is = by.opened.region_is ∙ by.form_is.shape_is.region_is;
        told = λ r lt. (subst AllTell (sym (plexes_are r lt)) (plexes_tell by.contents (slice_index_or by.regions r []) (own_region (Holds by.contents) by.regions r by.hold (inside r lt))), told);
        here = λ r lt. (fixed_at r lt).1.region ∙ (by.whole.each r lt).index;
        number = λ r lt. ap (λ (x : CellSeen). x.number) (by.opened.cells.each r (inside r lt)).is;
        epoch = λ r lt. ap (λ (x : CellSeen). x.epoch) (by.opened.cells.each r (inside r lt)).is;
        held = λ r k lt. (fixed_at r lt).1.held k;
        copies = λ r lt. (fixed_at r lt).1.copies;
        opened = λ r lt. (fixed_at r lt).0;
      }

-- ---- its log was made new

module _ {P : Type 0} {ghosts : Ghosts P} (c : Config) (good : ℕ) (v : Vol) (numbers : List ℕ) (old new : Public P ghosts) (running : Running P ghosts) (of : IsVolOf c v) (empty_is : v.state ≡ vol.Empty)
    (form_is : IsFormOf c good v true running.form) (started : IsStarted ghosts.seen v numbers old new running)
    (contents : ℕ → Contents) (hold : All (Holds contents) (still_pieces ghosts.seen old)) (bytes : Sectors) (sectors : AreSectorsOf good numbers contents bytes) where
  copies_hold : All (λ copy. All (Holds contents) copy) started.log.copies
  copies_hold = started.log.are.hold contents hold

  log_is_fresh : IsFreshLog ghosts.seen running.form.shape.geometry (maps_to_copy running.form.shape) started.log.copies (log_of running.volume)
  log_is_fresh = subst (λ b. IsLogOf ghosts.seen b running.form.shape started.log.copies (log_of running.volume)) (ap is_fresh empty_is) started.log.log_is

  -- some plex that is on is unmarked: region 0 is readable
  some_unmarked : (others : ℕ → Bool) → ShowsCopy (log_seen ghosts.seen (log_of running.volume)) (marks_of others) (count_of running.form.shape) → (p : PlexImage) × Contains (image_of c good bytes v).plexes p × (others p.map ≡ false)
  some_unmarked others shows =
      let some : 0 < count_of running.form.shape = some_count c good v true running.form of form_is in
      let long = started.long in
      let k = started.opened.readable 0 (omega (arith, some, long)) in
      let p = on_plex c good v of running.form.shape form_is.shape_is k.0 k.1 in
      (plex_image c good bytes p.plex, in_image c good bytes v p.plex p.there p.own, ap others p.map_is ∙ sym (shows.claims 0 k.0 some) ∙ k.2)

  -- the maps that the log shows are those of all plexes of the image but the lowest
  record Shown : Type 0 where
    pub others : ℕ → Bool
    pub first : IsFirst (image_of c good bytes v) others
    pub shows : ShowsCopy (log_seen ghosts.seen (log_of running.volume)) (marks_of others) (count_of running.form.shape)
    pub told : Tells (log_seen ghosts.seen (log_of running.volume)).told

  shown_as : (others : ℕ → Bool) → others 30 ≡ false → ((p : PlexImage) → Contains (image_of c good bytes v).plexes p → others p.map ≡ not (is_low (image_of c good bytes v).plexes p)) →
      ShowsCopy (log_seen ghosts.seen (log_of running.volume)) (marks_of others) (count_of running.form.shape) → Tells (log_seen ghosts.seen (log_of running.volume)).told → Shown
  shown_as others clean lowest shows told = record {
    others = others;
    first = record {
      empty_is = empty_is;
      well = well_formed c good bytes v of;
      lowest = lowest;
      some = some_unmarked others shows;
      clean = clean;
      names = own_names c good v of running.form.shape form_is.shape_is bytes;
    };
    shows = shows;
    told = told;
  }

  shown_by : (log : VolumeLog P ghosts) → IsFreshLog ghosts.seen running.form.shape.geometry (maps_to_copy running.form.shape) started.log.copies log → (log_of running.volume ≡ log) → Shown
  shown_by Absent is same =
      let plain : is_some v.dco ≡ false = sym (ap (λ l. (log_seen ghosts.seen l).there) (sym same) ∙ started.log.fits.there) in
      shown_as (λ k. false) refl (plain_others c good v of running.form.shape form_is.shape_is bytes plain)
      (subst (λ l. ShowsCopy (log_seen ghosts.seen l) (marks_of (λ k. false)) (count_of running.form.shape)) (sym same) (record { claims = λ r k low. refl; shows = λ r n k low few. refl; tight = λ r k low. refl }))
      (subst (λ l. Tells (log_seen ghosts.seen l).told) (sym same) tt)
  shown_by (Maps store) is same =
      let mask = maps_to_copy running.form.shape in
      let fresh = log_new running.form.shape.geometry mask started.log.copies store (all_tell contents started.log.copies copies_hold) is in
      shown_as (marked_maps mask) (copied_clean c good v of running.form.shape form_is.shape_is) (logged_others c good v of running.form.shape form_is.shape_is bytes)
      (subst (λ l. ShowsCopy (log_seen ghosts.seen l) (marks_of (marked_maps mask)) (count_of running.form.shape)) (sym same) (record { claims = fresh.claims; shows = λ r n k low few. fresh.shows r n k low; tight = fresh.tight }))
      (subst (λ l. Tells (log_seen ghosts.seen l).told) (sym same) fresh.tells)

  shown : Shown
  shown = shown_by (log_of running.volume) log_is_fresh refl

  -- no mark is loose
  pub fresh_tight : AreTight (volume_seen ghosts.seen running.volume)
  fresh_tight r k lt = let count = started.opened.cells.count in let long = started.long in shown.shows.tight r k (omega (arith, lt, count, long))

  opened_by : IsOpenedBy c good bytes v running.form (marks_of shown.others) (volume_seen ghosts.seen running.volume)
  opened_by = record {
    of = of;
    fresh = true;
    form_is = form_is;
    numbers = numbers;
    contents = contents;
    sectors = sectors;
    regions = started.regions;
    long = started.long;
    taken = started.taken;
    hold = (started.hold contents hold).0;
    log = log_seen ghosts.seen (log_of running.volume);
    shows = shown.shows;
    opened = started.opened;
    whole = started.whole;
  }

  pub fresh_runs : EachEmptyBegins → EachOpeningRuns → (plexes : List Word) → RunsAsVolume (image_of c good bytes v).plexes (volume_seen ghosts.seen running.volume) (volume_first plexes (image_of c good bytes v))
  fresh_runs begins law plexes =
      let image = begun_as shown.others (image_of c good bytes v).snaps (image_of c good bytes v) in
      let w = volume_first plexes (image_of c good bytes v) in
      law image (volume_seen ghosts.seen running.volume) w started.whole
      (first_over c good bytes v running.form shown.others (volume_seen ghosts.seen running.volume) opened_by shown.told w)
      (begun_stands (image_of c good bytes v) shown.others shown.first begins plexes)
      (begun_over (image_of c good bytes v) shown.others shown.first plexes)
      tt
      (begun_well (image_of c good bytes v) shown.others shown.first)

  pub fresh_exact : IsExactVolume (volume_seen ghosts.seen running.volume)
  fresh_exact =
      let w = volume_first [] (image_of c good bytes v) in
      opening_exact (begun_as shown.others (image_of c good bytes v).snaps (image_of c good bytes v)) (volume_seen ghosts.seen running.volume) w started.whole
      (first_over c good bytes v running.form shown.others (volume_seen ghosts.seen running.volume) opened_by shown.told w)
