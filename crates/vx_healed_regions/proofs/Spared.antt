-- A recovery writes nothing on a plex but in regions that are dirty, or marked on it.
use Rattle.std.proofs.Common.{◌≡◌, inl, inr, ℕ, ◌/◌, ◌<◌, Bool, true, false, cond, List, [], ◌∷◌, length, map, Result, refl, sym, ap, ◌∙◌, subst, arith}
use Rattle.std.specs.Prelude.{◌==◌, nat_lt, Contains}
use Rattle.std.specs.List.{AllZip, filter}
use Rattle.std.proofs.lemmas.Bool.{and_from, eq-eqb, lt-ltb}
use Rattle.vx_block.specs.Regions.{region_count}
use Rattle.vx_life.specs.Candidates.Values.{OneOf}
use Rattle.vx_mask.proofs.Tests.{not_both, true_or_false}
use Rattle.vx_core.specs.declared.stage.Phase.TheVariants.{Settled, Unsettled}
use Rattle.vx_core.specs.History.{NoCall}
use Rattle.vx_core.specs.Region.{Fixed, RegionState}
use Rattle.vx_core.specs.Recovery.{region_after}
use Rattle.vx_pages.specs.declared.local_piece.LocalPiece.{Ghosts}
use Rattle.vx_cell.specs.Plexes.{blocks_of, holds}
use Rattle.vx_cell.specs.Region.{state_of}
use Rattle.vx_config_parts.specs.declared.plex.Plex.{Plex}
use Rattle.vx_config_parts.specs.declared.vol.Vol.{Vol}
use Rattle.vx_config_parts.specs.Objects.{is_data_plex_of}
use Rattle.vx_objects.specs.declared.config.Config.{Config}
use Rattle.vx_image.specs.Bytes.{Sectors, image_of, is_held, plex_contents, plex_image}
use Rattle.vx_image.specs.Image.{Image, LogCopy, PlexImage, regions_of}
use Rattle.vx_image.specs.Meaning.{dirty_read, possible_read}
use Rattle.vx_image.proofs.Members.{any_from_one}
use Rattle.vx_image.proofs.PlexMembers.{IsIn}
use Rattle.vx_moments.specs.Volumes.{volume_read}
use Rattle.vx_moments.proofs.Blocks.{below_count}
use Rattle.vx_volume.specs.declared.fault.IoFault.{IoFault}
use Rattle.vx_volume.specs.Laws.{AreTold, RegionsGoOn}
use Rattle.vx_volume.specs.Volume.{VolumeSeen, cell_at, log_of, region_at, volume_seen}
use Rattle.vx_lending.specs.declared.public.Public.{Public}
use Rattle.vx_lending.specs.declared.public.Running.{Running}
use Rattle.vx_lending.specs.Logs.{log_copies}
use Rattle.vx_lending.proofs.Distinct.{filtered}
use Rattle.vx_volume_laws.specs.Lying.{LiesIn}
use Rattle.vx_volume_laws.specs.Opened.{IsOpenedBy}
use Rattle.vx_volume_laws.specs.Opening.{IsOpened, is_block_of}
use Rattle.vx_volume_laws.proofs.Configurations.{volume_kept}
use Rattle.vx_volume_laws.proofs.Held.{in_image}
use Rattle.vx_volume_laws.proofs.Lasting.{lies_on}
use Rattle.vx_volume_laws.proofs.LeftOpenings.{opened_is_over}
use Rattle.vx_volume_laws.proofs.OpenedImages.{opened_is, well_formed}
use Rattle.vx_volume_laws.proofs.Plexes.{HasBeen, block_now, has_been}
use Rattle.vx_group_recover.specs.declared.healing.Healed.{Healed}
use Rattle.vx_recovery.specs.Healing.{IsSpared}
use Rattle.vx_healed_volumes.specs.Healed.{AreSectorsAround, IsHealedBy}
use Rattle.vx_healed_regions.proofs.Healings.{Stays, heals_goes, heals_stays}
use Rattle.vx_healed_regions.proofs.Openings.{Shown, lies, opened_by, shown}
use Rattle.vx_healed_regions.proofs.Sparing.{IsCalm, IsSafe, course_spares}

-- one list through two maps
zip_maps : {A B C : Type 0} (R : B → C → Type 0) (f : A → B) (g : A → C) (xs : List A) → ((x : A) → IsIn xs x → R (f x) (g x)) → AllZip R (map f xs) (map g xs)
zip_maps R f g [] each = tt
zip_maps R f g (x ∷ xs) each = (each x (inl refl), zip_maps R f g xs (λ y there. each y (inr there)))

-- what no copy marks the loaded one does not
unmarked_by : (image : Image) (copy : LogCopy) → Contains image.copies copy → (k r : ℕ) → possible_read image k r ≡ false → copy r k ≡ false
unmarked_by image copy one k r none = elim (true_or_false (copy r k)) [ inl marked ↦ not_both (any_from_one (λ (d : LogCopy). d r k) image.copies copy one marked) none | inr clear ↦ clear ]

module _ {P : Type 0} {ghosts : Ghosts P} (c : Config) (good : ℕ) (v : Vol) (numbers : List ℕ) (old new : Public P ghosts) (running after : Running P ghosts) (result : Result Healed IoFault)
    (is : IsHealedBy ghosts.seen c good v numbers old new running after result) (before behind : Sectors) (around : AreSectorsAround ghosts.seen good numbers old after before behind) where
  abbrev pub was : VolumeSeen
  was = volume_seen ghosts.seen running.volume

  abbrev pub now : VolumeSeen
  now = volume_seen ghosts.seen after.volume

  abbrev pub image : Image
  image = image_of c good before v

  abbrev pub loaded : Shown c good v numbers old new running is.of is.state is.form is.started around.contents around.held before around.were
  loaded = shown c good v numbers old new running is.of is.state is.form is.started around.contents around.held before around.were

  pub opened : IsOpenedBy c good before v running.form loaded.copy was
  opened = opened_by c good v numbers old new running is.of is.state is.form is.started around.contents around.held before around.were

  -- the devices tell what they hold
  pub told : AreTold was
  told = (opened_is_over c good before v running.form loaded.copy was opened loaded.one loaded.told (volume_read [] image)).told

  -- the regions are those of the image
  pub count_is : length was.cells ≡ regions_of image
  count_is =
      is.started.whole.count
      ∙ ap (λ n. region_count n was.region) (is.started.opened.length_is ∙ is.form.shape_is.length_is)
      ∙ ap (λ n. region_count v.len n) (is.started.opened.region_is ∙ is.form.shape_is.region_is)

  abbrev fixed_at : ℕ → Fixed
  fixed_at r = record { held = holds (cell_at was r).plexes; copies = 0; base = λ m b. []; first = λ b. OneOf []; region = r; from = 0 }

  stays : Stays was now
  stays = heals_stays was now result is.heals

  goes : RegionsGoOn was now fixed_at (λ r. []) (λ r. [])
  goes = heals_goes fixed_at (λ r. []) was now result is.heals is.started.whole told

  -- ---- a region

  module _ (r : ℕ) (low : r < length was.cells) where
    -- a safe plex has the blocks that it had
    same_blocks : (k : ℕ) → IsSafe k (cell_at was r).stage (cell_at was r).stage.phase → (b : ℕ) →
        blocks_of (cell_at now r).start (cell_at now r).size (cell_at now r).plexes k b ≡ blocks_of (cell_at was r).start (cell_at was r).size (cell_at was r).plexes k b
    same_blocks k safe b =
        let on = goes.each r low in
        let s : RegionState = state_of (region_at was r) (fixed_at r) [] NoCall (cell_at was r).number in
        let drawn : (region_after on.course s).around.last ≡ (cell_at was r).number = ap (λ (x : RegionState). x.around.last) on.ends ∙ stays.numbers r in
        sym (ap (λ (x : RegionState). x.around.disks.blocks k b) on.ends) ∙ course_spares k b on.course s (is.started.whole.each r low).whole.formed on.fits (omega (arith, drawn)) safe

    abbrev fixed : Fixed
    fixed = (opened_is c good before v running.form loaded.copy was opened (λ b. OneOf []) r low).0

    -- it was opened as the image
    pub as_image : IsOpened image loaded.copy (λ b. OneOf []) r (state_of (region_at was r) fixed [] NoCall (cell_at was r).number)
    as_image = (opened_is c good before v running.form loaded.copy was opened (λ b. OneOf []) r low).1

    -- where no copy marks it dirty, nor the plex, the plex is safe
    clean_safe : (k : ℕ) → dirty_read image r ≡ false → possible_read image k r ≡ false → IsSafe k (cell_at was r).stage (cell_at was r).stage.phase
    clean_safe k clean unmarked =
        let phase = as_image.phase ∙ ap (λ (b : Bool). cond b Unsettled Settled) (unmarked_by image loaded.copy loaded.one 30 r clean) in
        inr (subst IsCalm (sym phase) tt, as_image.bits k ∙ unmarked_by image loaded.copy loaded.one k r unmarked)

  -- ---- a plex

  lies_now : LiesIn ghosts.seen numbers running.form after.volume
  lies_now = lies_on numbers running.form running.volume after.volume (lies c good v numbers old new running is.of is.state is.form is.started) stays.places is.follows

  module _ (x : Plex) (there : IsIn c.plexes x) (own : is_data_plex_of v.name x ≡ true) where
    abbrev p : PlexImage
    p = plex_image c good before x

    one : Contains image.plexes p
    one = in_image c good before v x there own

    module _ (held : is_held c good x ≡ true) (b : ℕ) (lt : b < v.len) where
      abbrev r : ℕ
      r = b / v.region

      sized : 0 < v.region
      sized = (well_formed c good before v is.of).region

      inside : r < regions_of image
      inside = below_count b v.len v.region sized lt

      low : r < length was.cells
      low = let e = count_is in let h = inside in omega (arith, e, h)

      -- what it held is what its region had
      value_was : plex_contents c before x b ≡ blocks_of (cell_at was r).start (cell_at was r).size (cell_at was r).plexes p.map b
      value_was =
          let here : is_block_of image r b ≡ true = and_from _ _ (lt-ltb r (regions_of image) inside) (and_from (nat_lt b v.len) (b / v.region == r) (lt-ltb b v.len lt) (eq-eqb (b / v.region) r refl)) in
          sym ((as_image r low).values p one held b ∙ ap (λ (t : Bool). cond t (p.values b) []) here)

      -- what it holds is what that has now
      value_now : plex_contents c behind x b ≡ blocks_of (cell_at now r).start (cell_at now r).size (cell_at now r).plexes p.map b
      value_now =
          let copies = log_copies ghosts.seen (log_of after.volume) in
          let kept = volume_kept c good v in
          let long : now.length ≡ v.len = lies_now.lies.length_is ∙ is.form.shape_is.length_is in
          let size : now.region ≡ v.region = lies_now.lies.region_is ∙ is.form.shape_is.region_is in
          let many = stays.places.count in
          let under : r < length now.cells = let h = low in omega (arith, many, h) in
          let some = sized in
          let been : HasBeen c good v false running.form is.of is.form numbers now copies is.whole lies_now.lies c good v kept x =
          has_been c good v false running.form is.of is.form numbers now copies is.whole lies_now.lies c good v kept x there own in
          block_now c good v false running.form is.of is.form numbers now copies is.whole lies_now.lies c good v kept r under around.contents' around.held' behind around.are x been held b
          (omega (arith, size, some)) (omega (arith, long, lt)) (ap (λ n. b / n) size)

      same_value : IsSafe p.map (cell_at was r).stage (cell_at was r).stage.phase → plex_contents c behind x b ≡ plex_contents c before x b
      same_value safe = value_now ∙ same_blocks r low p.map safe b ∙ sym value_was

    plex_spared : IsSpared image p (plex_image c good behind x)
    plex_spared = record {
      same = refl;
      away = λ held off b lt. same_value held b lt (inl ((as_image (r held b lt) (low held b lt)).on p one ∙ off));
      values = λ held b lt clean unmarked. same_value held b lt (clean_safe (r held b lt) (low held b lt) p.map clean unmarked);
    }

  pub healing_spares : AllZip (IsSpared image) image.plexes (image_of c good behind v).plexes
  healing_spares =
      zip_maps (IsSpared image) (plex_image c good before) (plex_image c good behind) (filter (is_data_plex_of v.name) c.plexes)
      (λ x there. let w = filtered (is_data_plex_of v.name) c.plexes x there in plex_spared x w.0 w.1)
