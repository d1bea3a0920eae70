-- A volume that was healed: the image that it leaves is whole.
use Rattle.std.proofs.Common.{◌≡◌, ◌∙◌, ℕ, zero, suc, ◌<◌, Bool, true, false, not, List, [], ◌∷◌, length, Option, Some, None, Result, Ok, refl, sym, ap, subst, inl, inr, arith}
use Rattle.std.specs.Prelude.{◌&&◌, ◌||◌, ◌==◌, Contains, is_some, nat_lt}
use Rattle.std.specs.List.{list_all, list_any}
use Rattle.std.proofs.lemmas.Bool.{and_parts, eqb-true, false≢true, ltb-true}
use Rattle.vx_base.specs.Named.{Word}
use Rattle.vx_block.specs.Regions.{region_count}
use Rattle.vx_mask.specs.Mask.{has}
use Rattle.vx_mask.proofs.Tests.{true_or_false}
use Rattle.vx_core.specs.declared.stage.Phase.TheVariants.{Dead, Settled}
use Rattle.vx_marks.specs.Log.{LogSeen}
use Rattle.vx_cell.specs.Changes.{CellSeen}
use Rattle.vx_piece.specs.Seen.{Seen}
use Rattle.vx_pages.specs.Items.{item_at}
use Rattle.vx_pages.specs.declared.local_piece.LocalPiece.{Ghosts}
use Rattle.vx_config_parts.specs.declared.vol.Vol.{Vol}
use Rattle.vx_objects.specs.declared.config.Config.{Config}
use Rattle.vx_image.specs.Bytes.{Sectors, image_of, log_copies as image_copies, map_or_zero}
use Rattle.vx_image.specs.Image.{Image, LogCopy, PlexImage, has_no_copy, is_available, regions_of}
use Rattle.vx_image.specs.Meaning.{possible_read}
use Rattle.vx_image.specs.Soundness.{IsSoundImage}
use Rattle.vx_image.specs.UsedPlexes.{is_on}
use Rattle.vx_image.proofs.Members.{any_from_one}
use Rattle.vx_lending.specs.Left.{region_plexes}
use Rattle.vx_lending.specs.Logs.{IsLoadedLog, log_copies, log_header}
use Rattle.vx_lending.specs.Pieces.{copy_pieces}
use Rattle.vx_lending.specs.RegionPieces.{all_pieces}
use Rattle.vx_lending.specs.Taken.{log_sectors}
use Rattle.vx_lending.specs.declared.form.VolumeForm.{VolumeForm}
use Rattle.vx_lending.specs.declared.public.Public.{Public}
use Rattle.vx_lending.specs.declared.public.Running.{Running}
use Rattle.vx_lending.proofs.Bits.{into_on}
use Rattle.vx_lending.proofs.Rules.{plex_low}
use Rattle.vx_moments.specs.Tracks.{TrackOwner}
use Rattle.vx_moments.specs.Volumes.{volume_read}
use Rattle.vx_moments.specs.World.{Volume}
use Rattle.vx_carve.specs.Together.{Holds}
use Rattle.vx_volume.specs.declared.fault.IoFault.{IoFault}
use Rattle.vx_volume.specs.Log.{log_seen}
use Rattle.vx_volume.specs.Volume.{VolumeSeen, cell_at, log_of, no_cell, volume_seen}
use Rattle.vx_volume_laws.specs.Exact.{IsExactVolume}
use Rattle.vx_volume_laws.specs.Leaving.{EachRunningForgets, IsLeftBy}
use Rattle.vx_volume_laws.specs.RunLaws.{FailuresAreTold, OwnersFit}
use Rattle.vx_volume_laws.specs.Running.{RunsAsVolume}
use Rattle.vx_volume_laws.specs.Starting.{EachOpeningRuns}
use Rattle.vx_volume_laws.proofs.Held.{of_image}
use Rattle.vx_volume_laws.proofs.Spots.{all_right}
use Rattle.vx_volume_laws.specs.Places.{LieOnLogs}
use Rattle.vx_group_start.specs.Logs.{IsLogOf}
use Rattle.vx_group_stop.specs.Stops.{AreMarked}
use Rattle.vx_group_volumes.specs.Runs.{RunsIn}
use Rattle.vx_group_volumes.proofs.Starts.{loaded_exact, loaded_runs}
use Rattle.vx_group_recover.specs.Laws.{EachHealingHeals, IsWhole}
use Rattle.vx_group_recover.specs.declared.healing.Healed.{Healed}
use Rattle.vx_healed_volumes.specs.Healed.{AreSectorsAround, IsHealedBy}
use Rattle.vx_healed_volumes.specs.Laws.{EachHealedVolumeIsWhole, EachHealingRunsOn}
use Rattle.vx_healed_volumes.specs.Whole.{IsWholeImage}
use Rattle.vx_healed_volumes.proofs.HealedVolumes.{healed_runs, later, left, not_fresh, on, was_filled}
use Rattle.vx_healed_volumes.proofs.ExactHealings.{healed_exact}
use Rattle.vx_healed_volumes.proofs.LeftHeads.{loaded_headed, some_copy, still_headed}
use Rattle.vx_healed_volumes.proofs.LeftMarks.{logged_mark, seen_mark}

-- ---- cells that pass a test

any_at : (p : CellSeen → Bool) (cells : List CellSeen) (r : ℕ) → r < length cells → p (item_at no_cell cells r) ≡ true → list_any p cells ≡ true
any_at p [] r lt is = absurd (omega (arith, lt))
any_at p (c ∷ cells) zero lt is = rw is refl
any_at p (c ∷ cells) (suc r) lt is = by (p c) (any_at p cells r (omega (arith, lt)) is)
  where
    by : (b : Bool) → list_any p cells ≡ true → (b || list_any p cells) ≡ true
    by true more = refl
    by false more = more

or_rest : (a b : Bool) → a ≡ false → (a || b) ≡ true → b ≡ true
or_rest true b none any = cc
or_rest false b none any = any

one_at : (p : CellSeen → Bool) (cells : List CellSeen) → list_any p cells ≡ true → (r : ℕ) × (r < length cells) × (p (item_at no_cell cells r) ≡ true)
one_at p [] any = absurd (false≢true any)
one_at p (c ∷ cells) any = elim (true_or_false (p c)) [
  | inl is ↦ (0, omega arith, is)
  | inr none ↦ let r = one_at p cells (or_rest (p c) (list_any p cells) none any) in let lt = r.1 in (suc r.0, omega (arith, lt), r.2)
]

-- ---- copies

-- where every copy marks a map, and there is one, some copy does
all_some : (copies : List LogCopy) (k r : ℕ) → (not (length copies == 0) && list_all (λ (c : LogCopy). c r k) copies) ≡ true → list_any (λ (c : LogCopy). c r k) copies ≡ true
all_some [] k r all = absurd (false≢true all)
all_some (c ∷ cs) k r all =
    let both = and_parts (not (length (c ∷ cs) == 0)) (list_all (λ (x : LogCopy). x r k) (c ∷ cs)) all in
    any_from_one (λ (x : LogCopy). x r k) (c ∷ cs) c (0, omega arith, refl) (and_parts (c r k) (list_all (λ (x : LogCopy). x r k) cs) both.1).0

-- there is one, if not none
one_of : (copies : List LogCopy) → (length copies == 0) ≡ false → (c : LogCopy) × Contains copies c
one_of [] some = absurd (false≢true (sym some))
one_of (c ∷ cs) some = (c, (0, omega arith, refl))

not_none : (copies : List LogCopy) (c : LogCopy) → Contains copies c → (length copies == 0) ≡ false
not_none copies c (k, lt, at) = by (length copies == 0) refl
  where
    by : (b : Bool) → (length copies == 0) ≡ b → (length copies == 0) ≡ false
    by true e = let none = eqb-true (length copies) 0 e in absurd (omega (arith, none, lt))
    by false e = e

-- without a DCO one counts
plain_copy : (dco : Option Word) (c : Config) (good : ℕ) (bytes : Sectors) (v : Vol) → is_some dco ≡ false → (length (image_copies dco c good bytes v) == 0) ≡ false
plain_copy None c good bytes v none = refl
plain_copy (Some d) c good bytes v none = absurd (false≢true (sym none))

-- ---- that a copy counts

module _ {P : Type 0} {ghosts : Ghosts P} (c : Config) (good : ℕ) (v : Vol) (numbers : List ℕ) (old new : Public P ghosts) (running after : Running P ghosts) (result : Result Healed IoFault)
    (is : IsHealedBy ghosts.seen c good v numbers old new running after result)
    (before behind : Sectors) (around : AreSectorsAround ghosts.seen good numbers old after before behind) where
  lies_now : RunsIn ghosts.seen c good numbers v after
  lies_now = healed_runs c good v numbers old new running after result is

  abbrev copies : List (List Seen)
  copies = log_copies ghosts.seen (log_of after.volume)

  logs : LieOnLogs numbers running.form.logs.items (log_sectors running.form.shape.geometry) copies
  logs = subst (λ (form : VolumeForm). LieOnLogs numbers form.logs.items (log_sectors form.shape.geometry) copies) is.form_is lies_now.lies.lies.logs

  loaded : IsLoadedLog ghosts.seen running.form.shape.geometry is.started.log.copies (log_of running.volume)
  loaded = subst (λ (b : Bool). IsLogOf ghosts.seen b running.form.shape is.started.log.copies (log_of running.volume)) (not_fresh v.state is.state) is.started.log.log_is

  copy_counts : has_no_copy (image_of c good behind v) ≡ false
  copy_counts = elim (true_or_false (nat_lt 0 (length copies))) [
    | inl there ↦
        let x = some_copy c good v running.form is.form numbers (log_of after.volume)
        (still_headed (log_header running.form.shape.geometry) (log_of running.volume) (log_of after.volume) is.follows (loaded_headed running.form.shape.geometry is.started.log.copies (log_of running.volume) loaded))
        logs around.contents' (all_right (Holds around.contents') (all_pieces (region_plexes (volume_seen ghosts.seen after.volume).cells)) (copy_pieces copies) around.held') behind around.are
        (ltb-true 0 (length copies) there) in
        not_none (image_of c good behind v).copies x.0 x.1
    | inr away ↦ plain_copy v.dco c good behind v (sym lies_now.logged ∙ ap (λ (n : ℕ). nat_lt 0 n) (sym lies_now.lies.lies.logs.long) ∙ away)
  ]

-- ---- the volume that was healed

module _ {P : Type 0} {ghosts : Ghosts P} (c : Config) (good : ℕ) (v : Vol) (numbers : List ℕ) (old new : Public P ghosts) (running after : Running P ghosts) (healed : Healed)
    (is : IsHealedBy ghosts.seen c good v numbers old new running after (Ok healed)) (opening : EachOpeningRuns) (forgets : EachRunningForgets) (healing : EachHealingRunsOn)
    (before behind : Sectors) (around : AreSectorsAround ghosts.seen good numbers old after before behind) (sound : IsSoundImage (image_of c good before v)) (owners : Word → TrackOwner) (failed : Word → Bool)
    (fit : OwnersFit (image_of c good before v).plexes (volume_seen ghosts.seen running.volume) owners)
    (told : FailuresAreTold (image_of c good before v).plexes owners failed (volume_seen ghosts.seen running.volume) (volume_seen ghosts.seen after.volume)) where
  abbrev volume : VolumeSeen
  volume = volume_seen ghosts.seen after.volume

  abbrev log : LogSeen
  log = log_seen ghosts.seen (log_of after.volume)

  abbrev images : List PlexImage
  images = (image_of c good before v).plexes

  abbrev image : Image
  image = image_of c good behind v

  abbrev world : Volume
  world = later c good v numbers old new running after (Ok healed) is opening forgets healing before behind around sound owners failed fit told []

  run : RunsAsVolume images volume world
  run = (on c good v numbers old new running after (Ok healed) is opening forgets healing before behind around sound owners failed fit told []).0

  leaves : IsLeftBy images volume world run image
  unfolding run
  leaves = left c good v numbers old new running after (Ok healed) is opening forgets healing before behind around sound owners failed fit told []

  runs : RunsIn ghosts.seen c good numbers v after
  runs = healed_runs c good v numbers old new running after (Ok healed) is

  -- its log was exact as it was opened, and is so still
  still_exact : IsExactVolume volume
  still_exact =
      healed_exact images (volume_read [] (image_of c good before v)) (volume_seen ghosts.seen running.volume) volume healed is.heals is.started.whole is.whole
      (loaded_runs c good v numbers old new running is.of (was_filled v.state is.state) is.form is.started around.contents around.held before around.were opening sound [])
      (loaded_exact c good v numbers old new running is.of (was_filled v.state is.state) is.form is.started around.contents around.held before around.were)

  counted : length volume.cells ≡ regions_of image
  counted = is.whole.count ∙ ap (λ (m : ℕ). region_count m volume.region) (sym leaves.length_is) ∙ ap (λ (m : ℕ). region_count image.length m) (sym leaves.region_is)

  inside : (r : ℕ) → r < regions_of image → r < length volume.cells
  inside r lt = subst (λ (n : ℕ). r < n) (sym counted) lt

  -- a plex that is available is on
  on_at : (p : PlexImage) → Contains image.plexes p → is_available p ≡ true → (r : ℕ) → r < length volume.cells → (p.map < 64) × (has (cell_at volume r).stage.on p.map ≡ true)
  on_at p one available r lt =
      let x = of_image c good behind v p one in
      let on : is_on c good x.plex ≡ true = subst (λ (y : PlexImage). is_available y ≡ true) x.is available in
      let low = plex_low c v is.of x.plex x.there x.of in
      let there : has running.form.shape.on (map_or_zero x.plex.map) ≡ true = is.form.shape_is.on.each (map_or_zero x.plex.map) ∙ into_on c good v x.plex x.there x.of on in
      let shape = ap (λ (form : VolumeForm). form.shape.on) is.form_is in
      let masks = runs.lies.lies.masks r lt in
      let small : map_or_zero x.plex.map < 64 = omega (arith, low) in (
        subst (λ (y : PlexImage). y.map < 64) (sym x.is) small,
        subst (λ (y : PlexImage). has (cell_at volume r).stage.on y.map ≡ true) (sym x.is) (ap (λ (m : ℕ). has m (map_or_zero x.plex.map)) (masks.on ∙ shape) ∙ there),
      )

  module _ (whole : IsWhole volume) (exact : IsExactVolume volume) where
    alive : (r : ℕ) → r < length volume.cells → (cell_at volume r).stage.phase ≡ Dead → ⊥
    alive r lt dead = apart (sym (whole.settled r lt)) dead
      where
        apart : Settled ≡ (cell_at volume r).stage.phase → (cell_at volume r).stage.phase ≡ Dead → ⊥
        apart e dead = cc

    -- what a copy of the image marks is marked in the region
    seen : (k r : ℕ) → r < regions_of image → possible_read image k r ≡ true → has (cell_at volume r).stage.bits k ≡ true
    seen k r lt marked = seen_mark images volume world is.whole run image leaves exact r (inside r lt) (alive r (inside r lt)) k marked

    unseen : (k r : ℕ) → r < regions_of image → has (cell_at volume r).stage.bits k ≡ false → possible_read image k r ≡ false
    unseen k r lt none = elim (true_or_false (possible_read image k r)) [
      | inl marked ↦ let bit = seen k r lt marked in cc
      | inr away ↦ away
    ]

    -- where a region is marked so is each copy that counts
    copy_marks : (x : LogCopy) → Contains image.copies x → (k r : ℕ) → r < length volume.cells → has (cell_at volume r).stage.bits k ≡ true → possible_read image k r ≡ true
    copy_marks x there k r lt marked = elim (true_or_false (cell_at volume r).stage.logged) [
      | inl logged ↦ any_from_one (λ (y : LogCopy). y r k) image.copies x there (logged_mark images volume world is.whole run image leaves exact r lt (alive r lt) x there k logged ∙ marked)
      | inr plain ↦ absurd (false≢true (sym ((is.whole.each r lt).whole.formed.stage.unlogged plain k).2 ∙ marked))
    ]

    whole_image : (mask : ℕ) → AreMarked volume mask → IsWholeImage image mask
    whole_image mask marked = record {
      counts = copy_counts c good v numbers old new running after (Ok healed) is before behind around;
      clear = λ r lt. unseen 30 r lt (whole.clean r (inside r lt));
      whole = λ p one available r lt. let on = on_at p one available r (inside r lt) in unseen p.map r lt (whole.unmarked r p.map (inside r lt) on.0 on.1);
      sure = λ p one r lt sure.
          marked p.map ∙ any_at (λ (x : CellSeen). has x.stage.bits p.map) volume.cells r (inside r lt) (seen p.map r lt (all_some image.copies p.map r sure));
      possible = λ p one masked.
          let x = one_of image.copies (copy_counts c good v numbers old new running after (Ok healed) is before behind around) in
          let r = one_at (λ (x : CellSeen). has x.stage.bits p.map) volume.cells (sym (marked p.map) ∙ masked) in
          (r.0, subst (λ (n : ℕ). r.0 < n) counted r.1, copy_marks x.0 x.1 p.map r.0 r.1 r.2);
    }

pub healed_whole : {P : Type 0} {ghosts : Ghosts P} (old new : Public P ghosts) (running after : Running P ghosts) → EachOpeningRuns → EachRunningForgets → EachHealingRunsOn →
    EachHealingHeals → EachHealedVolumeIsWhole ghosts.seen old new running after
healed_whole {ghosts = ghosts} old new running after opening forgets healing heals c good v numbers healed is before behind around sound owners failed fit told =
    whole_image c good v numbers old new running after healed is opening forgets healing before behind around sound owners failed fit told
    (heals (volume_seen ghosts.seen running.volume) (volume_seen ghosts.seen after.volume) healed is.heals).1
    (still_exact c good v numbers old new running after healed is opening forgets healing before behind around sound owners failed fit told)
    healed.marks is.heals.marks_are
