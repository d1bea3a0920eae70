-- A volume that was healed is, by its log and by what its pieces hold, one that is opened over the bytes that it leaves: so it begins to run over them.
use Rattle.std.proofs.Common.{◌≡◌, ◌∙◌, ℕ, zero, suc, ◌≤◌, ◌<◌, ◌-◌, ◌*◌, min, Bool, true, false, cond, inl, inr, refl, sym, ap, subst, arith, List, [], ◌∷◌, length, Option, Some, None, Ok}
use Rattle.std.specs.Prelude.{Contains, is_some, nat_lt}
use Rattle.std.specs.List.{All}
use Rattle.std.proofs.lemmas.Bool.{false≢true, ltb-true}
use Rattle.std.proofs.lemmas.List.{length-map}
use Rattle.vx_base.specs.Blocks.{Contents}
use Rattle.vx_base.specs.Named.{Word}
use Rattle.vx_block.specs.Regions.{region_count}
use Rattle.vx_block.specs.declared.geometry.Geometry.{Geometry}
use Rattle.vx_mask.specs.Mask.{has}
use Rattle.vx_mask.specs.Marks.{Marks}
use Rattle.vx_mask.proofs.Tests.{true_or_false}
use Rattle.vx_core.specs.declared.stage.Phase.{Phase}
use Rattle.vx_core.specs.declared.stage.Phase.TheVariants.{Dead, Settled, Unsettled}
use Rattle.vx_core.specs.declared.stage.Stage.{Stage}
use Rattle.vx_piece.specs.Seen.{Seen}
use Rattle.vx_carve.specs.Together.{Holds}
use Rattle.vx_marks.specs.Log.{LogSeen}
use Rattle.vx_maps.specs.Loading.{AreClaims}
use Rattle.vx_cell.specs.Changes.{CellSeen}
use Rattle.vx_cell.specs.Plexes.{AllTell, PlexSeen}
use Rattle.vx_cell.specs.Region.{IsWhole as IsWholeRegion, Tells, marks_or}
use Rattle.vx_pages.specs.Items.{item_at}
use Rattle.vx_pages.specs.declared.local_piece.LocalPiece.{Ghosts}
use Rattle.vx_config_parts.specs.declared.vol.Vol.{Vol}
use Rattle.vx_objects.specs.declared.config.Config.{Config}
use Rattle.vx_image.specs.Bytes.{Sectors, image_of}
use Rattle.vx_image.specs.Image.{Image, LogCopy, PlexImage}
use Rattle.vx_image.specs.Soundness.{IsSoundImage}
use Rattle.vx_image.proofs.Members.{is_in}
use Rattle.vx_lending.specs.Left.{region_plexes}
use Rattle.vx_lending.specs.Logs.{IsLoadedLog, log_copies, log_header}
use Rattle.vx_lending.specs.Pieces.{copy_pieces}
use Rattle.vx_lending.specs.RegionPieces.{all_pieces, pieces_of}
use Rattle.vx_lending.specs.declared.form.VolumeForm.{VolumeForm}
use Rattle.vx_lending.specs.declared.public.Public.{Public}
use Rattle.vx_lending.specs.declared.public.Running.{Running}
use Rattle.vx_moments.specs.Tracks.{TrackOwner, unsure}
use Rattle.vx_moments.specs.Volumes.{volume_read}
use Rattle.vx_moments.specs.World.{Volume}
use Rattle.vx_moments.proofs.VolumesRead.{each_volume_read_stands}
use Rattle.vx_volume.specs.declared.log.VolumeLog.{VolumeLog}
use Rattle.vx_volume.specs.declared.log.VolumeLog.TheVariants.{Absent, Maps}
use Rattle.vx_volume.specs.declared.volume.VolumeShape.{VolumeShape}
use Rattle.vx_volume.specs.Laws.{AreTold, RegionsGoOn}
use Rattle.vx_volume.specs.Log.{log_seen}
use Rattle.vx_volume.specs.Opening.{HasCurrent, IsOpened, IsOpenedCell, count_of, size_of, stage_of}
use Rattle.vx_volume.specs.Volume.{IsVolume, VolumeSeen, cell_at, log_of, no_cell, region_at, volume_seen}
use Rattle.vx_volume_laws.specs.Contents.{ShowsCopy}
use Rattle.vx_volume_laws.specs.Exact.{IsExactVolume}
use Rattle.vx_volume_laws.specs.Leaving.{EachRunningForgets}
use Rattle.vx_volume_laws.specs.Lying.{LiesAs}
use Rattle.vx_volume_laws.specs.Opened.{IsOpenedBy}
use Rattle.vx_volume_laws.specs.RunLaws.{OwnersFit}
use Rattle.vx_volume_laws.specs.Running.{IsSureOfOthers, RunsAsVolume}
use Rattle.vx_volume_laws.specs.Starting.{EachOpeningRuns}
use Rattle.vx_volume_laws.proofs.Configurations.{volume_kept}
use Rattle.vx_volume_laws.proofs.LeftCopies.{copy_now}
use Rattle.vx_volume_laws.proofs.LeftOpenings.{opened_is_over}
use Rattle.vx_volume_laws.proofs.Loaded.{absent_shows, all_tell, run_tells}
use Rattle.vx_volume_laws.proofs.OpenedImages.{well_formed}
use Rattle.vx_volume_laws.proofs.Spots.{all_left, all_right}
use Rattle.vx_group_recover.specs.Laws.{EachHealingHeals, IsWhole}
use Rattle.vx_group_recover.specs.declared.healing.Healed.{Healed}
use Rattle.vx_group_start.specs.Logs.{IsLogOf}
use Rattle.vx_group_volumes.specs.Runs.{RunsIn}
use Rattle.vx_group_volumes.proofs.Rests.{same_map}
use Rattle.vx_group_volumes.proofs.Starts.{loaded_exact}
use Rattle.vx_healed_volumes.specs.Healed.{AreSectorsAround, IsHealedBy}
use Rattle.vx_healed_volumes.proofs.HealedVolumes.{healed_runs, not_fresh, was_filled}
use Rattle.vx_healed_volumes.proofs.HealingRuns.{healing_keeps}
use Rattle.vx_healed_volumes.proofs.LeftHeads.{loaded_headed, some_copy, still_headed}
use Rattle.vx_stage_recovery.proofs.Bare.{bare_fixed}
use Rattle.vx_stage_recovery.proofs.HealExact.{healed_exact, healed_goes, healed_quiet}

-- ---- what is told as a volume is opened

own_region : (Q : Seen → Type 0) (regions : List (List PlexSeen)) (r : ℕ) → All Q (all_pieces regions) → r < length regions → All Q (pieces_of (item_at [] regions r))
own_region Q [] r all lt = absurd (omega (arith, lt))
own_region Q (x ∷ xs) zero all lt = all_left Q (pieces_of x) (all_pieces xs) all
own_region Q (x ∷ xs) (suc r) all lt = own_region Q xs r (all_right Q (pieces_of x) (all_pieces xs) all) (omega (arith, lt))

plexes_tell : (contents : ℕ → Contents) (ps : List PlexSeen) → All (Holds contents) (pieces_of ps) → AllTell ps
plexes_tell contents [] all = tt
plexes_tell contents (p ∷ ps) all = (run_tells contents p.pieces (all_left (Holds contents) p.pieces (pieces_of ps) all), plexes_tell contents ps (all_right (Holds contents) p.pieces (pieces_of ps) all))

claims_tell : (copies : ℕ) (claims : ℕ → ℕ → Bool) (told : Option (ℕ → Marks)) → AreClaims copies claims told → Tells told
claims_tell copies claims None are = are
claims_tell copies claims (Some marks) are = tt

log_tells : {P : Type 0} {ghosts : Ghosts P} (geometry : Geometry) (contents : ℕ → Contents) (old : List (List Seen)) (log : VolumeLog P ghosts) → IsLoadedLog ghosts.seen geometry old log → All (λ copy. All (Holds contents) copy) old →
    Tells (log_seen ghosts.seen log).told
log_tells geometry contents old Absent is hold = tt
log_tells geometry contents old (Maps store) is hold = claims_tell _ _ _ (is.1.told (all_tell contents old hold))

-- where there is no log no mark is loose
none_loose : {P : Type 0} {ghosts : Ghosts P} (log : VolumeLog P ghosts) → (log_seen ghosts.seen log).there ≡ false → (r k : ℕ) → (marks_or (log_seen ghosts.seen log).told r).loose k ≡ false
none_loose Absent none r k = refl
none_loose (Maps store) none r k = absurd (false≢true (sym none))

no_dco : {X : Type 0} (o : Option X) → is_some o ≡ false → o ≡ None
no_dco None is = refl
no_dco (Some x) is = absurd (false≢true (sym is))

-- the plexes of a cell
own_plexes : (cells : List CellSeen) (r : ℕ) → r < length cells → item_at [] (region_plexes cells) r ≡ (item_at no_cell cells r).plexes
own_plexes [] r lt = absurd (omega (arith, lt))
own_plexes (c ∷ cells) zero lt = refl
own_plexes (c ∷ cells) (suc r) lt = own_plexes cells r (omega (arith, lt))

none_below : (n m : ℕ) → n ≤ m → m ≡ 0 → n ≡ 0
none_below n m le none = omega (arith, le, none)

module _ {P : Type 0} {ghosts : Ghosts P} (c : Config) (good : ℕ) (v : Vol) (numbers : List ℕ) (old new : Public P ghosts) (running after : Running P ghosts) (healed : Healed)
    (is : IsHealedBy ghosts.seen c good v numbers old new running after (Ok healed)) (heals : EachHealingHeals) (before behind : Sectors) (around : AreSectorsAround ghosts.seen good numbers old after before behind) where
  abbrev opened : VolumeSeen
  opened = volume_seen ghosts.seen running.volume

  abbrev pub volume : VolumeSeen
  volume = volume_seen ghosts.seen after.volume

  abbrev shape : VolumeShape
  shape = running.form.shape

  abbrev copies : List (List Seen)
  copies = log_copies ghosts.seen (log_of after.volume)

  abbrev pub image : Image
  image = image_of c good behind v

  runs : RunsIn ghosts.seen c good numbers v after
  runs = healed_runs c good v numbers old new running after (Ok healed) is

  lies : LiesAs numbers running.form volume copies
  lies = subst (λ (form : VolumeForm). LiesAs numbers form volume copies) is.form_is runs.lies.lies

  some : 0 < count_of shape
  some = subst (λ (form : VolumeForm). 0 < count_of form.shape) is.form_is runs.lies.some

  whole : IsWhole volume
  whole = (heals opened volume healed is.heals).1

  long : length volume.cells ≡ count_of shape
  long = is.whole.count ∙ ap (λ (n : ℕ). region_count n volume.region) lies.length_is ∙ ap (λ (n : ℕ). region_count shape.geometry.length n) lies.region_is

  -- ---- as it was opened

  loaded : IsLoadedLog ghosts.seen shape.geometry is.started.log.copies (log_of running.volume)
  loaded = subst (λ (b : Bool). IsLogOf ghosts.seen b shape is.started.log.copies (log_of running.volume)) (not_fresh v.state is.state) is.started.log.log_is

  inside : (r : ℕ) → r < length opened.cells → r < length is.started.regions
  inside r lt = subst (λ (n : ℕ). r < n) is.started.opened.cells.count lt

  opened_told : AreTold opened
  opened_told r lt =
      let cell = is.started.opened.cells.each r (inside r lt) in (
        subst AllTell (sym (ap (λ (x : CellSeen). x.plexes) cell.is))
            (plexes_tell around.contents (item_at [] is.started.regions r) (own_region (Holds around.contents) is.started.regions r (is.started.hold around.contents around.held).0 (inside r lt))),
        log_tells shape.geometry around.contents is.started.log.copies (log_of running.volume) loaded (is.started.log.are.hold around.contents around.held),
      )

  -- ---- as it is healed

  goes : RegionsGoOn opened volume (λ r. bare_fixed (λ k. false) 0 r 0) (λ r. []) (λ r. [])
  goes = healed_goes opened is.started.whole opened_told (λ r. bare_fixed (λ k. false) 0 r 0) (λ r. []) volume healed is.heals

  before_lt : (r : ℕ) → r < length volume.cells → r < length opened.cells
  before_lt r lt = subst (λ (n : ℕ). r < n) goes.count lt

  exact : IsExactVolume volume
  exact =
      healed_exact opened volume healed is.heals is.started.whole is.whole opened_told
      (loaded_exact c good v numbers old new running is.of (was_filled v.state is.state) is.form is.started around.contents around.held before around.were)

  -- no number was drawn
  none_drawn : volume.most ≡ 0
  none_drawn = healed_quiet opened volume healed is.heals ∙ is.started.opened.most

  number : (r : ℕ) → r < length volume.cells → (cell_at volume r).number ≡ 0
  number r lt = none_below (cell_at volume r).number volume.most (is.whole.each r lt).below none_drawn

  epoch : (r : ℕ) → r < length volume.cells → (cell_at volume r).epoch ≡ 0
  epoch r lt = (goes.each r (before_lt r lt)).stays.epoch ∙ ap (λ (x : CellSeen). x.epoch) (is.started.opened.cells.each r (inside r (before_lt r lt))).is

  alive : (r : ℕ) → r < length volume.cells → (cell_at volume r).stage.phase ≡ Dead → ⊥
  alive r lt dead = apart (cell_at volume r).stage.phase (whole.settled r lt) dead
    where
      apart : (phase : Phase) → phase ≡ Settled → phase ≡ Dead → ⊥
      apart phase e dead = (let no : Settled ≡ Dead = sym e ∙ dead in cc)

  -- ---- a copy of the image marks what its regions do

  abbrev bits_at : ℕ → ℕ → Bool
  bits_at r k = has (cell_at volume r).stage.bits k

  unlogged : nat_lt 0 (length copies) ≡ false → (r : ℕ) → r < length volume.cells → (k : ℕ) → bits_at r k ≡ false
  unlogged none r lt k = ((is.whole.each r lt).whole.formed.stage.unlogged ((lies.masks r lt).logged_is ∙ lies.log.there ∙ none) k).2

  -- this one
  record Shown : Type 0 where
    pub copy : LogCopy
    pub one : Contains image.copies copy
    pub marks : (r k : ℕ) → r < length volume.cells → copy r k ≡ bits_at r k

  tells : Tells volume.log.told
  tells = (goes.told 0 (subst (λ (n : ℕ). 0 < n) (sym long) some)).1

  hold_copies : All (Holds around.contents') (copy_pieces copies)
  hold_copies = all_right (Holds around.contents') (all_pieces (region_plexes volume.cells)) (copy_pieces copies) around.held'

  logged_shown : nat_lt 0 (length copies) ≡ true → Shown
  logged_shown there =
      let headed = still_headed (log_header shape.geometry) (log_of running.volume) (log_of after.volume) is.follows (loaded_headed shape.geometry is.started.log.copies (log_of running.volume) loaded) in
      let x = some_copy c good v running.form is.form numbers (log_of after.volume) headed lies.logs around.contents' hold_copies behind around.are (ltb-true 0 (length copies) there) in
      record {
        copy = x.0;
        one = x.1;
        marks = elim (copy_now c good v false running.form is.form numbers copies lies.logs around.contents' hold_copies c good v (volume_kept c good v) behind around.are x.0 (is_in image.copies x.0 x.1)) [
          | inl nothing ↦ λ r k lt. nothing.clear r k ∙ sym (unlogged (ap (λ (n : ℕ). nat_lt 0 n) nothing.none) r lt k)
          | inr other ↦ λ r k lt.
              other.marks_are r k ∙ sym (lies.log.shows tells other.copy r k other.inside)
              ∙ (exact r other.copy lt (alive r lt) (subst (λ (n : ℕ). other.copy < n) (sym lies.log.count) other.inside)).shows k
        ];
      }

  plain_shown : nat_lt 0 (length copies) ≡ false → Shown
  plain_shown none =
      let away : is_some v.dco ≡ false = sym runs.logged ∙ ap (λ (form : VolumeForm). nat_lt 0 (length form.logs.items)) is.form_is ∙ ap (λ (n : ℕ). nat_lt 0 n) (sym lies.logs.long) ∙ none in
      let x = absent_shows c good behind v (no_dco v.dco away) (length volume.cells) in
      record { copy = x.0; one = x.1; marks = λ r k lt. sym (x.2.claims r k lt) ∙ sym (unlogged none r lt k) }

  shown : Shown
  shown = elim (true_or_false (nat_lt 0 (length copies))) [ inl there ↦ logged_shown there | inr none ↦ plain_shown none ]

  -- ---- it is as one that is opened, whose log claims what its regions have

  abbrev log : LogSeen
  log = record volume.log { claims = bits_at }

  abbrev like : VolumeSeen
  like = record volume { log = log }

  tight : (r k : ℕ) → r < length volume.cells → (marks_or volume.log.told r).loose k ≡ false
  tight r k lt = elim (true_or_false (nat_lt 0 (length copies))) [
    | inl there ↦ (exact r 0 lt (alive r lt) (subst (λ (n : ℕ). 0 < n) (sym lies.log.count) (ltb-true 0 (length copies) there))).tight k
    | inr none ↦ none_loose (log_of after.volume) (lies.log.there ∙ none) r k
  ]

  low : (r : ℕ) → r < count_of shape → r < length volume.cells
  low r lt = subst (λ (n : ℕ). r < n) (sym long) lt

  shows : ShowsCopy log shown.copy (count_of shape)
  shows = record {
    claims = λ r k lt. sym (shown.marks r k (low r lt));
    shows = λ r n k lt few. (exact r n (low r lt) (alive r (low r lt)) few).shows k ∙ sym (shown.marks r k (low r lt));
    tight = λ r k lt. tight r k (low r lt);
  }

  phase_is : (r : ℕ) → r < length volume.cells → (cell_at volume r).stage.phase ≡ cond (bits_at r 30) Unsettled Settled
  phase_is r lt = whole.settled r lt ∙ sym (ap (λ (b : Bool). cond b Unsettled Settled) (whole.clean r lt))

  module _ (r : ℕ) (lt : r < length volume.cells) where
    abbrev cell : CellSeen
    cell = cell_at volume r

    stage_is : cell.stage ≡ stage_of shape log.there cell.stage.bits
    stage_is =
        let masks = lies.masks r lt in
        ap (λ (n : ℕ). (let s : Stage = record cell.stage { on = n } in s)) masks.on
        ∙ ap (λ (n : ℕ). (let s : Stage = record cell.stage { on = shape.on; off = n } in s)) masks.off
        ∙ ap (λ (n : ℕ). (let s : Stage = record cell.stage { on = shape.on; off = shape.off; snaps = n } in s)) masks.snaps
        ∙ ap (λ (b : Bool). (let s : Stage = record cell.stage { on = shape.on; off = shape.off; snaps = shape.snaps; logged = b } in s)) masks.logged_is
        ∙ ap (λ (p : Phase). (let s : Stage = record cell.stage { on = shape.on; off = shape.off; snaps = shape.snaps; logged = log.there; phase = p } in s)) (phase_is r lt)

    abbrev with_stage : CellSeen
    with_stage = record cell { stage = stage_of shape log.there cell.stage.bits }

    size_is : cell.size ≡ size_of shape r
    size_is = subst (λ (n : ℕ). cell.size ≡ n) (same volume.length shape.geometry.length volume.region shape.geometry.region lies.length_is lies.region_is) (is.whole.each r lt).size
      where
        same : (n n' s s' : ℕ) → n ≡ n' → s ≡ s' → min s (n - r * s) ≡ min s' (n' - r * s')
        same n n' s s' e f = rw (e, f) refl

    opened_cell : IsOpenedCell shape log r (item_at [] (region_plexes volume.cells) r) cell
    opened_cell =
        let of = is.whole.each r lt in
        record {
          bits = cell.stage.bits;
          fits = of.whole.formed.stage.bits_fit;
          claimed = λ k. refl;
          is = ap (λ (s : Stage). (let x : CellSeen = record cell { stage = s } in x)) stage_is
              ∙ ap (λ (n : ℕ). (let x : CellSeen = record with_stage { region = n } in x)) of.index
              ∙ ap (λ (n : ℕ). (let x : CellSeen = record with_stage { region = r; start = n } in x)) (of.start ∙ ap (λ (n : ℕ). r * n) lies.region_is)
              ∙ ap (λ (n : ℕ). (let x : CellSeen = record with_stage { region = r; start = r * shape.geometry.region; size = n } in x)) size_is
              ∙ ap (λ (n : ℕ). (let x : CellSeen = record with_stage { region = r; start = r * shape.geometry.region; size = size_of shape r; number = n } in x)) (number r lt)
              ∙ ap (λ (n : ℕ). (let x : CellSeen = record with_stage { region = r; start = r * shape.geometry.region; size = size_of shape r; number = 0; epoch = n } in x)) (epoch r lt)
              ∙ ap (λ (ps : List PlexSeen). (let x : CellSeen = record with_stage { region = r; start = r * shape.geometry.region; size = size_of shape r; number = 0; epoch = 0; plexes = ps } in x)) (sym (own_plexes volume.cells r lt));
        }

    current : HasCurrent shape log r
    current = let read = (is.whole.each r lt).whole.formed.readable in (read.0, ap (λ (n : ℕ). has n read.0) (sym (lies.masks r lt).on) ∙ read.1, read.2)

    whole_like : IsWholeRegion (region_at volume r) → IsWholeRegion (region_at like r)
    whole_like w = record {
      formed = w.formed;
      differ = w.differ;
      cover = w.cover;
      some = w.some;
      fits = w.fits;
      logged = λ on. (let l = w.logged on in record { there = l.there; known = l.known; maps = l.maps; dirty = l.dirty });
    }

  same_long : length (region_plexes volume.cells) ≡ length volume.cells
  same_long = length-map volume.cells (λ (x : CellSeen). x.plexes)

  of_cells : (r : ℕ) → r < length (region_plexes volume.cells) → r < length volume.cells
  of_cells r lt = subst (λ (n : ℕ). r < n) same_long lt

  is_opened : IsOpened shape log (region_plexes volume.cells) like
  is_opened = record {
    length_is = lies.length_is;
    region_is = lies.region_is;
    cells = record { count = sym same_long; each = λ r lt. opened_cell r (of_cells r lt) };
    readable = λ r lt. current r (of_cells r lt);
    log_is = refl;
    most = none_drawn;
  }

  is_volume : IsVolume like
  is_volume = record {
    count = is.whole.count;
    each = λ r lt. (let of = is.whole.each r lt in record { index = of.index; start = of.start; size = of.size; idle = of.idle; whole = whole_like r lt of.whole; below = of.below });
    own = is.whole.own;
    scratch = is.whole.scratch;
  }

  opened_by : IsOpenedBy c good behind v running.form shown.copy like
  opened_by = record {
    of = is.of;
    fresh = false;
    form_is = is.form;
    numbers = numbers;
    contents = around.contents';
    sectors = around.are;
    regions = region_plexes volume.cells;
    long = same_long ∙ long;
    taken = lies.regions;
    hold = all_left (Holds around.contents') (all_pieces (region_plexes volume.cells)) (copy_pieces copies) around.held';
    log = log;
    shows = shows;
    opened = is_opened;
    whole = is_volume;
  }

  -- ---- so it runs

  as_it_is : (ps : List PlexImage) (w : Volume) → RunsAsVolume ps like w → RunsAsVolume ps volume w
  as_it_is ps w run = record {
    fixed = run.fixed;
    some = run.some;
    sized = run.sized;
    length_is = run.length_is;
    region_is = run.region_is;
    epoch = run.epoch;
    told = run.told;
    held = run.held;
    copies = run.copies;
    each = run.each;
  }

  reads : EachOpeningRuns → IsSoundImage image → (plexes : List Word) → RunsAsVolume image.plexes volume (volume_read plexes image)
  reads law sound plexes =
      as_it_is image.plexes (volume_read plexes image)
      (law image like (volume_read plexes image) is_volume
      (opened_is_over c good behind v running.form shown.copy like opened_by shown.one tells (volume_read plexes image))
      (each_volume_read_stands plexes image sound)
      (record { length_is = refl; region_is = refl; life = refl; began = refl })
      (was_filled v.state is.state)
      (well_formed c good behind v is.of))

  -- where nothing is sure of plexes that are written to, and with a log that is exact
  pub healed_begins : EachOpeningRuns → EachRunningForgets → IsSoundImage image → (plexes : List Word) (owners : Word → TrackOwner) → OwnersFit image.plexes volume owners →
      RunsAsVolume image.plexes volume (unsure owners (volume_read plexes image)) × IsSureOfOthers image.plexes volume (unsure owners (volume_read plexes image)) × IsExactVolume volume
  healed_begins law forgets sound plexes owners fit =
      let runs' = forgets image.plexes volume (volume_read plexes image) (reads law sound plexes) owners fit in
      (runs'.0, runs'.1, exact)

  -- the owners that fitted as it was opened fit it still
  pub still_fit : (ps : List PlexImage) (owners : Word → TrackOwner) → OwnersFit ps opened owners → OwnersFit ps volume owners
  still_fit ps owners fit p there r lt =
      same_map (cell_at opened r).stage (cell_at volume r).stage ((healing_keeps opened volume (Ok healed) is.heals).places.masks r (before_lt r lt)) p.map (owners p.name) (fit p there r (before_lt r lt))
