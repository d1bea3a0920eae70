-- The form of a volume with new logs, by the next configuration of its group, and what `make` comes to with it.
use Rattle.std.proofs.Common.{◌≡◌, ◌∙◌, inl, inr, ℕ, ◌*◌, ◌/◌, ◌^◌, ◌<◌, ◌≤◌, Bool, true, false, cond, Option, Some, None, Ok, Err, List, [], ◌∷◌, length, map, refl, sym, ap, subst, arith}
use Rattle.std.specs.Prelude.{◌==◌, Contains, IsSomeAnd, slice_index_or}
use Rattle.std.specs.List.{All}
use Rattle.std.specs.Str.{bytes_eq}
use Rattle.std.proofs.lemmas.Bool.{false≢true}
use Rattle.std.proofs.lemmas.List.Elements.{All-head}
use Rattle.vx_base.specs.Named.{Word}
use Rattle.vx_base.proofs.NamedLemmas.{bytes_eq_same, bytes_eq_self}
use Rattle.vx_block.specs.Regions.{region_count}
use Rattle.vx_mask.specs.Mask.{above_lowest, has, lowest, only}
use Rattle.vx_mask.proofs.MaskLemmas.{empty_from_test, some_from_test, two, union-lt, without-le}
use Rattle.vx_mask.proofs.Sets.{union_cases}
use Rattle.vx_mapfmt.specs.Sizes.{map_bytes_of, plex_bytes_of}
use Rattle.vx_piece.specs.Seen.{Seen}
use Rattle.vx_pages.specs.declared.local_piece.LocalPiece.{Ghosts}
use Rattle.vx_layout.specs.Columns.{capacity}
use Rattle.vx_layout.specs.declared.layout.Layout.{Layout}
use Rattle.vx_carve.specs.Strips.{ArePlexes, EachStrip, HasNumber, IsFreeStrip}
use Rattle.vx_config_parts.specs.declared.object.Object.TheVariants.{VolRecord}
use Rattle.vx_config_parts.specs.declared.plex.Plex.{Plex}
use Rattle.vx_config_parts.specs.declared.vol.Vol.{Vol}
use Rattle.vx_config_parts.specs.Objects.{is_data_plex_of}
use Rattle.vx_rules.proofs.InOrder.{names_differ}
use Rattle.vx_objects.specs.declared.config.Config.{Config}
use Rattle.vx_objects.specs.Config.{objects_of}
use Rattle.vx_image.specs.Bytes.{map_or_zero}
use Rattle.vx_image.specs.UsedPlexes.{IsVolOf, is_used_log, used_logs}
use Rattle.vx_image.proofs.Members.{contains}
use Rattle.vx_image.proofs.PlexMembers.{IsIn, one_in, one_named}
use Rattle.vx_image.proofs.Plexes.{config_valid}
use Rattle.vx_image.proofs.Room.{layouts_apart}
use Rattle.vx_lending.specs.Form.{IsFormOf, IsLayoutOf}
use Rattle.vx_lending.specs.FormLaws.{AreFree, AreNumbered, HasLogs}
use Rattle.vx_lending.specs.Public.{still_pieces}
use Rattle.vx_lending.specs.Taken.{HaveBlocks, log_sectors}
use Rattle.vx_lending.specs.declared.form.VolumeForm.{VolumeForm}
use Rattle.vx_lending.specs.declared.public.Public.{Public}
use Rattle.vx_lending.proofs.Bits.{IsPlexAt, kept, off_plex, on_plex}
use Rattle.vx_lending.proofs.Distinct.{AreDistinct, distinct_at, distinct_filter}
use Rattle.vx_lending.proofs.Places.{log_taken}
use Rattle.vx_lending.proofs.Rooms.{logs_are}
use Rattle.vx_lending.proofs.Rules.{plex_names}
use Rattle.vx_lending.proofs.Zips.{zip_all, zip_at, zip_length}
use Rattle.vx_new_volumes.specs.Logs.{region_with}
use Rattle.vx_stages.specs.Logging.{log_state}
use Rattle.vx_stages.specs.Tests.{volume_in}
use Rattle.vx_volume_laws.specs.Keeping.{data_plexes}
use Rattle.vx_group_start.specs.Fresh.{all_maps, maps_to_copy}
use Rattle.vx_group_start.specs.Making.{IsLogMade, IsLogUnmade}
use Rattle.vx_group_start.specs.Together.{ComeBackFrom}
use Rattle.vx_group_start.specs.declared.fault.StartFault.{StartFault}
use Rattle.vx_group_edits.specs.Dcos.{ChangesDco, GetsLogs}
use Rattle.vx_group_edits.specs.Joins.{plexes_in}
use Rattle.vx_group_edits.proofs.ByKind.{records_vol, vol_recorded}
use Rattle.vx_group_edits.proofs.DcosGiven.{new_log_used, preparing_changes}
use Rattle.vx_group_edits.proofs.Lists.{only_in}
use Rattle.vx_house.specs.View.{IsGroupKept}
use Rattle.vx_house.specs.declared.house.Imported.{Imported}
use Rattle.vx_house.specs.declared.stop.Stop.{Stop}
use Rattle.vx_house.specs.declared.stop.Stop.TheVariants as stops
use Rattle.vx_stage_volumes.specs.Disks.{have_disks}
use Rattle.vx_stage_volumes.specs.Naming.{unopened}
use Rattle.vx_stage_volumes.specs.Opening.{AreSlotNumbers, SameButStill, good_of}
use Rattle.vx_stage_volumes.specs.Parting.{IsReadyToOpen}
use Rattle.vx_stage_volumes.proofs.Free.{room_by}
use Rattle.vx_stage_volumes.proofs.Owned.{numbered_by, ready_by}
use Rattle.vx_stage_mirrors.proofs.Taken.{held_taken}
use Rattle.vx_stage_mirrors.specs.Making.{IsFormNext, MakeEnds}
use Rattle.vx_stage_mirrors.specs.Next.{HasLogsNext}
use Rattle.vx_stage_mirrors.proofs.NewPlaces.{log_unowned, unowned_free}

-- ---- the volume of a name

found_first : (name : Word) (vs : List Vol) (w : Vol) → IsIn vs w → bytes_eq w.name name ≡ true → ((u : Vol) → IsIn vs u → bytes_eq u.name name ≡ true → u ≡ w) → volume_in name vs ≡ Some w
found_first name [] w there named one = absurd there
found_first name (v ∷ vs) w there named one = by (λ later. found_first name vs w later named (λ u here. one u (inr here))) (bytes_eq v.name name) refl there
  where
    by : (IsIn vs w → volume_in name vs ≡ Some w) → (b : Bool) → bytes_eq v.name name ≡ b → IsIn (v ∷ vs) w → cond b (Some v) (volume_in name vs) ≡ Some w
    by rest true is there = ap (λ x. Some x) (one v (inl refl) is)
    by rest false is (inl same) = absurd (false≢true (sym is ∙ subst (λ (x : Vol). bytes_eq x.name name ≡ true) same named))
    by rest false is (inr later) = rest later

same_vol : (v w : Vol) → VolRecord v ≡ VolRecord w → v ≡ w
same_vol v w e = cc

-- the volume of a configuration is found by its name
found_by : (c : Config) (w : Vol) (name : Word) → IsVolOf c w → w.name ≡ name → volume_in name c.volumes ≡ Some w
found_by c w name of named =
    found_first name c.volumes w (vol_recorded c w of) (subst (λ n. bytes_eq w.name n ≡ true) named (bytes_eq_self w.name))
    (λ u here is. same_vol u w
    (one_named [] (objects_of c) (VolRecord u) (VolRecord w) (names_differ (objects_of c) (config_valid c)) (records_vol c u here) (one_in (objects_of c) (VolRecord w) of) (bytes_eq_same u.name name is ∙ sym named)))

same_some : {X : Type 0} (x y : X) → Some x ≡ Some y → x ≡ y
same_some x y e = cc

some_and : {X : Type 0} (o : Option X) (x : X) (Q : X → Type 0) → o ≡ Some x → Q x → IsSomeAnd o Q
some_and None x Q e q = absurd (let no : None ≡ Some x = e in cc)
some_and (Some y) x Q e q = subst Q (sym (same_some y x e)) q

-- ---- a mask of one map

zero_below : (x m : ℕ) → x ≤ m → m ≡ 0 → x ≡ 0
zero_below x m le e = omega (arith, le, e)

-- it has nothing above its lowest map
none_above : (mask n : ℕ) → mask < 2 ^ 64 → ((k : ℕ) → has mask k ≡ true → k ≡ n) → above_lowest mask ≡ 0
none_above mask n fits all = by (above_lowest mask == 0) refl
  where
    by : (b : Bool) → (above_lowest mask == 0) ≡ b → above_lowest mask ≡ 0
    by true is = empty_from_test (above_lowest mask) is
    by false is =
        let some = some_from_test (above_lowest mask) is in
        let r = two mask fits (λ e. some (zero_below (above_lowest mask) mask (without-le mask (only (lowest mask))) e)) some in
        absurd (r.2 (all r.0 r.3 ∙ sym (all r.1 r.4)))

-- ---- the logs of a form

room_at : (m cap : ℕ) → plex_bytes_of 32 m ≤ 512 * cap → 35 * (m / 512) ≤ cap
room_at m cap le = omega (arith, le)

-- each has room for the log
roomy : (v : Vol) (form : VolumeForm) → HasLogs v form → HaveBlocks (log_sectors form.shape.geometry) form.logs.items
roomy v form h k d lt = room_at (map_bytes_of (region_count form.shape.geometry.length form.shape.geometry.region)) (capacity (slice_index_or form.logs.items k d).columns) (h.room k d lt)

module _ (c : Config) (good : ℕ) (v : Vol) (form : VolumeForm) (is : IsFormOf c good v false form) (numbers : List ℕ) (have : AreNumbered numbers good c.disks) where
  log_names : (dco : Option Word) → AreDistinct (λ (p : Plex). p.name) (used_logs dco c good false v.name)
  log_names None = tt
  log_names (Some dco) = distinct_filter (λ (p : Plex). p.name) (is_used_log c good false v.name) c.plexes (plex_names c)

  logs_numbered : All (λ (l : Layout). EachStrip (HasNumber numbers) l.columns) form.logs.items
  logs_numbered =
      zip_all (IsLayoutOf c) (λ (l : Layout). EachStrip (HasNumber numbers) l.columns) (used_logs v.dco c good false v.name) form.logs.items is.logs
      (λ p l here lay.
      let a = (log_taken c good v false v.dco p here).0 in
      All-head (λ (l : Layout). EachStrip (HasNumber numbers) l.columns) l [] (held_taken c good p l (contains c.plexes p a.there) a.held lay numbers have).0.numbered)

  -- they are those of plexes, whatever the data plexes are
  pub log_plexes : ArePlexes numbers form.logs.items
  log_plexes =
      layouts_apart c numbers (used_logs v.dco c good false v.name) form.logs.items
      (record {
        long = zip_length (IsLayoutOf c) (used_logs v.dco c good false v.name) form.logs.items is.logs;
        each = λ k p d lt. (zip_at (IsLayoutOf c) (used_logs v.dco c good false v.name) form.logs.items is.logs k p d lt).columns;
      })
      (λ j k p lt lt' other same. distinct_at (λ (p : Plex). p.name) (used_logs v.dco c good false v.name) (log_names v.dco) j k p lt lt' other same)
      logs_numbered

-- ---- the volume by the next configuration

module _ {P : Type 0} {ghosts : Ghosts P} (see : P → Seen) (name : Word) (next : Config) (g : Imported P ghosts) (logs : HasLogsNext see name next g) where
  abbrev good : ℕ
  good = good_of see g

  changed : (w : Vol) × (q : Plex) × ChangesDco g.config logs.volume next w logs.plex q × (w.region ≡ region_with logs.volume logs.logs.region) × GetsLogs g.config good logs.volume (log_state logs.volume.state) logs.added next w
  changed = preparing_changes g.config good logs.volume logs.logs logs.plex logs.added logs.edits logs.of logs.fits logs.laid next logs.edited

  abbrev later : Vol
  later = changed.0

  same_name : later.name ≡ logs.volume.name
  same_name = ap (λ (x : Vol). x.name) changed.2.volume

  -- it is found by its name
  found_next : volume_in name next.volumes ≡ Some later
  found_next = found_by next later name changed.2.recorded (same_name ∙ logs.named)

  next_disks : next.disks ≡ g.config.disks
  next_disks = changed.2.disks

  -- ---- its form

  module _ (w : Vol) (found : volume_in name next.volumes ≡ Some w) where
    is_later : later ≡ w
    is_later = same_some later w (sym found_next ∙ found)

    pub recorded : IsVolOf next w
    recorded = subst (IsVolOf next) is_later changed.2.recorded

    -- the logs that are used are the new ones
    used : used_logs w.dco next good false w.name ≡ plexes_in logs.added
    used =
        ap (λ (x : Vol). used_logs x.dco next good false x.name) (sym is_later)
        ∙ ap (λ dco. used_logs dco next good false later.name) changed.4.dco_is
        ∙ ap (λ n. used_logs (Some changed.4.dco) next good false n) same_name
        ∙ new_log_used g.config good logs.volume logs.logs logs.plex logs.added logs.edits logs.of logs.fits logs.laid logs.active next logs.edited changed.4.dco good (λ slot h. h)

    module _ (form : VolumeForm) (is : IsFormOf next good w false form) where
      has_logs : HasLogs w form
      has_logs = logs_are next good w false form recorded is

      pub few : length form.logs.items ≤ 2
      few = has_logs.few

      pub some : 0 < length form.logs.items
      some =
          let long = zip_length (IsLayoutOf next) (used_logs w.dco next good false w.name) form.logs.items is.logs ∙ ap (λ (ps : List Plex). length ps) used in
          let one = changed.4.some.1.1 in
          omega (arith, long, one)

      pub have_blocks : HaveBlocks (log_sectors form.shape.geometry) form.logs.items
      have_blocks = roomy w form has_logs

      -- it has one data plex, and that has number 0
      lone_map : (k : ℕ) (a : Bool) → IsPlexAt next good w k a → k ≡ map_or_zero changed.1.map
      lone_map k a x =
          let names : logs.volume.name ≡ w.name = sym same_name ∙ ap (λ (x : Vol). x.name) is_later in
          let all : data_plexes next w.name ≡ changed.1 ∷ [] = subst (λ n. data_plexes next n ≡ changed.1 ∷ []) names changed.2.is in
          let there : IsIn (data_plexes next w.name) x.plex = kept (is_data_plex_of w.name) next.plexes x.plex x.there x.own in
          sym x.map_is ∙ ap (λ (q : Plex). map_or_zero q.map) (only_in x.plex changed.1 (subst (λ ps. IsIn ps x.plex) all there))

      one_map : (k : ℕ) → has (all_maps form.shape) k ≡ true → k ≡ map_or_zero changed.1.map
      one_map k h = elim (union_cases form.shape.on form.shape.off k h) [
        | inl on ↦ lone_map k true (on_plex next good w recorded form.shape is.shape_is k on)
        | inr off ↦ lone_map k false (off_plex next good w recorded form.shape is.shape_is k off)
      ]

      pub none_to_copy : maps_to_copy form.shape ≡ 0
      none_to_copy = none_above (all_maps form.shape) (map_or_zero changed.1.map) (union-lt form.shape.on form.shape.off is.shape_is.on.fits is.shape_is.off.fits) one_map

      -- ---- its logs can be taken

      module _ (keeps : IsGroupKept see g) (disks : have_disks g.base.disks.items good next.disks ≡ true) (numbers : List ℕ) (are : AreSlotNumbers see g numbers) where
        pub numbered : AreNumbered numbers good next.disks
        numbered = numbered_by see g.base.disks.items (ready_by see g keeps) good next.disks disks numbers are.long

        pub plexes : ArePlexes numbers form.logs.items
        plexes = log_plexes next good w form is numbers numbered

        pub free : IsReadyToOpen see g → AreFree numbers (map see g.public.pool.items.items) form.logs.items
        free ready =
            zip_all (IsLayoutOf next) (λ (l : Layout). EachStrip (IsFreeStrip numbers (map see g.public.pool.items.items)) l.columns) (used_logs w.dco next good false w.name) form.logs.items is.logs
            (λ p l here lay.
            let new : Contains (plexes_in logs.added) p = contains (plexes_in logs.added) p (subst (λ ps. IsIn ps p) used here) in
            subst (λ columns. EachStrip (IsFreeStrip numbers (map see g.public.pool.items.items)) columns) (sym lay.columns)
            (unowned_free see g keeps (record { short = ready.open_group; left = ready.left; stuck = ready.stuck }) next next_disks p
            (λ x on. log_unowned g.config good logs.volume logs.logs logs.plex logs.added logs.edits logs.laid next logs.edited p new x on)
            numbers (room_by see g.base.disks.items keeps.slots keeps.carries.alive.ready numbers (2 ^ 32) are good g.config.disks (subst (λ ds. have_disks g.base.disks.items good ds ≡ true) next_disks disks))
            (changed.4.held p new)))

        abbrev pub form_next : IsFormNext see g next w
        form_next = record { numbers = numbers; are = are; numbered = numbered; form = form; form_is = is }

-- ---- how it ends

module _ {P : Type 0} {ghosts : Ghosts P} (see : P → Seen) (name : Word) (next : Config) (g : Imported P ghosts) (logs : HasLogsNext see name next g) where
  -- memory was wanting before anything was touched
  pub ends_early : IsSomeAnd (volume_in name next.volumes) (λ w. MakeEnds see next w (Err stops.OutOfMemory) g g)
  ends_early =
      some_and (volume_in name next.volumes) (later see name next g logs) (λ w. MakeEnds see next w (Err stops.OutOfMemory) g g) (found_next see name next g logs)
      (record { same = record { group = refl; running = refl; stuck = refl }; cause = inl (refl, refl) })

  module _ (w : Vol) (found : volume_in name next.volumes ≡ Some w) (public : Public P ghosts) (running : public.running ≡ g.public.running) (stuck : public.stuck ≡ g.public.stuck) (by : IsFormNext see g next w) where
    abbrev then : Imported P ghosts
    then = record g { public = public }

    same : SameButStill g then
    same = record { group = refl; running = running; stuck = stuck }

    pub ends_made : IsLogMade see by.numbers by.form g.public public → IsSomeAnd (volume_in name next.volumes) (λ w. MakeEnds see next w (Ok by.form.logs) g then)
    ends_made made = some_and (volume_in name next.volumes) w (λ w. MakeEnds see next w (Ok by.form.logs) g then) found (record { same = same; by = by; logs_are = refl; made = made })

    pub ends_unmade : (fault : StartFault) (stop : Stop) → stop ≡ unopened see g.base.disks.items w.name fault → IsLogUnmade see by.numbers by.form g.public public fault → ComeBackFrom by.numbers by.form true (still_pieces see g.public) (still_pieces see public) →
        IsSomeAnd (volume_in name next.volumes) (λ w. MakeEnds see next w (Err stop) g then)
    ends_unmade fault stop is unmade back =
        some_and (volume_in name next.volumes) w (λ w. MakeEnds see next w (Err stop) g then) found (record { same = same; cause = inr (fault, is, record { by = by; unmade = unmade; back = back }) })
