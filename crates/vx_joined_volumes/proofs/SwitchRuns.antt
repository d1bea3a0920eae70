-- A volume of which a plex went on or off runs in its place by the new configuration.
use Rattle.std.proofs.Common.{◌≡◌, ℕ, ◌-◌, ◌*◌, ◌<◌, min, Bool, true, false, List, [], length, refl, sym, ◌∙◌, ap, subst, arith}
use Rattle.std.specs.Prelude.{is_some, nat_lt, slice_index_or}
use Rattle.std.proofs.lemmas.List.{length-map}
use Rattle.vx_block.specs.declared.geometry.Geometry.{Geometry}
use Rattle.vx_mask.specs.Mask.{has, only, union, without}
use Rattle.vx_piece.specs.Seen.{Seen}
use Rattle.vx_core.specs.declared.stage.Stage.{Stage}
use Rattle.vx_layout.specs.declared.layout.Layout.{Layout}
use Rattle.vx_pages.specs.declared.local_piece.LocalPiece.{Ghosts}
use Rattle.vx_config_parts.specs.declared.plex.Plex.{Plex}
use Rattle.vx_config_parts.specs.declared.state.PlexState.{PlexState}
use Rattle.vx_config_parts.specs.declared.vol.Vol.{Vol}
use Rattle.vx_objects.specs.declared.config.Config.{Config}
use Rattle.vx_image.specs.Bytes.{map_or_zero}
use Rattle.vx_image.specs.Image.{is_available_state}
use Rattle.vx_cell.specs.Changes.{CellSeen, stage_with}
use Rattle.vx_cell.specs.Plexes.{PlexSeen}
use Rattle.vx_volume.specs.declared.log.VolumeLog.{VolumeLog}
use Rattle.vx_volume.specs.declared.volume.VolumeShape.{VolumeShape}
use Rattle.vx_volume.specs.Opening.{count_of}
use Rattle.vx_volume.specs.Switching.{Switches, shape_with}
use Rattle.vx_volume.specs.Volume.{VolumeSeen, cell_at, log_of, shape_of, volume_seen}
use Rattle.vx_lending.specs.RegionsTaken.{AreTakenRegions, IsTakenRegion}
use Rattle.vx_lending.specs.declared.form.VolumeForm.{VolumeForm}
use Rattle.vx_lending.specs.FormLaws.{AreNumbered}
use Rattle.vx_lending.specs.Left.{region_plexes}
use Rattle.vx_lending.specs.Logs.{log_copies}
use Rattle.vx_lending.specs.Taken.{log_sectors}
use Rattle.vx_lending.specs.declared.public.Running.{Running}
use Rattle.vx_volume_laws.specs.Lying.{HasMasksOf, IsLogFor, IsLogOver, LiesAs, LiesIn}
use Rattle.vx_volume_laws.specs.Places.{LieOnLogs}
use Rattle.vx_volume_laws.proofs.Plexes.{plexes_at}
use Rattle.vx_change_laws.proofs.Switchings.{switch_cut}
use Rattle.vx_group_calls.specs.Causes.{AreCutWhereDead}
use Rattle.vx_group_volumes.specs.Places.{RunsInPlace}
use Rattle.vx_group_volumes.proofs.Places.{places_stay}
use Rattle.vx_joined_volumes.specs.Joined.{good_joined, opening_joined}
use Rattle.vx_joined_volumes.specs.Switched.{HasSwitched, IsFormSwitched, SetsState, WasTaken}
use Rattle.vx_joined_volumes.specs.SwitchLaws.{EachSwitchedVolumeRunsInPlace}
use Rattle.vx_joined_volumes.proofs.Now.{more_good}
use Rattle.vx_joined_volumes.proofs.Runs.{kept_by}
use Rattle.vx_joined_volumes.proofs.SwitchEdits.{recorded_still}
use Rattle.vx_joined_volumes.proofs.SwitchForms.{form_switched, geometry_with}

-- ---- its regions

-- the masks of a stage are those of the shape with the plex on or off in both
masks_with : (shape : VolumeShape) (logged : Bool) (s : Stage) (m : ℕ) (on : Bool) → HasMasksOf shape logged s → HasMasksOf (shape_with shape m on) logged (stage_with s m on)
masks_with shape logged s m true had = record { on = ap (λ n. union n (only m)) had.on; off = ap (λ n. without n (only m)) had.off; snaps = had.snaps; logged_is = had.logged_is }
masks_with shape logged s m false had = record { on = ap (λ n. without n (only m)) had.on; off = ap (λ n. union n (only m)) had.off; snaps = had.snaps; logged_is = had.logged_is }

module _ (numbers : List ℕ) (form form' : VolumeForm) (m : ℕ) (on : Bool) (is : IsFormSwitched m on form form') (old new : VolumeSeen) (copies : List (List Seen)) (lies : LiesAs numbers form old copies) (switches : Switches m on old new) where
  geometry_same : form'.shape.geometry ≡ form.shape.geometry
  geometry_same = ap (λ (s : VolumeShape). s.geometry) is.shape ∙ geometry_with form.shape m on

  inside : (r : ℕ) → r < length new.cells → r < length old.cells
  inside r lt = subst (λ (n : ℕ). r < n) switches.cells.size lt

  plexes_same : (r : ℕ) → r < length old.cells → slice_index_or (region_plexes new.cells) r [] ≡ slice_index_or (region_plexes old.cells) r []
  plexes_same r lt = plexes_at new.cells r ∙ ap (λ (x : CellSeen). x.plexes) (switches.cells.each r lt) ∙ sym (plexes_at old.cells r)

  regions_now : AreTakenRegions numbers form.maps.items form.layouts.items form.shape.geometry.length form.shape.geometry.region (region_plexes new.cells)
  regions_now r lt =
      let a = length-map new.cells (λ (cell : CellSeen). cell.plexes) in
      let b = length-map old.cells (λ (cell : CellSeen). cell.plexes) in
      let same = switches.cells.size in
      let at : r < length old.cells = omega (arith, lt, a, same) in
      subst (λ (ps : List PlexSeen). IsTakenRegion numbers form.maps.items form.layouts.items (r * form.shape.geometry.region) (min form.shape.geometry.region (form.shape.geometry.length - r * form.shape.geometry.region)) ps) (sym (plexes_same r at))
      (lies.regions r (omega (arith, at, b)))

  masks_now : (r : ℕ) → r < length new.cells → HasMasksOf form'.shape new.log.there (cell_at new r).stage
  masks_now r lt =
      let at = inside r lt in
      let logged : new.log.there ≡ old.log.there = ap (λ (w : VolumeSeen). w.log.there) switches.same in
      subst (λ (s : VolumeShape). HasMasksOf s new.log.there (cell_at new r).stage) (sym is.shape)
      (subst (λ (b : Bool). HasMasksOf (shape_with form.shape m on) b (cell_at new r).stage) (sym logged)
      (subst (λ (x : CellSeen). HasMasksOf (shape_with form.shape m on) old.log.there x.stage) (sym (switches.cells.each r at))
      (masks_with form.shape old.log.there (cell_at old r).stage m on (lies.masks r at))))

  pub lies_switched : LiesAs numbers form' new copies
  lies_switched = record {
    length_is = ap (λ (w : VolumeSeen). w.length) switches.same ∙ lies.length_is ∙ sym (ap (λ (g : Geometry). g.length) geometry_same);
    region_is = ap (λ (w : VolumeSeen). w.region) switches.same ∙ lies.region_is ∙ sym (ap (λ (g : Geometry). g.region) geometry_same);
    regions = subst (λ (ms : List ℕ). AreTakenRegions numbers ms form'.layouts.items form'.shape.geometry.length form'.shape.geometry.region (region_plexes new.cells)) (sym is.maps)
        (subst (λ (ls : List Layout). AreTakenRegions numbers form.maps.items ls form'.shape.geometry.length form'.shape.geometry.region (region_plexes new.cells)) (sym is.layouts)
        (subst (λ (g : Geometry). AreTakenRegions numbers form.maps.items form.layouts.items g.length g.region (region_plexes new.cells)) (sym geometry_same) regions_now));
    masks = masks_now;
    logs = subst (λ (ls : List Layout). LieOnLogs numbers ls (log_sectors form'.shape.geometry) copies) (sym is.logs) (subst (λ (g : Geometry). LieOnLogs numbers form.logs.items (log_sectors g) copies) (sym geometry_same) lies.logs);
    log = subst (λ (w : VolumeSeen). IsLogOver w.log (count_of form'.shape) copies) (sym switches.same)
        (subst (λ (g : Geometry). IsLogOver old.log (count_of (record form'.shape { geometry = g })) copies) (sym geometry_same) lies.log);
  }

-- ---- the volume

module _ {P : Type 0} {ghosts : Ghosts P} (see : P → Seen) (running later : Running P ghosts) (c : Config) (good : ℕ) (numbers : List ℕ) (v : Vol) (placed : RunsInPlace see c good numbers v running)
    (p : Plex) (next : PlexState) (c' : Config) (sets : SetsState c v p next c') (on : Bool) (state : is_available_state next ≡ on) (taken : on ≡ true → WasTaken running.form p)
    (is : IsFormSwitched (map_or_zero p.map) on running.form later.form) (has_gone : HasSwitched see (map_or_zero p.map) on running.volume later.volume) where
  shape_is : shape_of later.volume ≡ later.form.shape
  shape_is = has_gone.shape ∙ ap (λ (s : VolumeShape). shape_with s (map_or_zero p.map) on) placed.runs.shape ∙ sym is.shape

  geometry_is : later.form.shape.geometry ≡ running.form.shape.geometry
  geometry_is = ap (λ (s : VolumeShape). s.geometry) is.shape ∙ geometry_with running.form.shape (map_or_zero p.map) on

  lies_as : LiesAs numbers later.form (volume_seen see later.volume) (log_copies see (log_of running.volume))
  lies_as =
      lies_switched numbers running.form later.form (map_or_zero p.map) on is (volume_seen see running.volume) (volume_seen see later.volume) (log_copies see (log_of running.volume)) placed.runs.lies.lies has_gone.switches

  lies_now : LiesIn see numbers later.form later.volume
  lies_now = record {
    some = subst (λ (g : Geometry). 0 < count_of (record later.form.shape { geometry = g })) (sym geometry_is) placed.runs.lies.some;
    log_for = subst (λ (g : Geometry). IsLogFor g (log_of later.volume)) (sym geometry_is) (subst (λ (log : VolumeLog P ghosts). IsLogFor running.form.shape.geometry log) (sym has_gone.log) placed.runs.lies.log_for);
    lies = subst (λ (log : VolumeLog P ghosts). LiesAs numbers later.form (volume_seen see later.volume) (log_copies see log)) (sym has_gone.log) lies_as;
  }

  cut_now : AreCutWhereDead (volume_seen see later.volume)
  cut_now r lt =
      let at : r < length (volume_seen see running.volume).cells = subst (λ (n : ℕ). r < n) has_gone.switches.cells.size lt in
      switch_cut (map_or_zero p.map) on (volume_seen see running.volume) (volume_seen see later.volume) has_gone.switches r at (placed.runs.cut r at)

  -- it has a log just where it has a DCO
  logged_now : nat_lt 0 (length later.form.logs.items) ≡ is_some v.dco
  logged_now = ap (λ (ls : List Layout). nat_lt 0 (length ls)) is.logs ∙ placed.runs.logged

  pub runs_switched : AreNumbered numbers (good_joined placed.runs.opening good) c'.disks → (good' : ℕ) → ((slot : ℕ) → has good' slot ≡ true → has good slot ≡ true) →
      (now : RunsInPlace see c' good' numbers v later) × (now.runs.opening ≡ opening_joined placed.runs.opening c' good v)
  runs_switched numbered good' fewer =
      let recorded = recorded_still c c' v p next sets placed.runs.recorded in
      let more : (slot : ℕ) → has good' slot ≡ true → has (good_joined placed.runs.opening good) slot ≡ true = λ slot here. more_good see running c good numbers v placed slot (fewer slot here) in (
        record {
          runs = record {
            recorded = recorded;
            filled = placed.runs.filled;
            opening = opening_joined placed.runs.opening c' good v;
            of = recorded;
            form = form_switched see running c good numbers v placed p next c' sets on state taken later.form is;
            keeps = kept_by c' (good_joined placed.runs.opening good) good' v more;
            logged = logged_now;
            whole = has_gone.whole;
            shape = shape_is;
            lies = lies_now;
            cut = cut_now;
          };
          places = places_stay c' v.name;
          numbered = numbered;
          were_good = λ at own now. more at.disk now;
        },
        refl,
      )

pub each_volume_switched : {P : Type 0} {ghosts : Ghosts P} (see : P → Seen) (running later : Running P ghosts) → EachSwitchedVolumeRunsInPlace see running later
each_volume_switched see running later c good numbers v placed p next c' sets on state taken is has_gone =
    runs_switched see running later c good numbers v placed p next c' sets on state taken is has_gone
