-- The form of a volume with a plex on or off is that of the volume by the new configuration.
use Rattle.std.proofs.Common.{◌≡◌, ◌≢◌, ℕ, Bool, true, false, not, List, refl, sym, ◌∙◌, ap, subst}
use Rattle.std.specs.Prelude.{◌&&◌}
use Rattle.std.proofs.lemmas.Bool.{and_from}
use Rattle.vx_block.specs.declared.geometry.Geometry.{Geometry}
use Rattle.vx_mask.proofs.Tests.{and_none}
use Rattle.vx_piece.specs.Seen.{Seen}
use Rattle.vx_layout.specs.declared.layout.Layout.{Layout}
use Rattle.vx_pages.specs.declared.local_piece.LocalPiece.{Ghosts}
use Rattle.vx_config_parts.specs.declared.plex.Plex.{Plex}
use Rattle.vx_config_parts.specs.declared.state.PlexState.{PlexState}
use Rattle.vx_config_parts.specs.declared.vol.Vol.{Vol}
use Rattle.vx_config_parts.specs.Objects.{is_data_plex_of}
use Rattle.vx_objects.specs.declared.config.Config.{Config}
use Rattle.vx_image.specs.Bytes.{is_held, map_or_zero, relation_maps}
use Rattle.vx_image.specs.Image.{is_available_state}
use Rattle.vx_image.specs.UsedPlexes.{held_plexes, is_on, maps_of, off_plexes, on_plexes, used_logs}
use Rattle.vx_image.proofs.PlexMembers.{IsIn}
use Rattle.vx_volume.specs.declared.volume.VolumeShape.{VolumeShape}
use Rattle.vx_volume.specs.Switching.{shape_with}
use Rattle.vx_lending.specs.RegionsTaken.{is_among}
use Rattle.vx_lending.specs.declared.form.VolumeForm.{VolumeForm}
use Rattle.vx_lending.specs.Form.{AreLayouts, IsFormOf, IsLayoutOf, IsMaskOf, IsShapeOf}
use Rattle.vx_lending.proofs.Maps.{one_of_map, plex_among}
use Rattle.vx_lending.proofs.Places.{held_taken, log_taken}
use Rattle.vx_lending.specs.declared.public.Running.{Running}
use Rattle.vx_group_volumes.specs.Places.{RunsInPlace}
use Rattle.vx_joined_volumes.specs.Joined.{good_joined}
use Rattle.vx_joined_volumes.specs.Switched.{IsFormSwitched, SetsState, WasTaken, restated}
use Rattle.vx_joined_volumes.specs.SwitchLaws.{EachSwitchedFormIsItsOwn}
use Rattle.vx_joined_volumes.proofs.Now.{form_now}
use Rattle.vx_joined_volumes.proofs.SwitchEdits.{held_as, held_now, lies_same, logs_now, map_same, p_there, set, set_leaves, set_own, snaps_stay}
use Rattle.vx_joined_volumes.proofs.SwitchMasks.{mask_gains, mask_loses}
use Rattle.vx_joined_volumes.proofs.Zips.{map_changed, zip_changed}

-- the blocks, regions and relations of a shape are the same with a plex on or off
pub geometry_with : (shape : VolumeShape) (m : ℕ) (on : Bool) → (shape_with shape m on).geometry ≡ shape.geometry
geometry_with shape m true = refl
geometry_with shape m false = refl

pub snaps_with : (shape : VolumeShape) (m : ℕ) (on : Bool) → (shape_with shape m on).snaps ≡ shape.snaps
snaps_with shape m true = refl
snaps_with shape m false = refl

-- A plex of which all disks were good, or are, is one that the volume was opened with, and no other is.
module _ {P : Type 0} {ghosts : Ghosts P} (see : P → Seen) (running : Running P ghosts) (c : Config) (good : ℕ) (numbers : List ℕ) (v : Vol) (placed : RunsInPlace see c good numbers v running) where
  abbrev joined : ℕ
  joined = good_joined placed.runs.opening good

  pub taken_held : (p : Plex) → IsIn c.plexes p → is_data_plex_of v.name p ≡ true → WasTaken running.form p → is_held c joined p ≡ true
  taken_held p there own taken =
      let form = form_now see running c good numbers v placed in
      let r = plex_among (held_plexes c joined v.name) (map_or_zero p.map) (subst (λ ms. is_among (map_or_zero p.map) ms ≡ true) form.maps taken) in
      let w = held_taken c joined v r.plex r.there in
      subst (λ (x : Plex). is_held c joined x ≡ true) (one_of_map c v placed.runs.recorded r.plex p w.0.there there w.1 own r.map_is) w.0.held

module _ {P : Type 0} {ghosts : Ghosts P} (see : P → Seen) (running : Running P ghosts) (c : Config) (good : ℕ) (numbers : List ℕ) (v : Vol) (placed : RunsInPlace see c good numbers v running)
    (p : Plex) (next : PlexState) (c' : Config) (sets : SetsState c v p next c') where
  abbrev all : ℕ
  all = good_joined placed.runs.opening good

  abbrev now : IsFormOf c all v false running.form
  now = form_now see running c good numbers v placed

  -- ---- its masks

  on_other : (q : Plex) → IsIn c.plexes q → q ≢ p → is_on c' all (set c c' v p next sets q) ≡ is_on c all q
  on_other q there other =
      ap (λ b. b && is_available_state (set c c' v p next sets q).state) (held_as c c' v p next sets all q there)
      ∙ ap (λ (x : Plex). is_held c all q && is_available_state x.state) (set_leaves c c' v p next sets q there other)

  off_other : (q : Plex) → IsIn c.plexes q → q ≢ p → not (is_on c' all (set c c' v p next sets q)) ≡ not (is_on c all q)
  off_other q there other = ap not (on_other q there other)

  -- the plex is on where its new state is available, if all its disks were good
  on_own : is_on c' all (restated p next) ≡ (is_held c all p && is_available_state next)
  on_own =
      ap (λ (x : Plex). is_held c' all x && is_available_state next) (sym (set_own c c' v p next sets))
      ∙ ap (λ b. b && is_available_state next) (held_as c c' v p next sets all p (p_there c c' v p next sets))

  masks_by : (b : Bool) → is_available_state next ≡ b → (b ≡ true → WasTaken running.form p) →
      IsMaskOf (maps_of (on_plexes c' all v.name)) (shape_with running.form.shape (map_or_zero p.map) b).on × IsMaskOf (maps_of (off_plexes c' all v.name)) (shape_with running.form.shape (map_or_zero p.map) b).off
  masks_by true state taken =
      let held = taken_held see running c good numbers v placed p (p_there c c' v p next sets) sets.data_is (taken refl) in
      let is : is_on c' all (restated p next) ≡ true = on_own ∙ and_from _ _ held state in (
        mask_gains c c' v p next sets placed.runs.recorded (is_on c all) (is_on c' all) on_other running.form.shape.on now.shape_is.on is,
        mask_loses c c' v p next sets placed.runs.recorded (λ q. not (is_on c all q)) (λ q. not (is_on c' all q)) off_other running.form.shape.off now.shape_is.off (ap not is),
      )
  masks_by false state taken =
      let is : is_on c' all (restated p next) ≡ false = on_own ∙ ap (λ b. is_held c all p && b) state ∙ and_none (is_held c all p) in (
        mask_loses c c' v p next sets placed.runs.recorded (is_on c all) (is_on c' all) on_other running.form.shape.on now.shape_is.on is,
        mask_gains c c' v p next sets placed.runs.recorded (λ q. not (is_on c all q)) (λ q. not (is_on c' all q)) off_other running.form.shape.off now.shape_is.off (ap not is),
      )

  -- ---- its layouts

  lay_on : (q : Plex) (l : Layout) → IsIn c.plexes q → IsLayoutOf c q l → IsLayoutOf c' (set c c' v p next sets q) l
  lay_on q l there lay = let lies = lies_same c c' v p next sets q there in record { unit = lay.unit ∙ sym lies.unit; columns = lay.columns ∙ sym lies.columns }

  data_layouts : AreLayouts c' (held_plexes c' all v.name) running.form.layouts.items
  data_layouts =
      subst (λ ps. AreLayouts c' ps running.form.layouts.items) (sym (held_now c c' v p next sets all))
      (zip_changed (IsLayoutOf c) (IsLayoutOf c') (set c c' v p next sets) (held_plexes c all v.name) running.form.layouts.items now.layouts (λ q l there lay. lay_on q l (held_taken c all v q there).0.there lay))

  log_layouts : AreLayouts c' (used_logs v.dco c' all false v.name) running.form.logs.items
  log_layouts =
      subst (λ ps. AreLayouts c' ps running.form.logs.items) (sym (logs_now c c' v p next sets v.dco all false))
      (zip_changed (IsLayoutOf c) (IsLayoutOf c') (set c c' v p next sets) (used_logs v.dco c all false v.name) running.form.logs.items now.logs (λ q l there lay. lay_on q l (log_taken c all v false v.dco q there).0.there lay))

  held_maps : maps_of (held_plexes c' all v.name) ≡ maps_of (held_plexes c all v.name)
  held_maps =
      ap maps_of (held_now c c' v p next sets all)
      ∙ map_changed (set c c' v p next sets) (λ (q : Plex). map_or_zero q.map) (held_plexes c all v.name) (λ q there. map_same c c' v p next sets q (held_taken c all v q there).0.there)

  -- ---- the form

  module _ (on : Bool) (state : is_available_state next ≡ on) (taken : on ≡ true → WasTaken running.form p) (form : VolumeForm) (is : IsFormSwitched (map_or_zero p.map) on running.form form) where
    geometry_same : form.shape.geometry ≡ running.form.shape.geometry
    geometry_same = ap (λ (s : VolumeShape). s.geometry) is.shape ∙ geometry_with running.form.shape (map_or_zero p.map) on

    shape_now : IsShapeOf c' all v form.shape
    shape_now =
        let masks = masks_by on state taken in
        record {
          length_is = ap (λ (g : Geometry). g.length) geometry_same ∙ now.shape_is.length_is;
          region_is = ap (λ (g : Geometry). g.region) geometry_same ∙ now.shape_is.region_is;
          on = subst (λ (s : VolumeShape). IsMaskOf (maps_of (on_plexes c' all v.name)) s.on) (sym is.shape) masks.0;
          off = subst (λ (s : VolumeShape). IsMaskOf (maps_of (off_plexes c' all v.name)) s.off) (sym is.shape) masks.1;
          snaps = subst (λ ms. IsMaskOf ms form.shape.snaps) (sym (ap (λ ss. relation_maps ss v.name) (snaps_stay c c' v p next sets)))
              (subst (λ n. IsMaskOf (relation_maps c.snaps v.name) n) (sym (ap (λ (s : VolumeShape). s.snaps) is.shape ∙ snaps_with running.form.shape (map_or_zero p.map) on)) now.shape_is.snaps);
        }

    pub form_switched : IsFormOf c' all v false form
    form_switched = record {
      shape_is = shape_now;
      maps = is.maps ∙ now.maps ∙ sym held_maps;
      layouts = subst (λ ls. AreLayouts c' (held_plexes c' all v.name) ls) (sym is.layouts) data_layouts;
      logs = subst (λ ls. AreLayouts c' (used_logs v.dco c' all false v.name) ls) (sym is.logs) log_layouts;
    }

pub each_form_switched : {P : Type 0} {ghosts : Ghosts P} (see : P → Seen) (running : Running P ghosts) → EachSwitchedFormIsItsOwn see running
each_form_switched see running c good numbers v placed p next c' sets on state taken form is = form_switched see running c good numbers v placed p next c' sets on state taken form is
