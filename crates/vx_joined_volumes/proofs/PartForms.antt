-- The form of a volume without a plex is that of the volume by the new configuration.
use Rattle.std.proofs.Common.{◌≡◌, ℕ, Bool, true, false, not, List, sym, ◌∙◌, ap, subst, arith}
use Rattle.std.specs.Prelude.{◌&&◌, ◌==◌, ◌<◌}
use Rattle.std.specs.List.{filter}
use Rattle.std.specs.Str.{bytes_eq}
use Rattle.std.proofs.lemmas.Bool.{and_parts, eq-eqb, eqb-true}
use Rattle.vx_base.proofs.NamedLemmas.{bytes_eq_same, bytes_eq_self}
use Rattle.vx_mask.specs.Mask.{only, without}
use Rattle.vx_piece.specs.Seen.{Seen}
use Rattle.vx_layout.specs.declared.layout.Layout.{Layout}
use Rattle.vx_pages.specs.declared.local_piece.LocalPiece.{Ghosts}
use Rattle.vx_config_parts.specs.declared.plex.Plex.{Plex}
use Rattle.vx_config_parts.specs.declared.vol.Vol.{Vol}
use Rattle.vx_config_parts.specs.Objects.{is_data_plex_of}
use Rattle.vx_objects.specs.declared.config.Config.{Config}
use Rattle.vx_image.specs.Bytes.{is_held, map_or_zero, relation_maps}
use Rattle.vx_image.specs.UsedPlexes.{held_plexes, is_on, maps_of, off_plexes, on_plexes, used_logs}
use Rattle.vx_image.proofs.PlexMembers.{IsIn}
use Rattle.vx_volume.specs.declared.volume.VolumeShape.{VolumeShape}
use Rattle.vx_lending.specs.RegionsTaken.{AreDifferent}
use Rattle.vx_lending.specs.declared.form.VolumeForm.{VolumeForm}
use Rattle.vx_lending.specs.Form.{AreLayouts, IsFormOf, IsLayoutOf, IsMaskOf, IsShapeOf}
use Rattle.vx_lending.proofs.Distinct.{filtered}
use Rattle.vx_lending.proofs.Maps.{maps_differ, one_of_map}
use Rattle.vx_lending.proofs.Places.{log_taken}
use Rattle.vx_lending.proofs.Rules.{one_plex, plex_low}
use Rattle.vx_lending.specs.declared.public.Running.{Running}
use Rattle.vx_group_volumes.specs.Places.{RunsInPlace}
use Rattle.vx_joined_volumes.specs.Joined.{good_joined}
use Rattle.vx_joined_volumes.specs.Parted.{IsFormParted, TakesOut, without_map}
use Rattle.vx_joined_volumes.specs.PartLaws.{EachPartedFormIsItsOwn}
use Rattle.vx_joined_volumes.proofs.Held.{same_test}
use Rattle.vx_joined_volumes.proofs.Now.{form_now}
use Rattle.vx_joined_volumes.proofs.PartEdits.{HasLost, columns_stay, has_lost, held_now, is_other, log_other, logs_stay, off_now, on_now, other_name, p_there}
use Rattle.vx_joined_volumes.proofs.PartLists.{GoByMap, mask_without, maps_without, zip_without}
use Rattle.vx_joined_volumes.proofs.Zips.{zip_more}

module _ {P : Type 0} {ghosts : Ghosts P} (see : P → Seen) (running : Running P ghosts) (c : Config) (good : ℕ) (numbers : List ℕ) (v : Vol) (placed : RunsInPlace see c good numbers v running)
    (p : Plex) (remove : Bool) (c' : Config) (takes : TakesOut c v p remove c') where
  abbrev all : ℕ
  all = good_joined placed.runs.opening good

  abbrev now : IsFormOf c all v false running.form
  now = form_now see running c good numbers v placed

  abbrev lost : HasLost c c' v p.name
  lost = has_lost c c' v p remove takes

  -- ---- the plex by its name and by its map

  -- a data plex of the volume has another name just where it has another map
  pub by_map : (q : Plex) → IsIn c.plexes q → is_data_plex_of v.name q ≡ true → is_other p.name q ≡ not (map_or_zero q.map == map_or_zero p.map)
  by_map q there own =
      let here = p_there c c' v p remove takes in
      ap not (same_test (bytes_eq q.name p.name) (map_or_zero q.map == map_or_zero p.map)
      (λ named. eq-eqb (map_or_zero q.map) (map_or_zero p.map) (ap (λ (x : Plex). map_or_zero x.map) (one_plex c q p there here (bytes_eq_same q.name p.name named))))
      (λ mapped. subst (λ (x : Plex). bytes_eq x.name p.name ≡ true) (sym (one_of_map c v placed.runs.recorded q p there here own takes.data_is (eqb-true (map_or_zero q.map) (map_or_zero p.map) mapped))) (bytes_eq_self p.name)))

  -- so the one that goes of its plexes that pass a test is that of the map
  goes : (t : Plex → Bool) → GoByMap (map_or_zero p.map) (is_other p.name) (filter (λ q. is_data_plex_of v.name q && t q) c.plexes)
  goes t q there =
      let w = filtered (λ q. is_data_plex_of v.name q && t q) c.plexes q there in
      by_map q w.0 (and_parts (is_data_plex_of v.name q) (t q) w.1).0

  low : map_or_zero p.map < 64
  low = let below = plex_low c v placed.runs.recorded p (p_there c c' v p remove takes) takes.data_is in omega (arith, below)

  -- ---- its masks

  on_mask : IsMaskOf (maps_of (on_plexes c' all v.name)) (without running.form.shape.on (only (map_or_zero p.map)))
  on_mask =
      subst (λ ps. IsMaskOf (maps_of ps) (without running.form.shape.on (only (map_or_zero p.map)))) (sym (on_now c c' v p.name lost all))
      (mask_without (map_or_zero p.map) (is_other p.name) low (on_plexes c all v.name) (goes (is_on c all)) running.form.shape.on now.shape_is.on)

  off_mask : IsMaskOf (maps_of (off_plexes c' all v.name)) (without running.form.shape.off (only (map_or_zero p.map)))
  off_mask =
      subst (λ ps. IsMaskOf (maps_of ps) (without running.form.shape.off (only (map_or_zero p.map)))) (sym (off_now c c' v p.name lost all))
      (mask_without (map_or_zero p.map) (is_other p.name) low (off_plexes c all v.name) (goes (λ q. not (is_on c all q))) running.form.shape.off now.shape_is.off)

  -- ---- its layouts

  different : AreDifferent (maps_of (held_plexes c all v.name))
  different = maps_differ c v placed.runs.recorded (is_held c all)

  lay_on : (q : Plex) (l : Layout) → is_other p.name q ≡ true → IsLayoutOf c q l → IsLayoutOf c' q l
  lay_on q l other lay = record { unit = lay.unit; columns = lay.columns ∙ sym (columns_stay c c' v p.name lost q (other_name p.name q other)) }

  data_layouts : AreLayouts c' (filter (is_other p.name) (held_plexes c all v.name)) (without_map (map_or_zero p.map) (maps_of (held_plexes c all v.name)) running.form.layouts.items)
  data_layouts =
      zip_more (IsLayoutOf c) (IsLayoutOf c') (filter (is_other p.name) (held_plexes c all v.name)) (without_map (map_or_zero p.map) (maps_of (held_plexes c all v.name)) running.form.layouts.items)
      (zip_without (map_or_zero p.map) (is_other p.name) (IsLayoutOf c) (held_plexes c all v.name) running.form.layouts.items (goes (is_held c all)) different now.layouts)
      (λ q l there in_form lay. lay_on q l (filtered (is_other p.name) (held_plexes c all v.name) q there).1 lay)

  log_layouts : AreLayouts c' (used_logs v.dco c all false v.name) running.form.logs.items
  log_layouts =
      zip_more (IsLayoutOf c) (IsLayoutOf c') (used_logs v.dco c all false v.name) running.form.logs.items now.logs
      (λ q l there in_form lay.
      let log = log_taken c all v false v.dco q there in
      record { unit = lay.unit; columns = lay.columns ∙ sym (columns_stay c c' v p.name lost q (log_other c c' v p remove takes q log.0.there log.1)) })

  maps_now : without_map (map_or_zero p.map) (maps_of (held_plexes c all v.name)) (maps_of (held_plexes c all v.name)) ≡ maps_of (held_plexes c' all v.name)
  maps_now = maps_without (map_or_zero p.map) (is_other p.name) (held_plexes c all v.name) (goes (is_held c all)) different ∙ sym (ap maps_of (held_now c c' v p.name lost all))

  -- ---- the form

  module _ (form : VolumeForm) (is : IsFormParted (map_or_zero p.map) running.form form) where
    shape_now : IsShapeOf c' all v form.shape
    shape_now = record {
      length_is = ap (λ (s : VolumeShape). s.geometry.length) is.shape ∙ now.shape_is.length_is;
      region_is = ap (λ (s : VolumeShape). s.geometry.region) is.shape ∙ now.shape_is.region_is;
      on = subst (λ (s : VolumeShape). IsMaskOf (maps_of (on_plexes c' all v.name)) s.on) (sym is.shape) on_mask;
      off = subst (λ (s : VolumeShape). IsMaskOf (maps_of (off_plexes c' all v.name)) s.off) (sym is.shape) off_mask;
      snaps = subst (λ ms. IsMaskOf ms form.shape.snaps) (sym (ap (λ ss. relation_maps ss v.name) lost.snaps))
          (subst (λ n. IsMaskOf (relation_maps c.snaps v.name) n) (sym (ap (λ (s : VolumeShape). s.snaps) is.shape)) now.shape_is.snaps);
    }

    layouts_now : AreLayouts c' (held_plexes c' all v.name) form.layouts.items
    layouts_now =
        subst (λ ps. AreLayouts c' ps form.layouts.items) (sym (held_now c c' v p.name lost all))
        (subst (λ ls. AreLayouts c' (filter (is_other p.name) (held_plexes c all v.name)) ls) (sym (is.layouts ∙ ap (λ ks. without_map (map_or_zero p.map) ks running.form.layouts.items) now.maps)) data_layouts)

    logs_are : AreLayouts c' (used_logs v.dco c' all false v.name) form.logs.items
    logs_are =
        subst (λ ps. AreLayouts c' ps form.logs.items) (sym (logs_stay c c' v p remove takes v.dco all false))
        (subst (λ ls. AreLayouts c' (used_logs v.dco c all false v.name) ls) (sym is.logs) log_layouts)

    pub form_parted : IsFormOf c' all v false form
    form_parted = record {
      shape_is = shape_now;
      maps = is.maps ∙ ap (λ ks. without_map (map_or_zero p.map) ks ks) now.maps ∙ maps_now;
      layouts = layouts_now;
      logs = logs_are;
    }

pub each_form_parted : {P : Type 0} {ghosts : Ghosts P} (see : P → Seen) (running : Running P ghosts) → EachPartedFormIsItsOwn see running
each_form_parted see running c good numbers v placed p remove c' takes form is = form_parted see running c good numbers v placed p remove c' takes form is
