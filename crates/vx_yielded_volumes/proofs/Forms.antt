-- The form of a volume without a copy of its log, or as it was, is that of the volume by the new configuration.
use Rattle.std.proofs.Common.{◌≡◌, ◌≢◌, ℕ, Bool, true, false, List, refl, sym, ◌∙◌, ap, subst}
use Rattle.std.specs.Prelude.{◌&&◌}
use Rattle.std.specs.List.{filter, remove}
use Rattle.std.proofs.lemmas.Bool.{and_parts, false≢true}
use Rattle.vx_piece.specs.Seen.{Seen}
use Rattle.vx_layout.specs.declared.layout.Layout.{Layout}
use Rattle.vx_pages.specs.declared.local_piece.LocalPiece.{Ghosts}
use Rattle.vx_config_parts.specs.declared.plex.Plex.{Plex}
use Rattle.vx_config_parts.specs.declared.vol.Vol.{Vol}
use Rattle.vx_config_parts.specs.Objects.{is_data_plex_of}
use Rattle.vx_objects.specs.declared.config.Config.{Config}
use Rattle.vx_image.specs.Bytes.{is_held, relation_maps}
use Rattle.vx_image.specs.UsedPlexes.{held_plexes, maps_of, off_plexes, on_plexes, used_logs}
use Rattle.vx_image.proofs.PlexMembers.{IsIn}
use Rattle.vx_volume.specs.declared.volume.VolumeShape.{VolumeShape}
use Rattle.vx_lending.specs.declared.form.VolumeForm.{VolumeForm}
use Rattle.vx_lending.specs.Form.{AreLayouts, IsFormOf, IsLayoutOf, IsMaskOf, IsShapeOf}
use Rattle.vx_lending.proofs.Distinct.{filtered}
use Rattle.vx_lending.proofs.Places.{log_taken}
use Rattle.vx_lending.proofs.Rules.{one_plex}
use Rattle.vx_lending.specs.declared.public.Running.{Running}
use Rattle.vx_group_edits.proofs.Lists.{filter_passed}
use Rattle.vx_group_volumes.specs.Places.{RunsInPlace}
use Rattle.vx_joined_volumes.specs.Joined.{good_joined}
use Rattle.vx_joined_volumes.proofs.Now.{form_now}
use Rattle.vx_joined_volumes.proofs.PartEdits.{HasLost, columns_stay, is_other, logs_now, name_other, other_name}
use Rattle.vx_joined_volumes.proofs.Zips.{zip_more}
use Rattle.vx_yielded_volumes.specs.Yielded.{IsCopyOn, IsFormYielded, IsOnNoCopy, TakesLogOut}
use Rattle.vx_yielded_volumes.specs.YieldLaws.{EachUnloggedFormIsItsOwn, EachYieldedFormIsItsOwn}
use Rattle.vx_yielded_volumes.proofs.Copies.{among_log, copy_place, log_missed}
use Rattle.vx_yielded_volumes.proofs.Edits.{data_other, has_lost, held_stay, off_stay, on_stay, p_there}
use Rattle.vx_yielded_volumes.proofs.Lists.{logs_differ, others_of, zip_removed}

module _ {P : Type 0} {ghosts : Ghosts P} (see : P → Seen) (running : Running P ghosts) (c : Config) (good : ℕ) (numbers : List ℕ) (v : Vol) (placed : RunsInPlace see c good numbers v running)
    (p : Plex) (remove_it : Bool) (c' : Config) (takes : TakesLogOut c v p remove_it c') where
  abbrev all : ℕ
  all = good_joined placed.runs.opening good

  abbrev now : IsFormOf c all v false running.form
  now = form_now see running c good numbers v placed

  abbrev lost : HasLost c c' v p.name
  lost = has_lost c c' v p remove_it takes

  -- the logs that are used, and those that are without the plex
  abbrev logs : List Plex
  logs = used_logs v.dco c all false v.name

  abbrev others : List Plex
  others = filter (is_other p.name) logs

  lay_on : (q : Plex) (l : Layout) → q.name ≢ p.name → IsLayoutOf c q l → IsLayoutOf c' q l
  lay_on q l other lay = record { unit = lay.unit; columns = lay.columns ∙ sym (columns_stay c c' v p.name lost q other) }

  data_layouts : AreLayouts c' (held_plexes c all v.name) running.form.layouts.items
  data_layouts =
      zip_more (IsLayoutOf c) (IsLayoutOf c') (held_plexes c all v.name) running.form.layouts.items now.layouts
      (λ q l there in_form lay.
      let w = filtered (λ q. is_data_plex_of v.name q && is_held c all q) c.plexes q there in
      lay_on q l (data_other c v p q (p_there c c' v p remove_it takes) w.0 takes.log_is (and_parts (is_data_plex_of v.name q) (is_held c all q) w.1).0) lay)

  -- ---- a form with the same plexes, and with the logs that are used now

  module _ (form : VolumeForm) (shape : form.shape ≡ running.form.shape) (maps : form.maps.items ≡ running.form.maps.items) (layouts : form.layouts.items ≡ running.form.layouts.items) (lie : AreLayouts c others form.logs.items) where
    shape_now : IsShapeOf c' all v form.shape
    shape_now = record {
      length_is = ap (λ (s : VolumeShape). s.geometry.length) shape ∙ now.shape_is.length_is;
      region_is = ap (λ (s : VolumeShape). s.geometry.region) shape ∙ now.shape_is.region_is;
      on = subst (λ ps. IsMaskOf (maps_of ps) form.shape.on) (sym (on_stay c c' v p remove_it takes all)) (subst (λ (s : VolumeShape). IsMaskOf (maps_of (on_plexes c all v.name)) s.on) (sym shape) now.shape_is.on);
      off = subst (λ ps. IsMaskOf (maps_of ps) form.shape.off) (sym (off_stay c c' v p remove_it takes all)) (subst (λ (s : VolumeShape). IsMaskOf (maps_of (off_plexes c all v.name)) s.off) (sym shape) now.shape_is.off);
      snaps = subst (λ ms. IsMaskOf ms form.shape.snaps) (sym (ap (λ ss. relation_maps ss v.name) lost.snaps)) (subst (λ (s : VolumeShape). IsMaskOf (relation_maps c.snaps v.name) s.snaps) (sym shape) now.shape_is.snaps);
    }

    logs_are : AreLayouts c' (used_logs v.dco c' all false v.name) form.logs.items
    logs_are =
        subst (λ ps. AreLayouts c' ps form.logs.items) (sym (logs_now c c' v p.name lost v.dco all false))
        (zip_more (IsLayoutOf c) (IsLayoutOf c') (filter (is_other p.name) (used_logs v.dco c all false v.name)) form.logs.items lie
        (λ q l there in_form lay. lay_on q l (other_name p.name q (filtered (is_other p.name) (used_logs v.dco c all false v.name) q there).1) lay))

    pub form_left : IsFormOf c' all v false form
    form_left = record {
      shape_is = shape_now;
      maps = maps ∙ now.maps ∙ sym (ap maps_of (held_stay c c' v p remove_it takes all));
      layouts = subst (λ ps. AreLayouts c' ps form.layouts.items) (sym (held_stay c c' v p remove_it takes all)) (subst (λ ls. AreLayouts c' (held_plexes c all v.name) ls) (sym layouts) data_layouts);
      logs = logs_are;
    }

  -- ---- the two cases

  module _ (l : Layout) (lay : IsLayoutOf c p l) where
    pub form_yielded : (copy : ℕ) → IsCopyOn running.form.logs.items copy l → (form : VolumeForm) → IsFormYielded copy running.form form → IsFormOf c' all v false form
    form_yielded copy on form is =
        let place = copy_place see running c good numbers v placed p (p_there c c' v p remove_it takes) takes.log_is l lay copy on in
        let left = zip_removed (IsLayoutOf c) (used_logs v.dco c all false v.name) running.form.logs.items copy now.logs place.inside in
        form_left form is.shape is.maps is.layouts
        (subst (λ ls. AreLayouts c (filter (is_other p.name) (used_logs v.dco c all false v.name)) ls) (sym is.logs)
        (subst (λ ps. AreLayouts c ps (remove running.form.logs.items copy)) (sym (others_of p (used_logs v.dco c all false v.name) copy (logs_differ c all false v.name v.dco) place)) left))

    -- it is none of the logs that are used
    unused : IsOnNoCopy running.form.logs.items l → (q : Plex) → IsIn (used_logs v.dco c all false v.name) q → is_other p.name q ≡ true
    unused none q there =
        let here = p_there c c' v p remove_it takes in
        name_other p.name q (λ named.
        let same = one_plex c q p (log_taken c all v false v.dco q there).0.there here named in
        false≢true (sym (log_missed see running c good numbers v placed p here takes.log_is l lay none)
        ∙ among_log see running c good numbers v placed p here takes.log_is (subst (λ (x : Plex). IsIn (used_logs v.dco c all false v.name) x) same there)))

    pub form_unlogged : IsOnNoCopy running.form.logs.items l → IsFormOf c' all v false running.form
    form_unlogged none =
        form_left running.form refl refl refl
        (subst (λ ps. AreLayouts c ps running.form.logs.items) (sym (filter_passed (is_other p.name) (used_logs v.dco c all false v.name) (unused none))) now.logs)

pub each_form_yielded : {P : Type 0} {ghosts : Ghosts P} (see : P → Seen) (running : Running P ghosts) → EachYieldedFormIsItsOwn see running
each_form_yielded see running c good numbers v placed p remove_it c' takes l lay copy on form is = form_yielded see running c good numbers v placed p remove_it c' takes l lay copy on form is

pub each_form_unlogged : {P : Type 0} {ghosts : Ghosts P} (see : P → Seen) (running : Running P ghosts) → EachUnloggedFormIsItsOwn see running
each_form_unlogged see running c good numbers v placed p remove_it c' takes l lay none = form_unlogged see running c good numbers v placed p remove_it c' takes l lay none
