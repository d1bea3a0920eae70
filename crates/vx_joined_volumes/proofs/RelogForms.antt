-- The form of a volume of one plex with another log is that of the volume by the new configuration.
use Rattle.std.proofs.Common.{◌≡◌, ℕ, ◌<◌, true, false, List, [], ◌∷◌, map, sym, ◌∙◌, ap, subst, arith}
use Rattle.std.proofs.lemmas.Bool.{and_from, eq-eqb, or_left}
use Rattle.vx_mask.specs.Mask.{has, only}
use Rattle.vx_mask.proofs.MaskLemmas.{has-only_same, only-lt, same_as_only}
use Rattle.vx_piece.specs.Seen.{Seen}
use Rattle.vx_layout.specs.declared.layout.Layout.{Layout}
use Rattle.vx_pages.specs.declared.local_piece.LocalPiece.{Ghosts}
use Rattle.vx_config_parts.specs.declared.plex.Plex.{Plex}
use Rattle.vx_config_parts.specs.declared.vol.Vol.{Vol}
use Rattle.vx_objects.specs.declared.config.Config.{Config}
use Rattle.vx_image.specs.Bytes.{is_held, relation_maps}
use Rattle.vx_image.specs.Image.{is_available_state}
use Rattle.vx_image.specs.UsedPlexes.{held_plexes, is_on, maps_of, used_logs}
use Rattle.vx_volume.specs.declared.volume.VolumeShape.{VolumeShape}
use Rattle.vx_lending.specs.RegionsTaken.{is_among}
use Rattle.vx_lending.specs.declared.form.VolumeForm.{VolumeForm}
use Rattle.vx_lending.specs.Form.{AreLayouts, IsFormOf, IsLayoutOf, IsMaskOf}
use Rattle.vx_lending.proofs.Unions.{mask_none}
use Rattle.vx_lending.specs.declared.public.Running.{Running}
use Rattle.vx_volume_laws.specs.Keeping.{data_plexes}
use Rattle.vx_group_volumes.specs.Places.{RunsInPlace}
use Rattle.vx_group_volumes.specs.Runs.{Opening}
use Rattle.vx_group_edits.specs.Dcos.{ChangesDco}
use Rattle.vx_joined_volumes.specs.Joined.{good_joined}
use Rattle.vx_joined_volumes.specs.Relogged.{IsFormRelogged}
use Rattle.vx_joined_volumes.specs.RelogLaws.{EachReloggedFormIsItsOwn}
use Rattle.vx_joined_volumes.proofs.Alone.{IsLone, held_lone, lone_data, lone_maps, off_lone, on_lone, only_map, was_available, was_held}
use Rattle.vx_joined_volumes.proofs.Held.{same_test}
use Rattle.vx_joined_volumes.proofs.Plexes.{IsSameData}

-- the mask of one map
mask_one : (m : ℕ) → m < 64 → IsMaskOf (m ∷ []) (only m)
mask_one m low = record {
  fits = only-lt m;
  each = λ k. same_test (has (only m) k) (is_among k (m ∷ []))
      (λ there. or_left _ _ (eq-eqb m k (sym (same_as_only m k there))))
      (λ among. subst (λ n. has (only m) n ≡ true) (sym (only_map m k among)) (has-only_same m low));
}

-- the layouts of one plex are those of another that lies where it lies
layouts_turn : (c c' : Config) (p p' : Plex) (ls : List Layout) → ((l : Layout) → IsLayoutOf c p l → IsLayoutOf c' p' l) → AreLayouts c (p ∷ []) ls → AreLayouts c' (p' ∷ []) ls
layouts_turn c c' p p' [] turn lay = absurd lay
layouts_turn c c' p p' (l ∷ []) turn lay = (turn l lay.0, tt)
layouts_turn c c' p p' (l ∷ m ∷ ls) turn lay = absurd lay.1

module _ {P : Type 0} {ghosts : Ghosts P} (see : P → Seen) (running : Running P ghosts) (c : Config) (good : ℕ) (numbers : List ℕ) (v : Vol) (placed : RunsInPlace see c good numbers v running)
    (c' : Config) (v' : Vol) (p p' : Plex) (changes : ChangesDco c v c' v' p p') where
  abbrev o : Opening
  o = placed.runs.opening

  abbrev joined : ℕ
  joined = good_joined placed.runs.opening good

  pub name_is : v'.name ≡ v.name
  name_is = ap (λ (x : Vol). x.name) changes.volume

  -- ---- its one plex

  -- as the volume was opened
  abbrev was : IsLone (IsSameData o.config o.good c joined) (data_plexes o.config o.vol.name) p
  was = lone_data see running c good numbers v placed p changes.was

  pub data_now : data_plexes c' v'.name ≡ p' ∷ []
  data_now = ap (λ n. data_plexes c' n) name_is ∙ changes.is

  held_now : is_held c' joined p' ≡ true
  held_now = changes.held joined ∙ was.goes.same.held ∙ was_held see running c good numbers v placed p changes.was

  on_now : is_on c' joined p' ≡ true
  on_now = and_from _ _ held_now (ap (λ (q : Plex). is_available_state q.state) changes.plex ∙ was.goes.available ∙ was_available see running c good numbers v placed p changes.was)

  pub held_all : held_plexes c' joined v'.name ≡ p' ∷ []
  held_all = held_lone c' joined v'.name p' data_now held_now

  maps_now : maps_of (p' ∷ []) ≡ 0 ∷ []
  maps_now = ap (λ m. m ∷ []) changes.number

  -- ---- the form

  module _ (region : v'.region ≡ v.region) (logs : List Layout) (lay : AreLayouts c' (used_logs v'.dco c' (good_joined placed.runs.opening good) false v.name) logs) (form : VolumeForm) (is : IsFormRelogged logs running.form form) where
    lay_now : AreLayouts c' (p' ∷ []) form.layouts.items
    lay_now =
        let own : AreLayouts o.config (was.item ∷ []) running.form.layouts.items =
        subst (λ ps. AreLayouts o.config ps running.form.layouts.items) (held_lone o.config o.good o.vol.name was.item was.is (was_held see running c good numbers v placed p changes.was)) placed.runs.form.layouts in
        subst (λ ls. AreLayouts c' (p' ∷ []) ls) (sym is.layouts)
        (layouts_turn o.config c' was.item p' running.form.layouts.items
        (λ l at. record { unit = at.unit ∙ sym was.goes.same.lies.unit ∙ sym changes.lies.unit; columns = at.columns ∙ sym was.goes.same.lies.columns ∙ sym changes.lies.columns }) own)

    pub form_relogged : IsFormOf c' joined v' false form
    form_relogged = record {
      shape_is = record {
        length_is = ap (λ (s : VolumeShape). s.geometry.length) is.shape ∙ placed.runs.form.shape_is.length_is ∙ sym placed.runs.keeps.length_is ∙ sym (ap (λ (x : Vol). x.len) changes.volume);
        region_is = ap (λ (s : VolumeShape). s.geometry.region) is.shape ∙ placed.runs.form.shape_is.region_is ∙ sym placed.runs.keeps.region_is ∙ sym region;
        on = subst (λ ms. IsMaskOf ms form.shape.on) (sym (ap maps_of (on_lone c' joined v'.name p' data_now on_now) ∙ maps_now))
            (subst (λ n. IsMaskOf (0 ∷ []) n) (sym (ap (λ (s : VolumeShape). s.on) is.shape)) (mask_one 0 (omega arith)));
        off = subst (λ ms. IsMaskOf ms form.shape.off) (sym (ap maps_of (off_lone c' joined v'.name p' data_now on_now)))
            (subst (λ n. IsMaskOf [] n) (sym (ap (λ (s : VolumeShape). s.off) is.shape)) mask_none);
        snaps = subst (λ ms. IsMaskOf ms form.shape.snaps) (sym (ap (λ n. relation_maps c'.snaps n) name_is ∙ changes.alone_now))
            (subst (λ n. IsMaskOf [] n) (sym (ap (λ (s : VolumeShape). s.snaps) is.shape)) mask_none);
      };
      maps = is.maps ∙ ap (λ ms. map (λ (m : ℕ). 0) ms) (lone_maps see running c good numbers v placed p changes.was) ∙ sym (ap maps_of held_all ∙ maps_now);
      layouts = subst (λ ps. AreLayouts c' ps form.layouts.items) (sym held_all) lay_now;
      logs = subst (λ n. AreLayouts c' (used_logs v'.dco c' joined false n) form.logs.items) (sym name_is)
          (subst (λ ls. AreLayouts c' (used_logs v'.dco c' joined false v.name) ls) (sym is.logs_are) lay);
    }

pub each_form_relogged : {P : Type 0} {ghosts : Ghosts P} (see : P → Seen) (running : Running P ghosts) → EachReloggedFormIsItsOwn see running
each_form_relogged see running c good numbers v placed c' v' p p' changes region logs lay form is = form_relogged see running c good numbers v placed c' v' p p' changes region logs lay form is
