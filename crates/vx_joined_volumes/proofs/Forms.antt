-- The form of a volume with one plex more is that of the volume by the new configuration.
use Rattle.std.proofs.Common.{◌≡◌, ℕ, Bool, true, false, cond, not, Option, Some, None, List, [], ◌∷◌, ◌++◌, inl, refl, sym, ◌∙◌, ap, subst, arith}
use Rattle.std.specs.Prelude.{◌&&◌}
use Rattle.std.specs.List.{filter}
use Rattle.std.proofs.lemmas.Bool.{and_from, false_from_ne_true}
use Rattle.std.proofs.lemmas.List.{append-nil, map-append}
use Rattle.vx_base.specs.Named.{Word}
use Rattle.vx_piece.specs.Seen.{Seen}
use Rattle.vx_layout.specs.declared.layout.Layout.{Layout}
use Rattle.vx_pages.specs.declared.local_piece.LocalPiece.{Ghosts}
use Rattle.vx_config_parts.specs.declared.object.Object.{Object}
use Rattle.vx_config_parts.specs.declared.plex.Plex.{Plex}
use Rattle.vx_config_parts.specs.declared.vol.Vol.{Vol}
use Rattle.vx_config_parts.specs.Objects.{is_data_plex_of}
use Rattle.vx_objects.specs.declared.config.Config.{Config}
use Rattle.vx_image.proofs.PlexMembers.{IsIn, in_left, in_right}
use Rattle.vx_image.specs.Bytes.{is_held, map_or_zero, relation_maps}
use Rattle.vx_image.specs.UsedPlexes.{IsVolOf, held_plexes, is_on, is_used_log, is_used_state, maps_of, off_plexes, on_plexes, used_logs}
use Rattle.vx_image.proofs.Members.{contains}
use Rattle.vx_volume.specs.declared.volume.VolumeShape.{VolumeShape}
use Rattle.vx_lending.specs.RegionsTaken.{is_among}
use Rattle.vx_lending.specs.declared.form.VolumeForm.{VolumeForm}
use Rattle.vx_lending.specs.Form.{AreLayouts, IsFormOf, IsLayoutOf, IsMaskOf}
use Rattle.vx_lending.proofs.Maps.{one_of_map, plex_among}
use Rattle.vx_lending.proofs.Places.{held_taken, log_taken}
use Rattle.vx_lending.proofs.Unions.{mask_push}
use Rattle.vx_lending.proofs.Zips.{zip_push}
use Rattle.vx_lending.specs.declared.public.Running.{Running}
use Rattle.vx_group_edits.specs.Joins.{Joins, plexes_in}
use Rattle.vx_group_edits.proofs.Joined.{plex_joins}
use Rattle.vx_group_volumes.specs.Places.{RunsInPlace}
use Rattle.vx_group_volumes.specs.Runs.{Opening}
use Rattle.vx_joined_volumes.specs.Joined.{IsFormJoined, JoinsOne, good_joined}
use Rattle.vx_joined_volumes.specs.Laws.{EachJoinedFormIsItsOwn}
use Rattle.vx_joined_volumes.proofs.Held.{held_more}
use Rattle.vx_joined_volumes.proofs.Now.{form_now, more_good}
use Rattle.vx_joined_volumes.proofs.Plexes.{data_no_log}
use Rattle.vx_joined_volumes.proofs.Zips.{zip_more}

module _ {P : Type 0} {ghosts : Ghosts P} (see : P → Seen) (running : Running P ghosts) (c : Config) (good : ℕ) (numbers : List ℕ) (v : Vol) (placed : RunsInPlace see c good numbers v running)
    (added : List Object) (c' : Config) (p : Plex) (m : ℕ) (one : JoinsOne c good v added c' p m) where
  abbrev o : Opening
  o = placed.runs.opening

  abbrev joined : ℕ
  joined = good_joined placed.runs.opening good

  -- ---- what has joined

  pub joins : Joins c v.name added c'
  joins = plex_joins c c' v.name added one.of one.edited

  pub recorded_now : IsVolOf c' v
  recorded_now = joins.recorded v placed.runs.recorded

  pub new_there : IsIn c'.plexes p
  new_there = subst (λ ps. IsIn ps p) (sym (joins.plexes ∙ ap (λ ps. c.plexes ++ ps) one.alone)) (in_right c.plexes (p ∷ []) p (inl refl))

  -- it is the last of what passes a test, if it passes
  kept_one : (t : Plex → Bool) → t p ≡ true → filter t (plexes_in added) ≡ p ∷ []
  kept_one t passes = ap (λ ps. filter t ps) one.alone ∙ ap (λ b. cond b (p ∷ []) []) passes

  left_one : (t : Plex → Bool) → t p ≡ false → filter t (plexes_in added) ≡ []
  left_one t fails = ap (λ ps. filter t ps) one.alone ∙ ap (λ b. cond b (p ∷ []) []) fails

  held_now : is_held c' joined p ≡ true
  held_now = held_more c' good joined (more_good see running c good numbers v placed) p new_there one.held

  on_now : is_on c' joined p ≡ true
  on_now = and_from _ _ held_now one.state

  pub held_joined : held_plexes c' joined v.name ≡ held_plexes c joined v.name ++ p ∷ []
  held_joined = joins.held joined ∙ ap (λ ps. held_plexes c joined v.name ++ ps) (kept_one (λ q. is_data_plex_of v.name q && is_held c' joined q) (and_from _ _ one.data_is held_now))

  on_joined : on_plexes c' joined v.name ≡ on_plexes c joined v.name ++ p ∷ []
  on_joined = joins.on joined ∙ ap (λ ps. on_plexes c joined v.name ++ ps) (kept_one (λ q. is_data_plex_of v.name q && is_on c' joined q) (and_from _ _ one.data_is on_now))

  off_joined : off_plexes c' joined v.name ≡ off_plexes c joined v.name
  off_joined =
      let fails : (is_data_plex_of v.name p && not (is_on c' joined p)) ≡ false = ap (λ b. b && not (is_on c' joined p)) one.data_is ∙ ap not on_now in
      joins.off joined ∙ ap (λ ps. off_plexes c joined v.name ++ ps) (left_one (λ q. is_data_plex_of v.name q && not (is_on c' joined q)) fails) ∙ append-nil (off_plexes c joined v.name)

  logs_by : (dco : Option Word) → used_logs dco c' joined false v.name ≡ used_logs dco c joined false v.name
  logs_by None = refl
  logs_by (Some dco) =
      let fails : is_used_log c' joined false v.name p ≡ false = ap (λ b. b && (is_used_state false p.state && is_held c' joined p)) (data_no_log v.name p one.data_is) in
      joins.logs dco joined false ∙ ap (λ ps. used_logs (Some dco) c joined false v.name ++ ps) (left_one (is_used_log c' joined false v.name) fails) ∙ append-nil (used_logs (Some dco) c joined false v.name)

  pub logs_joined : used_logs v.dco c' joined false v.name ≡ used_logs v.dco c joined false v.name
  logs_joined = logs_by v.dco

  -- ---- its maps

  abbrev now : IsFormOf c joined v false running.form
  now = form_now see running c good numbers v placed

  maps_one : (ps : List Plex) → maps_of (ps ++ p ∷ []) ≡ maps_of ps ++ m ∷ []
  maps_one ps = map-append (λ (q : Plex). map_or_zero q.map) ps (p ∷ []) ∙ ap (λ o. maps_of ps ++ map_or_zero o ∷ []) one.map

  -- a data plex that was there has another
  pub other_map : (q : Plex) → IsIn c.plexes q → is_data_plex_of v.name q ≡ true → map_or_zero q.map ≡ m → ⊥
  other_map q there own same =
      let q_there = subst (λ ps. IsIn ps q) (sym joins.plexes) (in_left c.plexes (plexes_in added) q there) in
      let is = one_of_map c' v recorded_now q p q_there new_there own one.data_is (same ∙ sym (ap map_or_zero one.map)) in
      (joins.new p (contains (plexes_in added) p (subst (λ ps. IsIn ps p) (sym one.alone) (inl refl)))).name q (contains c.plexes q there) (ap (λ (x : Plex). x.name) is)

  pub map_new : is_among m running.form.maps.items ≡ false
  map_new = false_from_ne_true _ (λ among.
      let r = plex_among (held_plexes c joined v.name) m (subst (λ ms. is_among m ms ≡ true) now.maps among) in
      let w = held_taken c joined v r.plex r.there in
      other_map r.plex w.0.there w.1 r.map_is)

  -- ---- its layouts

  lay_on : (q : Plex) (l : Layout) → IsIn c.plexes q → IsLayoutOf c q l → IsLayoutOf c' q l
  lay_on q l there lay = record { unit = lay.unit; columns = lay.columns ∙ sym (joins.old q (contains c.plexes q there)).lies.columns }

  data_layouts : AreLayouts c' (held_plexes c joined v.name) running.form.layouts.items
  data_layouts = zip_more (IsLayoutOf c) (IsLayoutOf c') (held_plexes c joined v.name) running.form.layouts.items now.layouts (λ q l there in_form lay. lay_on q l (held_taken c joined v q there).0.there lay)

  log_layouts : AreLayouts c' (used_logs v.dco c joined false v.name) running.form.logs.items
  log_layouts = zip_more (IsLayoutOf c) (IsLayoutOf c') (used_logs v.dco c joined false v.name) running.form.logs.items now.logs (λ q l there in_form lay. lay_on q l (log_taken c joined v false v.dco q there).0.there lay)

  -- ---- the form

  module _ (l : Layout) (lay : IsLayoutOf c' p l) (form : VolumeForm) (is : IsFormJoined m l running.form form) where
    on_mask : IsMaskOf (maps_of (on_plexes c' joined v.name)) form.shape.on
    on_mask =
        let low = one.low in
        subst (λ ms. IsMaskOf ms form.shape.on) (sym (ap maps_of on_joined ∙ maps_one (on_plexes c joined v.name)))
        (subst (λ n. IsMaskOf (maps_of (on_plexes c joined v.name) ++ m ∷ []) n) (sym (ap (λ (s : VolumeShape). s.on) is.shape))
        (mask_push (maps_of (on_plexes c joined v.name)) running.form.shape.on m now.shape_is.on (omega (arith, low))))

    pub form_joined : IsFormOf c' joined v false form
    form_joined = record {
      shape_is = record {
        length_is = ap (λ (s : VolumeShape). s.geometry.length) is.shape ∙ now.shape_is.length_is;
        region_is = ap (λ (s : VolumeShape). s.geometry.region) is.shape ∙ now.shape_is.region_is;
        on = on_mask;
        off = subst (λ ms. IsMaskOf ms form.shape.off) (sym (ap maps_of off_joined))
            (subst (λ n. IsMaskOf (maps_of (off_plexes c joined v.name)) n) (sym (ap (λ (s : VolumeShape). s.off) is.shape)) now.shape_is.off);
        snaps = subst (λ ms. IsMaskOf ms form.shape.snaps) (sym (ap (λ ss. relation_maps ss v.name) joins.snaps))
            (subst (λ n. IsMaskOf (relation_maps c.snaps v.name) n) (sym (ap (λ (s : VolumeShape). s.snaps) is.shape)) now.shape_is.snaps);
      };
      maps = is.maps ∙ ap (λ ms. ms ++ m ∷ []) now.maps ∙ sym (ap maps_of held_joined ∙ maps_one (held_plexes c joined v.name));
      layouts = subst (λ ps. AreLayouts c' ps form.layouts.items) (sym held_joined)
          (subst (λ ls. AreLayouts c' (held_plexes c joined v.name ++ p ∷ []) ls) (sym is.layouts) (zip_push (IsLayoutOf c') (held_plexes c joined v.name) running.form.layouts.items p l data_layouts lay));
      logs = subst (λ ps. AreLayouts c' ps form.logs.items) (sym logs_joined) (subst (λ ls. AreLayouts c' (used_logs v.dco c joined false v.name) ls) (sym is.logs) log_layouts);
    }

pub each_form_joined : {P : Type 0} {ghosts : Ghosts P} (see : P → Seen) (running : Running P ghosts) → EachJoinedFormIsItsOwn see running
each_form_joined see running c good numbers v placed added c' p m one l lay form is = form_joined see running c good numbers v placed added c' p m one l lay form is
