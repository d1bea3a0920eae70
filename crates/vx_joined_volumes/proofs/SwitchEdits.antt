-- What the edit of a state leaves of a configuration: the plex gets its state, and all else is as it was.
use Rattle.std.proofs.Common.{◌≡◌, ◌≢◌, ◌⊎◌, inl, inr, ℕ, Bool, true, false, not, Option, Some, None, List, [], ◌∷◌, map, refl, sym, ◌∙◌, ap, subst}
use Rattle.std.specs.Prelude.{◌&&◌, ◌||◌, if◌then◌else◌, Contains}
use Rattle.std.specs.List.{filter, flat_map, list_all}
use Rattle.std.specs.Str.{bytes_eq}
use Rattle.std.proofs.lemmas.Bool.{and_parts, false≢true, false_from_ne_true}
use Rattle.vx_base.specs.Named.{Word}
use Rattle.vx_base.proofs.NamedLemmas.{bytes_eq_same, bytes_eq_self}
use Rattle.vx_mask.specs.Mask.{has}
use Rattle.vx_layout.specs.declared.place.Place.{Place}
use Rattle.vx_layout.specs.declared.strip.Strip.{Strip}
use Rattle.vx_layout.specs.Columns.{has_place}
use Rattle.vx_config_parts.specs.declared.object.Object.TheVariants.{VolRecord}
use Rattle.vx_config_parts.specs.declared.plex.Plex.{Plex}
use Rattle.vx_config_parts.specs.declared.state.PlexState.{PlexState}
use Rattle.vx_config_parts.specs.declared.vol.Vol.{Vol}
use Rattle.vx_config_parts.specs.Objects.{is_data, is_data_plex_of, is_log_plex_of, refers}
use Rattle.vx_objects.specs.declared.config.Config.{Config}
use Rattle.vx_objects.specs.declared.edit.Edit.{Edit}
use Rattle.vx_objects.specs.declared.edit.Edit.TheVariants.{SetPlex}
use Rattle.vx_objects.specs.Config.{objects_of}
use Rattle.vx_objects.specs.Edits.{edited}
use Rattle.vx_image.specs.Bytes.{is_held, map_or_zero}
use Rattle.vx_image.specs.Lies.{columns_from, slot_of}
use Rattle.vx_image.specs.Own.{IsOfPlex, IsOfVolume}
use Rattle.vx_image.specs.UsedPlexes.{IsVolOf, held_plexes, is_used_log, is_used_state, used_logs}
use Rattle.vx_image.proofs.Members.{contains, is_in}
use Rattle.vx_image.proofs.PlexMembers.{IsIn, from_map, in_map, one_in}
use Rattle.vx_lending.proofs.Rules.{one_plex}
use Rattle.vx_volume_laws.specs.Keeping.{LiesStill}
use Rattle.vx_volume_laws.proofs.Restated.{columns_same}
use Rattle.vx_group_edits.specs.OfVolume.{AreEditsOf}
use Rattle.vx_group_edits.proofs.ByKind.{plexes_are, plexes_own, subdisks_are, subdisks_own, vol_is}
use Rattle.vx_group_edits.proofs.DcoEdits.{own_name}
use Rattle.vx_group_edits.proofs.EditSteps.{as_set, plexes_set, stays_set, subdisks_set}
use Rattle.vx_group_edits.proofs.LonePlexes.{refers_is}
use Rattle.vx_group_edits.proofs.OwnEdits.{disks_same, snaps_same}
use Rattle.vx_joined_volumes.specs.Switched.{IsStateSet, SetsState, restated}
use Rattle.vx_joined_volumes.specs.SwitchLaws.{EachStateIsSet}
use Rattle.vx_joined_volumes.proofs.Plexes.{data_no_log}
use Rattle.vx_joined_volumes.proofs.Zips.{filter_maps}

module _ (c c' : Config) (v : Vol) (p : Plex) (next : PlexState) (sets : SetsState c v p next c') where
  abbrev edits : List Edit
  edits = SetPlex p.name (Some v.name) next p.map ∷ []

  -- what becomes of a plex
  abbrev pub set : Plex → Plex
  set q = as_set p.name (Some v.name) next p.map q

  pub p_there : IsIn c.plexes p
  p_there = is_in c.plexes p sets.there

  own : refers p.vol v.name ≡ true
  own = (and_parts (refers p.vol v.name) (is_data p.kind) sets.data_is).0

  of_volume : AreEditsOf c v.name edits
  of_volume = ((refl, own_name c v.name p p_there own), tt)

  -- ---- the records of each kind

  pub disks_stay : c'.disks ≡ c.disks
  disks_stay = disks_same c c' v.name edits of_volume sets.edited

  pub snaps_stay : c'.snaps ≡ c.snaps
  snaps_stay = snaps_same c c' v.name edits of_volume sets.edited

  pub subdisks_stay : c'.subdisks ≡ c.subdisks
  subdisks_stay =
      subdisks_are c' (edited (SetPlex p.name (Some v.name) next p.map) (objects_of c)) sets.edited
      ∙ subdisks_set p.name (Some v.name) next p.map (objects_of c)
      ∙ subdisks_own c

  pub plexes_now : c'.plexes ≡ map set c.plexes
  plexes_now =
      plexes_are c' (edited (SetPlex p.name (Some v.name) next p.map) (objects_of c)) sets.edited
      ∙ plexes_set p.name (Some v.name) next p.map (objects_of c)
      ∙ ap (λ ps. map set ps) (plexes_own c)

  pub recorded_still : IsVolOf c v → IsVolOf c' v
  recorded_still of =
      vol_is c' (edited (SetPlex p.name (Some v.name) next p.map) (objects_of c)) sets.edited v
      (stays_set v (objects_of c) (one_in (objects_of c) (VolRecord v) of) p.name (Some v.name) next p.map)

  -- ---- a plex

  -- the plex gets its state, ..
  pub set_own : set p ≡ restated p next
  set_own =
      ap (λ (b : Bool). if b then record p { vol = Some v.name; state = next; map = p.map } else p) (bytes_eq_self p.name)
      ∙ ap (λ (o : Option Word). record p { vol = o; state = next }) (sym (refers_is p.vol v.name own))

  -- .. and each other one stays as it is
  set_other : (q : Plex) → q.name ≢ p.name → set q ≡ q
  set_other q other = ap (λ (b : Bool). if b then record q { vol = Some v.name; state = next; map = p.map } else q) (false_from_ne_true (bytes_eq q.name p.name) (λ h. other (bytes_eq_same q.name p.name h)))

  pub own_or_other : (q : Plex) → IsIn c.plexes q → (q ≡ p) ⊎ ((q ≢ p) × (set q ≡ q))
  own_or_other q there = by (bytes_eq q.name p.name) refl
    where
      by : (b : Bool) → bytes_eq q.name p.name ≡ b → (q ≡ p) ⊎ ((q ≢ p) × (set q ≡ q))
      by true e = inl (one_plex c q p there p_there (bytes_eq_same q.name p.name e))
      by false e =
          let other : q.name ≢ p.name = λ same. false≢true (sym e ∙ subst (λ (n : Word). bytes_eq q.name n ≡ true) same (bytes_eq_self q.name)) in
          inr ((λ same. other (ap (λ (x : Plex). x.name) same)), set_other q other)

  pub set_leaves : (q : Plex) → IsIn c.plexes q → q ≢ p → set q ≡ q
  set_leaves q there other = elim (own_or_other q there) [ inl same ↦ absurd (other same) | inr left ↦ left.1 ]

  -- it is the same but for its state
  pub same_but : (q : Plex) → IsIn c.plexes q → set q ≡ record q { state = (set q).state }
  same_but q there = elim (own_or_other q there) [
    | inl same ↦ subst (λ (x : Plex). set x ≡ record x { state = (set x).state }) (sym same) (set_own ∙ ap (λ (x : Plex). record p { state = x.state }) (sym set_own))
    | inr other ↦ other.1 ∙ ap (λ (x : Plex). record q { state = x.state }) (sym other.1)
  ]

  pub name_same : (q : Plex) → IsIn c.plexes q → (set q).name ≡ q.name
  name_same q there = ap (λ (x : Plex). x.name) (same_but q there)

  pub map_same : (q : Plex) → IsIn c.plexes q → map_or_zero (set q).map ≡ map_or_zero q.map
  map_same q there = ap (λ (x : Plex). map_or_zero x.map) (same_but q there)

  pub data_same : (q : Plex) → IsIn c.plexes q → is_data_plex_of v.name (set q) ≡ is_data_plex_of v.name q
  data_same q there = ap (λ (x : Plex). is_data_plex_of v.name x) (same_but q there)

  pub lies_same : (q : Plex) → IsIn c.plexes q → LiesStill c c' q (set q)
  lies_same q there = record {
    unit = ap (λ (x : Plex). x.unit) (same_but q there);
    columns = ap (λ (x : Plex). columns_from x.ncol c' x.name 0) (same_but q there) ∙ columns_same c c' disks_stay subdisks_stay q.ncol q.name 0;
  }

  -- by the same disks all of its are good
  pub held_as : (good : ℕ) (q : Plex) → IsIn c.plexes q → is_held c' good (set q) ≡ is_held c good q
  held_as good q there =
      ap (λ n. list_all (λ s. not (refers s.plex n) || has good (slot_of c'.disks s.disk)) c'.subdisks) (name_same q there)
      ∙ ap (λ ds. list_all (λ s. not (refers s.plex q.name) || has good (slot_of ds s.disk)) c'.subdisks) disks_stay
      ∙ ap (λ ss. list_all (λ s. not (refers s.plex q.name) || has good (slot_of c.disks s.disk)) ss) subdisks_stay

  -- each plex of now is one of before as it is set
  pub came_from : (x : Plex) → IsIn c'.plexes x → (q : Plex) × IsIn c.plexes q × (x ≡ set q)
  came_from x there = from_map set c.plexes x (subst (λ ps. IsIn ps x) plexes_now there)

  pub stays_in : (q : Plex) → IsIn c.plexes q → IsIn c'.plexes (set q)
  stays_in q there = subst (λ ps. IsIn ps (set q)) (sym plexes_now) (in_map set c.plexes q there)

  -- ---- the plexes of the volume

  pub held_now : (good : ℕ) → held_plexes c' good v.name ≡ map set (held_plexes c good v.name)
  held_now good =
      ap (λ ps. filter (λ q. is_data_plex_of v.name q && is_held c' good q) ps) plexes_now
      ∙ filter_maps (λ q. is_data_plex_of v.name q && is_held c good q) (λ q. is_data_plex_of v.name q && is_held c' good q) set c.plexes
      (λ q there. ap (λ b. b && is_held c' good (set q)) (data_same q there) ∙ ap (λ b. is_data_plex_of v.name q && b) (held_as good q there))

  used_same : (good : ℕ) (fresh : Bool) (q : Plex) → IsIn c.plexes q → is_used_log c' good fresh v.name (set q) ≡ is_used_log c good fresh v.name q
  used_same good fresh q there = elim (own_or_other q there) [
    | inl same ↦
        ap (λ b. b && (is_used_state fresh (set q).state && is_held c' good (set q))) (ap (λ (x : Plex). is_log_plex_of v.name x) (same_but q there) ∙ ap (λ (x : Plex). is_log_plex_of v.name x) same ∙ data_no_log v.name p sets.data_is)
        ∙ sym (ap (λ b. b && (is_used_state fresh q.state && is_held c good q)) (ap (λ (x : Plex). is_log_plex_of v.name x) same ∙ data_no_log v.name p sets.data_is))
    | inr other ↦
        ap (λ b. is_log_plex_of v.name (set q) && (is_used_state fresh (set q).state && b)) (held_as good q there)
        ∙ ap (λ (x : Plex). is_log_plex_of v.name x && (is_used_state fresh x.state && is_held c good q)) other.1
  ]

  pub logs_now : (dco : Option Word) (good : ℕ) (fresh : Bool) → used_logs dco c' good fresh v.name ≡ map set (used_logs dco c good fresh v.name)
  logs_now None good fresh = refl
  logs_now (Some dco) good fresh =
      ap (λ ps. filter (is_used_log c' good fresh v.name) ps) plexes_now
      ∙ filter_maps (is_used_log c good fresh v.name) (is_used_log c' good fresh v.name) set c.plexes (used_same good fresh)

  -- ---- all that the edit leaves

  from_one : (x : Plex) → (q : Plex) × IsIn c.plexes q × (x ≡ set q) → (x ≡ restated p next) ⊎ Contains c.plexes x
  from_one x q = elim (own_or_other q.0 q.1) [
    | inl same ↦ inl (q.2 ∙ ap set same ∙ set_own)
    | inr other ↦ inr (contains c.plexes x (subst (λ (y : Plex). IsIn c.plexes y) (sym (q.2 ∙ other.1)) q.1))
  ]

  place_was : (place : Place) → IsOfVolume c' v.name place → IsOfVolume c v.name place
  place_was place of =
      let q = came_from of.0 (is_in c'.plexes of.0 of.1) in
      let lies = lies_same q.0 q.1 in
      let own = subst (λ (x : Plex). refers x.vol v.name ≡ true) q.2 of.2 in
      let on = subst (λ (x : Plex). IsOfPlex c' x place) q.2 of.3 in (
        q.0,
        contains c.plexes q.0 q.1,
        sym (ap (λ (x : Plex). refers x.vol v.name) (same_but q.0 q.1)) ∙ own,
        subst (λ columns. (strip : Strip) × Contains (flat_map (λ strips. strips) columns) strip × (has_place strip place ≡ true)) lies.columns on,
      )

  pub state_set : IsVolOf c v → IsStateSet c v p next c'
  state_set of = record {
    recorded = recorded_still of;
    disks = disks_stay;
    subdisks = subdisks_stay;
    snaps = snaps_stay;
    own = contains c'.plexes (restated p next) (subst (λ (x : Plex). IsIn c'.plexes x) set_own (stays_in p p_there));
    others = λ q there other.
        let is = is_in c.plexes q there in
        contains c'.plexes q (subst (λ (x : Plex). IsIn c'.plexes x) (set_leaves q is other) (stays_in q is));
    none_added = λ x there. from_one x (came_from x (is_in c'.plexes x there));
    lies = λ q. record { unit = refl; columns = columns_same c c' disks_stay subdisks_stay q.ncol q.name 0 };
    places = place_was;
  }

pub each_state_set : EachStateIsSet
each_state_set c v of p next c' sets = state_set c c' v p next sets of
