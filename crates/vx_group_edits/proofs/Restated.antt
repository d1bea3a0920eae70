-- What a start and a stop of another volume record.
use Rattle.std.proofs.Common.{◌≡◌, ◌≢◌, Bool, true, false, cond, Option, Some, None, List, [], ◌∷◌, map, refl, sym, ◌∙◌, ap, subst}
use Rattle.std.specs.Prelude.{if◌then◌else◌}
use Rattle.std.specs.List.{AllZip, filter}
use Rattle.std.specs.Str.{bytes_eq}
use Rattle.std.proofs.lemmas.Bool.{false_from_ne_true}
use Rattle.std.proofs.lemmas.List.{append-nil}
use Rattle.vx_base.specs.Named.{Word}
use Rattle.vx_base.proofs.NamedLemmas.{bytes_eq_same}
use Rattle.vx_config_parts.specs.declared.object.Object.TheVariants.{VolRecord}
use Rattle.vx_config_parts.specs.declared.plex.Plex.{Plex}
use Rattle.vx_config_parts.specs.declared.state.PlexState.{PlexState}
use Rattle.vx_config_parts.specs.declared.state.VolState.{VolState}
use Rattle.vx_config_parts.specs.declared.state.VolState.TheVariants as vol
use Rattle.vx_config_parts.specs.declared.vol.Vol.{Vol}
use Rattle.vx_config_parts.specs.Objects.{refers}
use Rattle.vx_objects.specs.declared.config.Config.{Config}
use Rattle.vx_objects.specs.Config.{objects_of}
use Rattle.vx_image.proofs.PlexMembers.{IsIn, in_map, in_one, one_in}
use Rattle.vx_state_edits.specs.Edits.{is_new, started, stopped}
use Rattle.vx_state_edits.specs.Laws.{EachStartRestates, EachStopRestates, IsPlexAfter, Restates, in_state}
use Rattle.vx_image.specs.UsedPlexes.{IsVolOf}
use Rattle.vx_group_edits.specs.Laws.{EachStartKeeps, EachStopKeeps}
use Rattle.vx_group_edits.proofs.ByKind.{records_vol, vol_recorded}
use Rattle.vx_group_edits.proofs.Lists.{among}
use Rattle.vx_group_edits.proofs.Untouched.{Untouched, stays}

module _ (c : Config) (v : Vol) (of : IsVolOf c v) (u : Word) (other : v.name ≢ u) (next : VolState) (after : Plex → PlexState) (c' : Config) (changes : Restates u next after c c') where
  -- a plex of this volume is none of that one, and is the same
  off : (p : Plex) → refers p.vol v.name ≡ true → refers p.vol u ≡ false
  off p mine = by p.vol mine
    where
      by : (attribute : Option Word) → refers attribute v.name ≡ true → refers attribute u ≡ false
      by None is = refl
      by (Some n) is = false_from_ne_true (bytes_eq n u) (λ h. other (sym (bytes_eq_same n v.name is) ∙ bytes_eq_same n u h))

  same_plex : (p q : Plex) → IsPlexAfter u after p q → refers p.vol v.name ≡ true → q ≡ p
  same_plex p q is mine = is.same ∙ ap (λ (s : PlexState). record p { state = s }) (is.other (off p mine))

  plexes_same : (ps qs : List Plex) → AllZip (IsPlexAfter u after) ps qs → filter (λ p. refers p.vol v.name) qs ≡ filter (λ p. refers p.vol v.name) ps
  plexes_same [] [] all = refl
  plexes_same [] (q ∷ qs) all = absurd all
  plexes_same (p ∷ ps) [] all = absurd all
  plexes_same (p ∷ ps) (q ∷ qs) all =
      ap (λ b. cond b (q ∷ filter (λ p. refers p.vol v.name) qs) (filter (λ p. refers p.vol v.name) qs)) (ap (λ (x : Plex). refers x.vol v.name) all.0.same)
      ∙ by (refers p.vol v.name) refl (plexes_same ps qs all.1)
    where
      by : (b : Bool) → refers p.vol v.name ≡ b → filter (λ p. refers p.vol v.name) qs ≡ filter (λ p. refers p.vol v.name) ps →
          cond b (q ∷ filter (λ p. refers p.vol v.name) qs) (filter (λ p. refers p.vol v.name) qs) ≡ cond b (p ∷ filter (λ p. refers p.vol v.name) ps) (filter (λ p. refers p.vol v.name) ps)
      by true e rest = let one = same_plex p q all.0 e in λ i. one i ∷ rest i
      by false e rest = rest

  still_there : IsVolOf c' v
  still_there =
      let was = vol_recorded c v of in
      let self : in_state u next v ≡ v = ap (λ (b : Bool). if b then record v { state = next } else v) (false_from_ne_true (bytes_eq v.name u) (λ h. other (bytes_eq_same v.name u h))) in
      let now = subst (λ vs. IsIn vs v) (sym changes.volumes) (subst (λ w. IsIn (map (in_state u next) c.volumes) w) self (in_map (in_state u next) c.volumes v was)) in
      in_one (objects_of c') (VolRecord v) (records_vol c' v now)

  pub restated_untouched : Untouched c v c'
  restated_untouched = record {
    now = v;
    recorded = still_there;
    name = refl;
    state = refl;
    length_is = refl;
    region_is = refl;
    dco = refl;
    plexes = plexes_same c.plexes c'.plexes changes.plexes;
    subdisks = λ p own. ap (λ ss. filter (λ s. refers s.plex p.name) ss) changes.subdisks;
    more = [];
    disks = changes.disks ∙ sym (append-nil c.disks);
    snaps = changes.snaps;
  }

pub start_keeps : EachStartRestates → EachStartKeeps
start_keeps restates c c' u here edits v of other good good' fewer =
    stays c v c' good good' fewer
    (restated_untouched c v of u.name other vol.Active (started (is_new u.state)) c' (restates c u (among (objects_of c) (VolRecord u) (one_in (objects_of c) (VolRecord u) here)) c' edits))

pub stop_keeps : EachStopRestates → EachStopKeeps
stop_keeps restates c c' u marks here edits v of other good good' fewer =
    stays c v c' good good' fewer
    (restated_untouched c v of u.name other vol.Clean (stopped marks) c' (restates c u marks (among (objects_of c) (VolRecord u) (one_in (objects_of c) (VolRecord u) here)) c' edits))
