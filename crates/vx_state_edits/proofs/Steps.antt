-- The edits of a volume and its plexes, record by record.
use Rattle.std.proofs.Common.{◌≡◌, Bool, true, false, ◌||◌, Some, List, [], ◌∷◌, ◌++◌, map, refl, sym, ◌∙◌, ap, if◌then◌else◌, inl, inr}
use Rattle.std.specs.List.{list_any, filter_map}
use Rattle.std.specs.Str.{bytes_eq}
use Rattle.std.proofs.lemmas.List.{map-id}
use Rattle.vx_config_parts.specs.declared.object.Object.{Object}
use Rattle.vx_config_parts.specs.declared.object.Object.TheVariants.{PlexRecord}
use Rattle.vx_config_parts.specs.declared.plex.Plex.{Plex}
use Rattle.vx_config_parts.specs.declared.state.PlexState.{PlexState}
use Rattle.vx_config_parts.specs.declared.state.VolState.{VolState}
use Rattle.vx_config_parts.specs.declared.vol.Vol.{Vol}
use Rattle.vx_objects.specs.Edits.{set_plex, set_vol, change, added, edited, edited_by}
use Rattle.vx_state_edits.specs.Edits.{plex_edit, vol_edit, policy_of}
use Rattle.vx_state_edits.specs.Laws.{IsAmong}

map_after : {A B C : Type 0} (h : B → C) (k : A → B) (xs : List A) → map h (map k xs) ≡ map (λ x. h (k x)) xs
map_after h k [] = refl
map_after h k (x ∷ xs) = ap (λ ys. h (k x) ∷ ys) (map_after h k xs)

each_some : (h : Object → Object) (os : List Object) → filter_map (λ o. Some (h o)) os ++ [] ≡ map h os
each_some h [] = refl
each_some h (o ∷ os) = ap (λ (l : List Object). h o ∷ l) (each_some h os)

module _ (after : Plex → PlexState) where
  abbrev pub set_one : Plex → Object → Object
  set_one q o = set_plex q.name q.vol (after q) q.map o

  -- one plex after the other
  abbrev pub set_all : List Plex → Object → Object
  set_all [] o = o
  set_all (q ∷ qs) o = set_all qs (set_one q o)

  pub plex_edited : (q : Plex) (os : List Object) → edited (plex_edit after q) os ≡ map (λ o. set_one q o) os
  unfolding change added
  plex_edited q os = each_some (λ o. set_one q o) os

  pub plexes_edited : (qs : List Plex) (os : List Object) → edited_by (map (plex_edit after) qs) os ≡ map (λ o. set_all qs o) os
  plexes_edited [] os = sym (map-id os)
  plexes_edited (q ∷ qs) os =
      ap (λ (l : List Object). edited_by (map (plex_edit after) qs) l) (plex_edited q os)
      ∙ plexes_edited qs (map (λ o. set_one q o) os)
      ∙ map_after (λ o. set_all qs o) (λ o. set_one q o) os

  pub volume_edited : (next : VolState) (v : Vol) (os : List Object) → edited (vol_edit next v) os ≡ map (λ o. set_vol v.name next (policy_of v.rdpol v.prefer) o) os
  unfolding change added
  volume_edited next v os = each_some (λ o. set_vol v.name next (policy_of v.rdpol v.prefer) o) os

  pub both_edited : (next : VolState) (v : Vol) (qs : List Plex) (os : List Object)
      → edited_by (vol_edit next v ∷ map (plex_edit after) qs) os ≡ map (λ o. set_all qs (set_vol v.name next (policy_of v.rdpol v.prefer) o)) os
  both_edited next v qs os =
      ap (λ (l : List Object). edited_by (map (plex_edit after) qs) l) (volume_edited next v os)
      ∙ plexes_edited qs (map (λ o. set_vol v.name next (policy_of v.rdpol v.prefer) o) os)
      ∙ map_after (λ o. set_all qs o) (λ o. set_vol v.name next (policy_of v.rdpol v.prefer) o) os

  -- what no edit of a plex changes stays
  pub set_none : (qs : List Plex) (o : Object) → ((q : Plex) → set_one q o ≡ o) → set_all qs o ≡ o
  set_none [] o stays = refl
  set_none (q ∷ qs) o stays = ap (λ (p : Object). set_all qs p) (stays q) ∙ set_none qs o stays

  abbrev pub is_named : List Plex → Plex → Bool
  is_named qs p = list_any (λ q. bytes_eq p.name q.name) qs

  same_either : (b : Bool) (s : PlexState) → (if b then s else s) ≡ s
  same_either true s = refl
  same_either false s = refl

  -- A plex that is set gets its own state, where what has its name is the plex itself.
  pub set_named : (p : Plex) (qs : List Plex) → ((q : Plex) → IsAmong qs q → bytes_eq p.name q.name ≡ true → q ≡ p) → (s : PlexState)
      → set_all qs (PlexRecord (record p { state = s })) ≡ PlexRecord (record p { state = if is_named qs p then after p else s })
  set_named p [] own s = refl
  set_named p (q ∷ qs) own s = by (bytes_eq p.name q.name) refl (set_named p qs (λ x m is. own x (inr m) is))
    where
      by : (b : Bool) → bytes_eq p.name q.name ≡ b → ((t : PlexState) → set_all qs (PlexRecord (record p { state = t })) ≡ PlexRecord (record p { state = if is_named qs p then after p else t }))
          → set_all qs (PlexRecord (if b then record p { vol = q.vol; state = after q; map = q.map } else record p { state = s })) ≡ PlexRecord (record p { state = if b || is_named qs p then after p else s })
      by true is more =
          let self : q ≡ p = own q (inl refl) is in
          ap (λ (x : Plex). set_all qs (PlexRecord (record p { vol = x.vol; state = after x; map = x.map }))) self
          ∙ more (after p)
          ∙ ap (λ (t : PlexState). PlexRecord (record p { state = t })) (same_either (is_named qs p) (after p))
      by false is more = more s
