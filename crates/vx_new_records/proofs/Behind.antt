-- The records of a new plex and of new logs, behind their names; and that a request for logs is valid.
use Rattle.std.proofs.Common.{◌≡◌, ◌∙◌, ℕ, ◌+◌, Bool, true, false, Option, Some, None, List, [], ◌∷◌, length, map, refl, sym, ap}
use Rattle.std.specs.Prelude.{◌==◌, ◌&&◌, nat_le}
use Rattle.std.proofs.lemmas.Bool.{and_from, and_parts}
use Rattle.vx_base.specs.Named.{Word}
use Rattle.vx_block.specs.Geometry.{is_geometry, is_region_size}
use Rattle.vx_config_parts.specs.declared.plex.Plex.{Plex}
use Rattle.vx_config_parts.specs.declared.state.PlexState.{PlexState}
use Rattle.vx_config_parts.specs.declared.vol.Vol.{Vol}
use Rattle.vx_config_parts.specs.declared.object.Object.{Object}
use Rattle.vx_config_parts.specs.declared.fault.Limit.TheVariants as limit
use Rattle.vx_config_parts.specs.declared.fault.ObjectFault.TheVariants.{Limit, NoLog}
use Rattle.vx_config_parts.specs.Objects.{name_of}
use Rattle.vx_rules.specs.Faults.{unless}
use Rattle.vx_rules.specs.Maps.{log_count}
use Rattle.vx_rules.proofs.Lookups.{first_none, second_none}
use Rattle.vx_new_volumes.specs.declared.parts.Plan.{Plan}
use Rattle.vx_new_volumes.specs.Rule.{is_request}
use Rattle.vx_new_volumes.specs.Naming.{Numbered, and_then, next_name, names_behind}
use Rattle.vx_new_volumes.specs.Records.{dco_name, log_stem}
use Rattle.vx_new_volumes.specs.Mirrors.{plex_count, mirror_plex, plex_named, mirror_of}
use Rattle.vx_new_volumes.specs.Logs.{region_with, logs_limit_fault, dco_fault, logs_fit, new_dco_fault, logs_request, logs_named, logs_of}

module _ (group : List Object) (v : Vol) (lowest : Plex) (m : ℕ) (plan : Plan) where
  with_name : List Word → Numbered → Option (List Object)
  with_name known t = plex_named known (mirror_plex v lowest m t.name) plan

  by_known : (known : List Word) → known ≡ map name_of group → mirror_of group v lowest m plan ≡ and_then (next_name known v.name 1) (with_name known)
  unfolding mirror_of with_name
  by_known known h = sym (ap (λ (names : List Word). and_then (next_name names v.name 1) (with_name names)) h)

  pub no_plex_name : (known : List Word) → known ≡ map name_of group → next_name known v.name 1 ≡ None → mirror_of group v lowest m plan ≡ None
  no_plex_name known h e = by_known known h ∙ ap (λ (o : Option Numbered). and_then o (with_name known)) e

  pub plex_is_named : (known : List Word) (t : Numbered) (plex : Plex) → known ≡ map name_of group → next_name known v.name 1 ≡ Some t → plex ≡ mirror_plex v lowest m t.name → mirror_of group v lowest m plan ≡ plex_named known plex plan
  unfolding with_name
  plex_is_named known t plex h e is =
      by_known known h ∙ ap (λ (o : Option Numbered). and_then o (with_name known)) e ∙ sym (ap (λ (p : Plex). plex_named known p plan) is)

module _ (group : List Object) (v : Vol) (dco : Word) (plan : Plan) (state : PlexState) where
  with_logs : List Word → List Word → Option (List Object)
  with_logs known names = logs_named known v names plan state

  by_names : (known : List Word) → known ≡ dco ∷ map name_of group → logs_of group v dco plan state ≡ and_then (names_behind (length plan.logs) [] known (log_stem v.name) 1) (with_logs known)
  unfolding logs_of with_logs
  by_names known h = sym (ap (λ (names : List Word). and_then (names_behind (length plan.logs) [] names (log_stem v.name) 1) (with_logs names)) h)

  pub no_log_name : (known : List Word) → known ≡ dco ∷ map name_of group → names_behind (length plan.logs) [] known (log_stem v.name) 1 ≡ None → logs_of group v dco plan state ≡ None
  no_log_name known h e = by_names known h ∙ ap (λ (o : Option (List Word)). and_then o (with_logs known)) e

  pub logs_are_named : (known names : List Word) → known ≡ dco ∷ map name_of group → names_behind (length plan.logs) [] known (log_stem v.name) 1 ≡ Some names → logs_of group v dco plan state ≡ logs_named known v names plan state
  unfolding with_logs
  logs_are_named known names h e = by_names known h ∙ ap (λ (o : Option (List Word)). and_then o (with_logs known)) e

holds : {A : Type 0} (b : Bool) (x : A) → unless b x ≡ None → b ≡ true
holds true x e = refl
holds false x e = cc

pub valid : (group : List Object) (v : Vol) (count : ℕ) (region : Option ℕ) → logs_limit_fault group v count (region_with v region) ≡ None → new_dco_fault group v count ≡ None → is_request (logs_request v count region) ≡ true
valid group v count region e f =
    let new = region_with v region in
    let regions = second_none (unless (is_region_size new) (Limit limit.Region)) _ e in
    let geometry = first_none (unless (is_geometry v.len new) (Limit limit.Regions)) (unless (nat_le (plex_count group v.name + count) 32) (Limit limit.Plexes)) regions in
    let fit = holds _ _ (second_none (dco_fault group v.dco (dco_name v.name)) (unless (logs_fit group v.name count) (NoLog v.name)) f) in
    let few = (and_parts (nat_le count 2) (log_count group v.name == 0) (and_parts (nat_le 1 count) (nat_le count 2 && log_count group v.name == 0) fit).1).0 in
    and_from _ _ (holds _ _ geometry) few
