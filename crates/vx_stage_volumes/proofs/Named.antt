-- A volume that is found by its name is one of the configuration, before a stop and after it.
use Rattle.std.proofs.Common.{◌≡◌, ◌∙◌, Bool, true, false, cond, Some, List, [], ◌∷◌, map, refl, sym, ap, subst, inl, inr}
use Rattle.std.specs.Prelude.{if◌then◌else◌}
use Rattle.std.specs.Str.{bytes_eq}
use Rattle.vx_base.specs.Named.{Word}
use Rattle.vx_base.proofs.NamedLemmas.{bytes_eq_same}
use Rattle.vx_config_parts.specs.declared.object.Object.TheVariants.{VolRecord}
use Rattle.vx_config_parts.specs.declared.state.VolState.{VolState}
use Rattle.vx_config_parts.specs.declared.vol.Vol.{Vol}
use Rattle.vx_rules.proofs.InOrder.{names_differ}
use Rattle.vx_objects.specs.declared.config.Config.{Config}
use Rattle.vx_objects.specs.Config.{objects_of}
use Rattle.vx_image.proofs.PlexMembers.{IsIn, in_one, one_in, one_named}
use Rattle.vx_image.proofs.Plexes.{config_valid}
use Rattle.vx_state_edits.specs.Laws.{IsRecorded, in_state}
use Rattle.vx_image.specs.UsedPlexes.{IsVolOf}
use Rattle.vx_group_edits.proofs.ByKind.{records_vol}
use Rattle.vx_group_edits.proofs.Lists.{among}
use Rattle.vx_stages.specs.Tests.{volume_in}

found_there : (name : Word) (vs : List Vol) (w : Vol) → volume_in name vs ≡ Some w → IsIn vs w × (bytes_eq w.name name ≡ true)
found_there name [] w e = absurd cc
found_there name (v ∷ vs) w e = by (found_there name vs w) (bytes_eq v.name name) refl e
  where
    by : (volume_in name vs ≡ Some w → IsIn vs w × (bytes_eq w.name name ≡ true)) → (b : Bool) → bytes_eq v.name name ≡ b → cond b (Some v) (volume_in name vs) ≡ Some w → IsIn (v ∷ vs) w × (bytes_eq w.name name ≡ true)
    by on true is e = let same : w ≡ v = cc in (inl same, subst (λ (x : Vol). bytes_eq x.name name ≡ true) (sym same) is)
    by on false is e = let r = on e in (inr r.0, r.1)

module _ (c : Config) (name : Word) (v : Vol) (found : volume_in name c.volumes ≡ Some v) where
  pub found_of : IsVolOf c v
  found_of = in_one (objects_of c) (VolRecord v) (records_vol c v (found_there name c.volumes v found).0)

  pub found_recorded : IsRecorded c v
  found_recorded = among (objects_of c) (VolRecord v) (records_vol c v (found_there name c.volumes v found).0)

  pub found_name : v.name ≡ name
  found_name = bytes_eq_same v.name name (found_there name c.volumes v found).1

  -- no other one that is recorded has its name
  pub found_one : (u : Vol) → IsVolOf c u → u.name ≡ name → u ≡ v
  found_one u of named = same u v (one_named [] (objects_of c) (VolRecord u) (VolRecord v) (names_differ (objects_of c) (config_valid c)) (one_in (objects_of c) (VolRecord u) of)
      (records_vol c v (found_there name c.volumes v found).0) (named ∙ sym found_name))
    where
      same : (x y : Vol) → VolRecord x ≡ VolRecord y → x ≡ y
      same x y e = cc

-- what is recorded is so among the records
pub recorded_of : (c : Config) (v : Vol) → IsVolOf c v → IsRecorded c v
recorded_of c v of = among (objects_of c) (VolRecord v) (one_in (objects_of c) (VolRecord v) of)

-- it is found in its new state
pub found_in_state : (name : Word) (next : VolState) (vs : List Vol) (v : Vol) → volume_in name vs ≡ Some v → volume_in name (map (in_state name next) vs) ≡ Some (record v { state = next })
found_in_state name next [] v e = absurd cc
found_in_state name next (u ∷ us) v e = by (bytes_eq u.name name) refl (found_in_state name next us v) e
  where
    by : (b : Bool) → bytes_eq u.name name ≡ b → (volume_in name us ≡ Some v → volume_in name (map (in_state name next) us) ≡ Some (record v { state = next })) → cond b (Some u) (volume_in name us) ≡ Some v →
        volume_in name (in_state name next u ∷ map (in_state name next) us) ≡ Some (record v { state = next })
    by true is rest e =
        let same : u ≡ v = cc in
        let here : in_state name next u ≡ record u { state = next } = ap (λ (b : Bool). if b then record u { state = next } else u) is in
        ap (λ (x : Vol). cond (bytes_eq x.name name) (Some x) (volume_in name (map (in_state name next) us))) here
        ∙ ap (λ (b : Bool). cond b (Some (let x : Vol = record u { state = next } in x)) (volume_in name (map (in_state name next) us))) is
        ∙ ap (λ (x : Vol). Some (let y : Vol = record x { state = next } in y)) same
    by false is rest e =
        let here : in_state name next u ≡ u = ap (λ (b : Bool). if b then record u { state = next } else u) is in
        ap (λ (x : Vol). cond (bytes_eq x.name name) (Some x) (volume_in name (map (in_state name next) us))) here
        ∙ ap (λ (b : Bool). cond b (Some u) (volume_in name (map (in_state name next) us))) is
        ∙ rest e
