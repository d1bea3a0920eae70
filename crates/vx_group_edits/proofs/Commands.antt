-- The edits of a change of the group.
use Rattle.std.proofs.Common.{◌≡◌, Bool, true, false, cond, Option, Some, None, List, [], ◌∷◌, refl, sym, ◌∙◌, ap, subst, inl, inr}
use Rattle.std.specs.Str.{bytes_eq}
use Rattle.vx_base.specs.Named.{Word}
use Rattle.vx_base.proofs.NamedLemmas.{bytes_eq_same}
use Rattle.vx_config_parts.specs.declared.object.Object.TheVariants.{VolRecord}
use Rattle.vx_config_parts.specs.declared.vol.PolicyName.{PolicyName}
use Rattle.vx_config_parts.specs.declared.vol.Vol.{Vol}
use Rattle.vx_rules.proofs.InOrder.{names_differ}
use Rattle.vx_objects.specs.declared.config.Config.{Config}
use Rattle.vx_objects.specs.declared.edit.Edit.TheVariants.{SetVol}
use Rattle.vx_objects.specs.Applied.{IsEdited}
use Rattle.vx_objects.specs.Config.{objects_of}
use Rattle.vx_image.proofs.PlexMembers.{IsIn, one_in, one_named}
use Rattle.vx_image.proofs.Plexes.{config_valid}
use Rattle.vx_image.specs.UsedPlexes.{IsVolOf}
use Rattle.vx_stages.specs.Stages.{policy_edit}
use Rattle.vx_stages.specs.Tests.{volume_in}
use Rattle.vx_stages.specs.declared.stage.Change.TheVariants as changes
use Rattle.vx_group_edits.specs.Laws.{EachChangeKeeps}
use Rattle.vx_group_edits.specs.Stays.{EachStays}
use Rattle.vx_group_edits.proofs.Added.{rewriting_keeps}
use Rattle.vx_group_edits.proofs.Changed.{policy_keeps, removal_keeps}
use Rattle.vx_group_edits.proofs.ByKind.{records_vol}

-- the volume that is found by a name is there, and has it
pub found_there : (name : Word) (vs : List Vol) (w : Vol) → volume_in name vs ≡ Some w → IsIn vs w × (bytes_eq w.name name ≡ true)
found_there name [] w e = absurd cc
found_there name (v ∷ vs) w e = by (found_there name vs w) (bytes_eq v.name name) refl e
  where
    by : (volume_in name vs ≡ Some w → IsIn vs w × (bytes_eq w.name name ≡ true)) → (b : Bool) → bytes_eq v.name name ≡ b → cond b (Some v) (volume_in name vs) ≡ Some w → IsIn (v ∷ vs) w × (bytes_eq w.name name ≡ true)
    by on true is e = let same : w ≡ v = cc in (inl same, subst (λ (x : Vol). bytes_eq x.name name ≡ true) (sym same) is)
    by on false is e = let r = on e in (inr r.0, r.1)

same_vol : (v w : Vol) → VolRecord v ≡ VolRecord w → v ≡ w
same_vol v w e = cc

module _ (c c' : Config) (vol : Word) (policy : PolicyName) where
  -- a recorded volume of that name is the one that is found
  state_found : (w : Vol) → volume_in vol c.volumes ≡ Some w → (v : Vol) → IsVolOf c v → v.name ≡ vol → v.state ≡ w.state
  state_found w found v of named =
      let r = found_there vol c.volumes w found in
      let here = records_vol c w r.0 in
      let one = one_named [] (objects_of c) (VolRecord v) (VolRecord w) (names_differ (objects_of c) (config_valid c)) (one_in (objects_of c) (VolRecord v) of) here (named ∙ sym (bytes_eq_same w.name vol r.1)) in
      ap (λ (x : Vol). x.state) (same_vol v w one)

  by_found : (f : Option Vol) → volume_in vol c.volumes ≡ f → IsEdited (policy_edit f (λ v. SetVol vol v.state policy)) c c' → EachStays (λ v. Unit {0}) c c'
  by_found None found edits = rewriting_keeps c c' edits
  by_found (Some w) found edits = λ v of other good good' fewer. policy_keeps c c' vol w.state policy edits v of (state_found w found v of) good good' fewer

pub change_keeps : EachChangeKeeps
change_keeps g (changes.Policy vol policy) c' edits = by_found g.config c' vol policy (volume_in vol g.config.volumes) refl edits
change_keeps g (changes.Remove vol) c' edits = removal_keeps g.config c' vol edits
