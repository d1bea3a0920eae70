-- No rule refuses what a start records: a test refuses it, or its text is too long.
use Rattle.std.proofs.Common.{◌≡◌, ◌∙◌, inl, inr, ℕ, List, [], ◌∷◌, true, Some, None, Result, Ok, Err, sym, ap, subst}
use Rattle.std.specs.Prelude.{IfErr}
use Rattle.vx_config_parts.specs.declared.object.Object.{Object}
use Rattle.vx_config_parts.specs.declared.object.Object.TheVariants.{VolRecord}
use Rattle.vx_config_parts.specs.declared.vol.Vol.{Vol}
use Rattle.vx_objects.specs.declared.config.Config.{Config}
use Rattle.vx_objects.specs.declared.edit.Edit.{Edit}
use Rattle.vx_objects.specs.Config.{objects_of}
use Rattle.vx_answers.specs.declared.answer.End.{End}
use Rattle.vx_answers.specs.declared.refusal.Refusal.{Refusal}
use Rattle.vx_image.specs.Once.{IsOneOf}
use Rattle.vx_image.specs.UsedPlexes.{IsVolOf}
use Rattle.vx_state_edits.specs.Edits.{start_edits}
use Rattle.vx_state_edits.specs.Laws.{EachStartIsFine, IsAmong}
use Rattle.vx_stages.specs.Refusals.{refusal_from}
use Rattle.vx_stages.specs.Starting.{may_start}
use Rattle.vx_house.specs.declared.stop.Stop.{Stop}
use Rattle.vx_house.specs.declared.stop.Stop.TheVariants as stops
use Rattle.vx_stage_changes.specs.Planning.{IsBroken, IsUnplanned}
use Rattle.vx_stage_changes.specs.declared.planning.NextConfig.{NextConfig}
use Rattle.vx_stage_volumes.specs.Early.{IsRefusedEarly, refusal_here}
use Rattle.vx_stage_volumes.specs.Starting.{IsRefusedStart}

-- what is one of these is among them
among : (os : List Object) (o : Object) → IsOneOf os o → IsAmong os o
among [] o one = absurd one
among (x ∷ os) o (inl is) = inl is
among (x ∷ os) o (inr more) = inr (among os o more)

module _ (c : Config) (good : ℕ) (v : Vol) (may : may_start v.state ≡ true) where
  -- a test refuses it
  pub refused_early : (stop : Stop) → IsRefusedEarly c good v stop → IsRefusedStart c good v stop
  refused_early (stops.Ended end) is = inr (may, inl is)
  refused_early stops.OutOfMemory is = tt

  module _ (fine : EachStartIsFine) (of : IsVolOf c v) (early : refusal_here c good v ≡ None) where
    never_broken : (end : End) → IsBroken (start_edits c v) c end → ⊥
    never_broken end (r, is, same) = no r (sym (ap refusal_from (fine c v (among (objects_of c) (VolRecord v) of))) ∙ is)
      where
        no : (r : Refusal) → None ≡ Some r → ⊥
        no r e = cc

    -- or its text is too long
    pub refused_long : (stop : Stop) → IsUnplanned (start_edits c v) c stop → IsRefusedStart c good v stop
    refused_long (stops.Ended end) (inl broken) = absurd (never_broken end broken)
    refused_long (stops.Ended end) (inr (next, edited, long)) = inr (may, inr (early, next, edited, long))
    refused_long stops.OutOfMemory is = tt

    pub refused_planned : (edits : List Edit) → edits ≡ start_edits c v → (r : Result NextConfig Stop) → IfErr r (IsUnplanned edits c) → IfErr r (IsRefusedStart c good v)
    refused_planned edits are (Ok next) is = tt
    refused_planned edits are (Err stop) is = refused_long stop (subst (λ es. IsUnplanned es c stop) are is)
