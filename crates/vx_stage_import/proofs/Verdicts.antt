-- The judging of a text, step by step.
use Rattle.std.proofs.Common.{◌≡◌, ◌∙◌, ℕ, Bool, true, List, map, Option, Some, None, Result, Ok, Err, refl, sym, ap, subst, inl, inr}
use Rattle.std.specs.Prelude.{IfOk, is_none}
use Rattle.vx_base.specs.Named.{Word}
use Rattle.vx_header.specs.Named.{Label}
use Rattle.vx_record.specs.Content.{Content}
use Rattle.vx_record.specs.Grammar.{Spells}
use Rattle.vx_config_parts.specs.declared.object.Object.{Object}
use Rattle.vx_config_parts.specs.declared.fault.ObjectFault.{ObjectFault}
use Rattle.vx_config_parts.specs.declared.fault.ObjectFault.TheVariants as fault
use Rattle.vx_rules.specs.Rules.{first_broken, is_valid}
use Rattle.vx_objects.specs.declared.config.Config.{Config}
use Rattle.vx_objects.specs.Config.{objects_of, IsMadeOf, IsRefusedOf}
use Rattle.vx_objects.specs.Parts.{in_kinds}
use Rattle.vx_objects.specs.Printed.{IsReadOf}
use Rattle.vx_stages.specs.Finding.{needs_sync, import_records}
use Rattle.vx_stage_import.specs.Judging.{TextJudged, RecordsJudged, ConfigJudged, CommitJudged, PrintJudged, RefusedBy}
use Rattle.vx_stages.specs.Refusals.{refusal_by, refusal_from}
use Rattle.vx_answers.specs.declared.refusal.Refusal.{Refusal}
use Rattle.vx_stage_import.specs.declared.judging.Judged.{Judged}

if_ok : {T E : Type 0} (Q R : T → Type 0) → ((x : T) → Q x → R x) → (r : Result T E) → IfOk r Q → IfOk r R
if_ok Q R on (Ok x) is = on x is
if_ok Q R on (Err e) is = tt

none_is : (o : Option ObjectFault) → is_none o ≡ true → o ≡ None
none_is None e = refl
none_is (Some x) e = cc

unbroken : (c : Config) → first_broken (objects_of c) ≡ None
unfolding is_valid
unbroken c = none_is (first_broken (objects_of c)) c.valid

module _ (dg text : Word) (good : ℕ) (labels : List Label) (started : Word → Bool) where
  pub text_judged : {E : Type 0} (r : Result Judged E) (records lent : List Content) → lent ≡ records → Spells text records → IfOk r (RecordsJudged dg lent good labels started) → IfOk r (TextJudged dg text good labels started)
  text_judged r records lent same spells is =
      if_ok (RecordsJudged dg records good labels started) (TextJudged dg text good labels started) (λ j of. inr (records, spells, of)) r (subst (λ rs. IfOk r (RecordsJudged dg rs good labels started)) same is)

  pub records_judged : {E : Type 0} (r : Result Judged E) (records : List Content) (config : Config) → IsReadOf records config → IfOk r (ConfigJudged dg config good labels started) → IfOk r (RecordsJudged dg records good labels started)
  records_judged r records config made is = if_ok (ConfigJudged dg config good labels started) (RecordsJudged dg records good labels started) (λ j of. inr (config, made, of)) r is

made_of : (config : Config) (all lent synced lent_synced : List Object) → all ≡ objects_of config → lent ≡ all → synced ≡ map needs_sync lent → lent_synced ≡ synced → in_kinds lent_synced ≡ import_records config
made_of config all lent synced lent_synced a b c d = ap in_kinds (d ∙ c ∙ ap (map needs_sync) (b ∙ a))

pub commit_judged : {E : Type 0} (r : Result Judged E) (config after : Config) (all lent synced lent_synced : List Object) → all ≡ objects_of config → lent ≡ all → synced ≡ map needs_sync lent → lent_synced ≡ synced → IsMadeOf lent_synced after → IfOk r (PrintJudged after) → IfOk r (CommitJudged config)
commit_judged r config after all lent synced lent_synced a b c d made is =
    let same : objects_of after ≡ import_records config = made ∙ made_of config all lent synced lent_synced a b c d in
    if_ok (PrintJudged after) (CommitJudged config) (λ j of. inr (after, same, ap first_broken (sym same) ∙ unbroken after, of)) r is

-- the refusal of a broken rule
broken_by : (o : Option ObjectFault) (f : ObjectFault) (r : Refusal) → o ≡ Some f → refusal_by f ≡ Some r → refusal_from o ≡ Some r
broken_by o f r is by = ap refusal_from is ∙ by

-- want of memory is no refusal
no_memory : (f : ObjectFault) (r : Refusal) → f ≡ fault.OutOfMemory → refusal_by f ≡ Some r → ⊥
no_memory f r full by = let none : refusal_by f ≡ None = ap refusal_by full in cc

pub commit_refused : {E : Type 0} (r : Result Judged E) (config : Config) (f : ObjectFault) (all lent synced lent_synced : List Object) → all ≡ objects_of config → lent ≡ all → synced ≡ map needs_sync lent → lent_synced ≡ synced → IsRefusedOf lent_synced f → IfOk r (RefusedBy f) → IfOk r (CommitJudged config)
commit_refused r config f all lent synced lent_synced a b c d broken is = if_ok (RefusedBy f) (CommitJudged config) by r is
  where
    same : first_broken (in_kinds lent_synced) ≡ first_broken (import_records config)
    same = ap first_broken (made_of config all lent synced lent_synced a b c d)

    by : (j : Judged) → RefusedBy f j → CommitJudged config j
    by j (why, gives, is) = elim broken [
      | inl full ↦ absurd (no_memory f why full gives)
      | inr found ↦ inl (why, broken_by (first_broken (import_records config)) f why (sym same ∙ found) gives, is)
    ]
