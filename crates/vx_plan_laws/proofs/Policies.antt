-- A volume's policy is changed: no rule is broken.
use Rattle.std.proofs.Common.{◌≡◌, ℕ, ◌≤◌, Bool, true, false, ◌==◌, Option, Some, None, List, [], ◌∷◌, ◌++◌, refl, sym, ◌∙◌, ap, subst, add-zero, le_of_eq, if◌then◌else◌}
use Rattle.std.specs.List.{count_by, filter_map}
use Rattle.std.specs.Str.{bytes_eq}
use Rattle.vx_base.specs.Named.{Word}
use Rattle.vx_base.proofs.NamedLemmas.{bytes_eq_same}
use Rattle.vx_copies.specs.Lists.{AllOf}
use Rattle.vx_config_parts.specs.declared.disk.Disk.{Disk}
use Rattle.vx_config_parts.specs.declared.vol.Vol.{Vol}
use Rattle.vx_config_parts.specs.declared.vol.PolicyKind.{PolicyKind}
use Rattle.vx_config_parts.specs.declared.vol.PolicyName.{PolicyName}
use Rattle.vx_config_parts.specs.declared.state.VolState.{VolState}
use Rattle.vx_config_parts.specs.declared.object.Object.{Object}
use Rattle.vx_config_parts.specs.declared.object.Object.TheVariants.{DiskRecord, VolRecord}
use Rattle.vx_config_parts.specs.declared.fault.ObjectFault.TheVariants.{NoObject}
use Rattle.vx_config_parts.specs.Objects.{name_of, is_group, is_disk, is_subdisk, is_plex, is_vol, is_dco, is_snap}
use Rattle.vx_rules.specs.Faults.{unless}
use Rattle.vx_rules.specs.Limits.{slot_is_own}
use Rattle.vx_rules.specs.Maps.{prefer_fault_of}
use Rattle.vx_rules.specs.References.{has_vol}
use Rattle.vx_rules.specs.Rules.{first_broken}
use Rattle.vx_rules.proofs.InOrder.{names_differ}
use Rattle.vx_objects.specs.declared.edit.Edit.TheVariants.{SetVol}
use Rattle.vx_objects.specs.Edits.{set_vol, policy_kind, policy_plex, change, added, target_fault, refusal_of}
use Rattle.vx_objects.specs.Parts.{in_kinds}
use Rattle.vx_plan_laws.proofs.Counts.{count_append, count_like, count_filter_map, all_append, all_filter_map}
use Rattle.vx_plan_laws.proofs.Differ.{AreOnce, once}
use Rattle.vx_plan_laws.proofs.FirstRefusals.{IsFine, AreFine, unless_true, both_none, each_holds, over_all, in_all}
use Rattle.vx_plan_laws.proofs.OneRule.{EachName, with_policy}
use Rattle.vx_plan_laws.proofs.Keeps.{Keeps, IsSame, any_same, prefer_same, vol_kept, record_kept, over_kept}
use Rattle.vx_plan_laws.proofs.KindOrder.{is_on, slot_kept, sorted}

module _ (vol : Word) (next : VolState) (policy : PolicyName) where
  abbrev set : Object → Object
  set o = set_vol vol next policy o

  -- a test that no volume passes
  untouched : (test : Object → Bool) → ((v : Vol) → test (VolRecord v) ≡ false) → (o : Object) → test (set o) ≡ test o
  untouched test never (VolRecord v) = never (if bytes_eq v.name vol then with_policy v next (policy_kind policy) (policy_plex policy) else v) ∙ sym (never v)
  untouched test never o = refl

  -- a test that asks for no state and no policy
  set_volume : (test : Vol → Bool) → ((v : Vol) (state : VolState) (rdpol : PolicyKind) (prefer : Option Word) → test (with_policy v state rdpol prefer) ≡ test v) → (o : Object) → is_vol test (set o) ≡ is_vol test o
  set_volume test steady (VolRecord v) = by (bytes_eq v.name vol)
    where
      by : (b : Bool) → test (if b then with_policy v next (policy_kind policy) (policy_plex policy) else v) ≡ test v
      by true = steady v next (policy_kind policy) (policy_plex policy)
      by false = refl
  set_volume test steady o = refl

  set_name : (o : Object) → name_of (set o) ≡ name_of o
  set_name (VolRecord v) = by (bytes_eq v.name vol)
    where
      by : (b : Bool) → name_of (VolRecord (if b then with_policy v next (policy_kind policy) (policy_plex policy) else v)) ≡ v.name
      by true = refl
      by false = refl
  set_name o = refl

  module _ (old : List Object) (over : AreFine old) (each : AllOf (IsFine old) old) (single : AreOnce old) (fits : prefer_fault_of old vol (policy_kind policy) (policy_plex policy) ≡ None) where
    abbrev now : List Object
    now = filter_map (λ o. Some (set o)) old ++ []

    same : (test : Object → Bool) → ((o : Object) → test (set o) ≡ test o) → IsSame old now test
    same test steady =
        count_append test (filter_map (λ o. Some (set o)) old) []
        ∙ add-zero (count_by test (filter_map (λ o. Some (set o)) old))
        ∙ count_filter_map test (λ o. Some (set o)) old
        ∙ count_like (λ o. test (set o)) test old steady

    keeps : Keeps old now EachName EachName
    keeps = record {
      groups = λ test. same (λ o. is_group test o) (untouched (λ o. is_group test o) (λ v. refl));
      disks = λ test e. any_same old now (λ o. is_disk test o) (same (λ o. is_disk test o) (untouched (λ o. is_disk test o) (λ v. refl))) ∙ e;
      subdisks = λ plex test on asks. same (λ o. is_subdisk test o) (untouched (λ o. is_subdisk test o) (λ v. refl));
      plexes = λ plex test on asks. same (λ o. is_plex test o) (untouched (λ o. is_plex test o) (λ v. refl));
      plexes_of = λ vol test on asks. same (λ o. is_plex test o) (untouched (λ o. is_plex test o) (λ v. refl));
      volumes = λ vol test on asks. same (λ o. is_vol test o) (set_volume test asks.steady);
      dcos = λ vol test on asks. same (λ o. is_dco test o) (untouched (λ o. is_dco test o) (λ v. refl));
      snaps = λ test. same (λ o. is_snap test o) (untouched (λ o. is_snap test o) (λ v. refl));
      few_subdisks = λ test. le_of_eq (same (λ o. is_subdisk test o) (untouched (λ o. is_subdisk test o) (λ v. refl)));
      few_volumes = le_of_eq (same (λ o. is_vol (λ v. true) o) (set_volume (λ v. true) (λ v state rdpol prefer. refl)));
    }

    single_now : AreOnce now
    single_now name = subst (λ (n : ℕ). n ≤ 1) (sym (same (λ o. bytes_eq (name_of o) name) (λ o. ap (λ (n : Word). bytes_eq n name) (set_name o)))) (single name)

    own : (d : Disk) → IsFine old (DiskRecord d) → slot_is_own now (DiskRecord d) ≡ true
    own d fine = slot_kept old now d (same (λ o. is_disk (λ e. e.slot == d.slot) o) (untouched (λ o. is_disk (λ e. e.slot == d.slot) o) (λ v. refl))) fine

    fine_now : (o : Object) → IsFine old o → IsFine now (set o)
    fine_now (VolRecord v) fine = by (bytes_eq v.name vol) refl
      where
        there : v.name ≡ vol → prefer_fault_of now v.name (policy_kind policy) (policy_plex policy) ≡ None
        there is = prefer_same old now EachName EachName keeps v.name tt (policy_kind policy) (policy_plex policy) ∙ subst (λ (n : Word). prefer_fault_of old n (policy_kind policy) (policy_plex policy) ≡ None) (sym is) fits

        by : (b : Bool) → bytes_eq v.name vol ≡ b → IsFine now (VolRecord (if b then with_policy v next (policy_kind policy) (policy_plex policy) else v))
        by true e = vol_kept old now EachName EachName keeps v tt next (policy_kind policy) (policy_plex policy) (there (bytes_eq_same v.name vol e)) fine
        by false e = record_kept old now EachName EachName keeps (VolRecord v) tt fine
    fine_now o fine = record_kept old now EachName EachName keeps o (is_on now (IsFine old) own o fine) fine

    set_kept : first_broken (in_kinds now) ≡ None
    set_kept =
        sorted now (over_kept old now EachName EachName keeps single_now over)
        (all_append (IsFine now) (filter_map (λ o. Some (set o)) old) [] (all_filter_map (IsFine old) (IsFine now) (λ o. Some (set o)) old (λ o p is fine. let same_as : set o ≡ p = cc in subst (IsFine now) same_as (fine_now o fine)) each) tt)
        single_now

-- no rule refuses a policy: it prefers no plex, or a data plex of the volume
pub policy_kept : (vol : Word) (next : VolState) (policy : PolicyName) (old : List Object) → first_broken old ≡ None → has_vol vol old ≡ true → prefer_fault_of old vol (policy_kind policy) (policy_plex policy) ≡ None
    → refusal_of (SetVol vol next policy ∷ []) old ≡ None
unfolding change added target_fault
policy_kept vol next policy old valid there fits =
    let hold = each_holds old valid in
    both_none (unless (has_vol vol old) (NoObject vol)) (first_broken (in_kinds (filter_map (λ o. Some (set_vol vol next policy o)) old ++ []))) (unless_true (has_vol vol old) (NoObject vol) there)
    (set_kept vol next policy old (over_all old hold) (in_all old hold) (once old (names_differ old valid)) fits)
