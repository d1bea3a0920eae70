-- The laws: the tests of added records let a new volume through.
use Rattle.std.proofs.Common.{◌≡◌, Bool, false, None, List, [], ◌∷◌, ◌++◌, refl, sym, ap, ◌∙◌, inl, inr}
use Rattle.vx_base.specs.Named.{Word}
use Rattle.vx_config_parts.specs.declared.object.Object.{Object}
use Rattle.vx_config_parts.specs.declared.object.Object.TheVariants.{VolRecord}
use Rattle.vx_config_parts.specs.declared.vol.Vol.{Vol}
use Rattle.vx_rules.specs.declared.rule.Rule.{Rule}
use Rattle.vx_rules.specs.declared.rule.Rule.TheVariants as rule
use Rattle.vx_rules.specs.Adding.{fault_by, first_broken_by, firsts, had_fault}
use Rattle.vx_rules.specs.Faults.{first_of, first_some}
use Rattle.vx_rules.specs.References.{repeated_after}
use Rattle.vx_rules.specs.Rules.{fault_in, fault_over}
use Rattle.vx_rules.proofs.InOrder.{names_differ}
use Rattle.vx_objects.specs.Config.{objects_of}
use Rattle.vx_image.proofs.PlexMembers.{IsIn}
use Rattle.vx_image.proofs.Plexes.{config_valid}
use Rattle.vx_new_volumes.specs.Records.{vol_of}
use Rattle.vx_new_volumes.specs.declared.volume.NewVolume.{NewVolume}
use Rattle.vx_moments.specs.World.{Group}
use Rattle.vx_stages.specs.Making.{adding_refusal, broken, limit_rules, reference_rules, space_rules, started_name}
use Rattle.vx_stages.specs.Refusals.{refusal_from}
use Rattle.vx_new_volume_laws.specs.Laws.{EachNewVolumeHasNewNames, EachNewVolumeIsLetThrough, IsAsked}
use Rattle.vx_new_volume_laws.proofs.Names as named
use Rattle.vx_new_volume_laws.proofs.Parts.{of_each}
use Rattle.vx_new_volume_laws.proofs.Repeats.{all_firsts, both_none}
use Rattle.vx_new_volume_laws.proofs.Lying.{IsCase, case_of}
use Rattle.vx_new_volume_laws.proofs.Ruled.{rule_holds}
use Rattle.vx_new_volume_laws.proofs.Beside.{sub_place}
use Rattle.vx_new_volume_laws.proofs.References.{none_had, preferred_hold, references_hold}
use Rattle.vx_new_volume_laws.proofs.Limits.{Holds, geometry_hold, group_holds_still, plexes_hold, regions_hold, relations_hold, shapes_hold, short_hold, slots_hold, volumes_hold}
use Rattle.vx_new_volume_laws.proofs.Logs.{logs_hold, relation_logs_hold}
use Rattle.vx_new_volume_laws.proofs.Maps.{maps_hold}
use Rattle.vx_new_volume_laws.proofs.Space.{inside_hold, overlap_hold}
use Rattle.vx_new_volume_laws.proofs.Whole.{whole_hold}
use Rattle.vx_new_volume_laws.proofs.Numbers.{numbers_hold}

-- no volume among the records is started
none_started : (is_started : Word → Bool) (os : List Object) → ((v : Vol) → IsIn os (VolRecord v) → is_started v.name ≡ false) → started_name is_started os ≡ None
none_started is_started [] each = refl
none_started is_started (VolRecord v ∷ os) each = rw (each v (inl refl)) (none_started is_started os (λ u there. each u (inr there)))
none_started is_started (o ∷ os) each = none_started is_started os (λ u there. each u (inr there))

one_more : (r : Rule) (rs : List Rule) (all : List Object) → fault_by r all all ≡ None → first_broken_by rs all all ≡ None → first_broken_by (r ∷ rs) all all ≡ None
one_more r rs all here more = both_none (fault_by r all all) (first_broken_by rs all all) here more

module _ (is_started : Word → Bool) (g : Group) (n : NewVolume) (added : List Object) (c : IsCase (is_started n.vol) g n added) where
  abbrev group : List Object
  group = objects_of g.config

  abbrev all : List Object
  all = objects_of g.config ++ added

  abbrev started : Bool
  started = is_started n.vol

  differ : repeated_after [] all ≡ None
  differ = named.names_differ group n c.plan added c.made started c.passed (names_differ group (config_valid g.config))

  names_hold : Holds (is_started n.vol) g n added c rule.NamesDiffer
  unfolding fault_in fault_over
  names_hold = rule_holds rule.NamesDiffer group added differ (λ o there. refl) (λ o there. refl)

  -- each record that is known is the first of its name
  known : (rs : List Rule) → first_broken_by rs all all ≡ None → broken rs (firsts all) all ≡ None
  known rs e = ap (λ (os : List Object). refusal_from (first_broken_by rs os all)) (all_firsts all differ) ∙ ap (λ f. refusal_from f) e

  vol_name : (v : Vol) → VolRecord (vol_of n c.made.dco) ≡ VolRecord v → v.name ≡ n.vol
  vol_name v e = let same : vol_of n c.made.dco ≡ v = cc in sym (ap (λ (u : Vol). u.name) same)

  each_unstarted : (o : Object) → IsIn added o → (v : Vol) → o ≡ VolRecord v → is_started v.name ≡ false
  each_unstarted =
      of_each (λ o. (v : Vol) → o ≡ VolRecord v → is_started v.name ≡ false) n group c.plan added c.made (λ v e. ap is_started (vol_name v e) ∙ c.passed.unstarted)
      (λ logs v e. absurd cc) (λ k name lt there v e. absurd cc) (λ name there v e. absurd cc)
      (λ o there v e. let r = sub_place started g n added c o there in let same = sym r.3 ∙ e in absurd cc)

  let_through : IsAsked n → adding_refusal is_started (objects_of g.config) added ≡ None
  let_through asked =
      let references =
      known reference_rules
      (one_more rule.ReferencesAreThere (rule.PreferredPlexIsThere ∷ []) all (references_hold started g n added c)
      (one_more rule.PreferredPlexIsThere [] all (preferred_hold started g n added c) refl)) in
      let limits =
      known limit_rules
      (one_more rule.RelationsAreAlone (rule.OneGroup ∷ rule.SlotsDiffer ∷ rule.VolumesAreFew ∷ rule.NamesAreShort ∷ rule.RegionSizesAreGood ∷ rule.RegionsAreGood ∷ rule.PlexesAreGood ∷ rule.RelatedVolumesHaveOneShape ∷ rule.NumbersFit ∷ []) all (relations_hold started g n added c)
      (one_more rule.OneGroup (rule.SlotsDiffer ∷ rule.VolumesAreFew ∷ rule.NamesAreShort ∷ rule.RegionSizesAreGood ∷ rule.RegionsAreGood ∷ rule.PlexesAreGood ∷ rule.RelatedVolumesHaveOneShape ∷ rule.NumbersFit ∷ []) all (group_holds_still started g n added c)
      (one_more rule.SlotsDiffer (rule.VolumesAreFew ∷ rule.NamesAreShort ∷ rule.RegionSizesAreGood ∷ rule.RegionsAreGood ∷ rule.PlexesAreGood ∷ rule.RelatedVolumesHaveOneShape ∷ rule.NumbersFit ∷ []) all (slots_hold started g n added c)
      (one_more rule.VolumesAreFew (rule.NamesAreShort ∷ rule.RegionSizesAreGood ∷ rule.RegionsAreGood ∷ rule.PlexesAreGood ∷ rule.RelatedVolumesHaveOneShape ∷ rule.NumbersFit ∷ []) all (volumes_hold started g n added c)
      (one_more rule.NamesAreShort (rule.RegionSizesAreGood ∷ rule.RegionsAreGood ∷ rule.PlexesAreGood ∷ rule.RelatedVolumesHaveOneShape ∷ rule.NumbersFit ∷ []) all (short_hold started g n added c)
      (one_more rule.RegionSizesAreGood (rule.RegionsAreGood ∷ rule.PlexesAreGood ∷ rule.RelatedVolumesHaveOneShape ∷ rule.NumbersFit ∷ []) all (regions_hold started g n added c)
      (one_more rule.RegionsAreGood (rule.PlexesAreGood ∷ rule.RelatedVolumesHaveOneShape ∷ rule.NumbersFit ∷ []) all (geometry_hold started g n added c)
      (one_more rule.PlexesAreGood (rule.RelatedVolumesHaveOneShape ∷ rule.NumbersFit ∷ []) all (plexes_hold started g n added c asked.some)
      (one_more rule.RelatedVolumesHaveOneShape (rule.NumbersFit ∷ []) all (shapes_hold started g n added c)
      (one_more rule.NumbersFit [] all (numbers_hold started g n added c asked.some asked.unit) refl)))))))))) in
      let space =
      known space_rules
      (one_more rule.NamesDiffer (rule.SubdisksDoNotOverlap ∷ rule.SubdisksLieInside ∷ rule.PlexesAreWhole ∷ rule.LogsAreGood ∷ rule.RelatedVolumesHaveLogs ∷ rule.MapsAreGood ∷ []) all names_hold
      (one_more rule.SubdisksDoNotOverlap (rule.SubdisksLieInside ∷ rule.PlexesAreWhole ∷ rule.LogsAreGood ∷ rule.RelatedVolumesHaveLogs ∷ rule.MapsAreGood ∷ []) all (overlap_hold started g n added c)
      (one_more rule.SubdisksLieInside (rule.PlexesAreWhole ∷ rule.LogsAreGood ∷ rule.RelatedVolumesHaveLogs ∷ rule.MapsAreGood ∷ []) all (inside_hold started g n added c)
      (one_more rule.PlexesAreWhole (rule.LogsAreGood ∷ rule.RelatedVolumesHaveLogs ∷ rule.MapsAreGood ∷ []) all (whole_hold started g n added c asked.unit)
      (one_more rule.LogsAreGood (rule.RelatedVolumesHaveLogs ∷ rule.MapsAreGood ∷ []) all (logs_hold started g n added c)
      (one_more rule.RelatedVolumesHaveLogs (rule.MapsAreGood ∷ []) all (relation_logs_hold started g n added c)
      (one_more rule.MapsAreGood [] all (maps_hold started g n added c) refl))))))) in
      let had = ap (λ f. refusal_from f) (none_had started g n added c) in
      let unstarted = none_started is_started added (λ v there. each_unstarted (VolRecord v) there v refl) in
      both_none (broken reference_rules (firsts all) all) (first_some (refusal_from (first_of (had_fault group) added)) (first_some (broken limit_rules (firsts all) all) (first_some (started_name is_started added) (broken space_rules (firsts all) all)))) references
      (both_none (refusal_from (first_of (had_fault group) added)) (first_some (broken limit_rules (firsts all) all) (first_some (started_name is_started added) (broken space_rules (firsts all) all))) had
      (both_none (broken limit_rules (firsts all) all) (first_some (started_name is_started added) (broken space_rules (firsts all) all)) limits
      (both_none (started_name is_started added) (broken space_rules (firsts all) all) unstarted space)))

pub new_names : EachNewVolumeHasNewNames
new_names is_started g n added laid = differ is_started g n added (case_of is_started g n added laid)

pub through : EachNewVolumeIsLetThrough
through is_started g n added laid asked = let_through is_started g n added (case_of is_started g n added laid) asked
