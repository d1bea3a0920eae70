-- The edits by which a volume gets logs and a DCO, or loses them, are of that volume alone, and what is tested before them.
use Rattle.std.proofs.Common.{◌≡◌, ℕ, Bool, true, false, Option, Some, None, List, [], ◌∷◌, ◌++◌, map, refl, sym, ◌∙◌, ap, subst, inl, inr}
use Rattle.std.specs.Prelude.{◌&&◌, ◌+◌, nat_le, not}
use Rattle.std.specs.Str.{bytes_eq}
use Rattle.std.proofs.lemmas.Bool.{and_parts, false≢true, false_from_ne_true}
use Rattle.vx_base.specs.Named.{Word}
use Rattle.vx_base.proofs.NamedLemmas.{bytes_eq_same}
use Rattle.vx_block.specs.Geometry.{is_geometry, is_region_size}
use Rattle.vx_config_parts.specs.declared.dco.Dco.{Dco}
use Rattle.vx_config_parts.specs.declared.fault.Limit.TheVariants as limit
use Rattle.vx_config_parts.specs.declared.fault.ObjectFault.{ObjectFault}
use Rattle.vx_config_parts.specs.declared.fault.ObjectFault.TheVariants.{Exists, Limit, NoLog, NoObject}
use Rattle.vx_config_parts.specs.declared.object.Object.{Object}
use Rattle.vx_config_parts.specs.declared.object.Object.TheVariants.{DcoRecord, VolRecord}
use Rattle.vx_config_parts.specs.declared.plex.Plex.{Plex}
use Rattle.vx_config_parts.specs.declared.plex.PlexKind.{PlexKind}
use Rattle.vx_config_parts.specs.declared.plex.PlexKind.TheVariants.{Data, Log}
use Rattle.vx_config_parts.specs.declared.vol.Vol.{Vol}
use Rattle.vx_config_parts.specs.Objects.{is_data, is_data_plex_of, is_dco, is_log, is_log_plex_of, refers}
use Rattle.vx_rules.specs.declared.rule.Rule.TheVariants as rule
use Rattle.vx_rules.specs.Faults.{first_some, unless}
use Rattle.vx_rules.specs.References.{has_dco_of, has_name, has_plex, missing}
use Rattle.vx_rules.specs.Rules.{fault_in}
use Rattle.vx_rules.proofs.InOrder.{names_differ}
use Rattle.vx_objects.specs.declared.config.Config.{Config}
use Rattle.vx_objects.specs.declared.edit.Edit.{Edit}
use Rattle.vx_objects.specs.declared.edit.Edit.TheVariants.{RemovePlex}
use Rattle.vx_objects.specs.Config.{objects_of}
use Rattle.vx_objects.proofs.OneGroup.{second_none, unless_none}
use Rattle.vx_image.proofs.PlexMembers.{IsIn, any_in, one_named}
use Rattle.vx_image.proofs.Members.{is_in}
use Rattle.vx_image.proofs.Plexes.{config_valid}
use Rattle.vx_image.proofs.Valid.{in_rule}
use Rattle.vx_lending.proofs.Distinct.{filtered}
use Rattle.vx_lending.proofs.Rules.{one_plex}
use Rattle.vx_answers.specs.declared.refusal.Refusal.TheVariants as refusal
use Rattle.vx_new_volumes.specs.Logs.{dco_fault, dco_name_fault, logs_fault, logs_fit, logs_limit_fault, new_dco_fault, region_with}
use Rattle.vx_new_volumes.specs.Mirrors.{lowest_plex, plex_count}
use Rattle.vx_new_volumes.specs.Records.{dco_name}
use Rattle.vx_stages.specs.Logging.{found_for_logs, has_other_region, log_plexes_of, log_state}
use Rattle.vx_stages.specs.Refusals.{refusal_by, refusal_from}
use Rattle.vx_stages.specs.Tests.{where_}
use Rattle.vx_group_edits.specs.DcoLaws.{EachFittingLogHasNoFault, EachOwnEditKeepsGroup, EachPreparingIsOwn, EachUnpreparingIsOwn}
use Rattle.vx_group_edits.specs.OfVolume.{AreEditsOf, IsDcoNameOf, IsPlexNameOf, NamesNoOther}
use Rattle.vx_group_edits.proofs.Added.{IsAnswered, first_answered}
use Rattle.vx_group_edits.proofs.ByKind.{dco_in, plex_recorded, records_vol}
use Rattle.vx_group_edits.proofs.Commands.{found_there}
use Rattle.vx_group_edits.proofs.Held.{references_rule}
use Rattle.vx_group_edits.proofs.LogRecords.{logs_are_of, logs_made}
use Rattle.vx_group_edits.proofs.Lowest.{lowest_in}
use Rattle.vx_group_edits.proofs.OwnEdits.{disks_same, group_same, vol_known}

-- ---- plexes

-- the data plex that is found is one of the volume's
pub own_plex : (c : Config) (vol : Word) (p : Plex) → lowest_plex vol (objects_of c) ≡ Some p → IsIn c.plexes p × (is_data_plex_of vol p ≡ true)
own_plex c vol p e = let r = lowest_in vol (objects_of c) p e in (plex_recorded c p r.0, r.1)

-- what is of the volume names no other
names_it : (vol : Word) (to : Option Word) → refers to vol ≡ true → NamesNoOther vol to
names_it vol None own = absurd (false≢true own)
names_it vol (Some n) own = bytes_eq_same n vol own

-- a plex of no other volume has a name that no other plex has
pub no_other_name : (c : Config) (vol : Word) (p : Plex) → IsIn c.plexes p → NamesNoOther vol p.vol → IsPlexNameOf c vol p.name
no_other_name c vol p there own q here same = subst (λ (x : Plex). NamesNoOther vol x.vol) (one_plex c p q there (is_in c.plexes q here) (sym same)) own

pub own_name : (c : Config) (vol : Word) (p : Plex) → IsIn c.plexes p → refers p.vol vol ≡ true → IsPlexNameOf c vol p.name
own_name c vol p there own = no_other_name c vol p there (names_it vol p.vol own)

data_name : (c : Config) (vol : Word) (p : Plex) → lowest_plex vol (objects_of c) ≡ Some p → IsPlexNameOf c vol p.name
data_name c vol p e = let r = own_plex c vol p e in own_name c vol p r.0 (and_parts (refers p.vol vol) (is_data p.kind) r.1).0

not_both : (k : PlexKind) → is_log k ≡ true → is_data k ≡ true → ⊥
not_both Data l d = false≢true l
not_both Log l d = false≢true d

-- a log plex of a volume is none of its data plexes
pub log_no_data : (vol : Word) (p : Plex) → is_log_plex_of vol p ≡ true → is_data_plex_of vol p ≡ false
log_no_data vol p l =
    false_from_ne_true (is_data_plex_of vol p)
    (λ d. not_both p.kind (and_parts (refers p.vol vol) (is_log p.kind) l).1 (and_parts (refers p.vol vol) (is_data p.kind) d).1)

pub preparing_own : EachPreparingIsOwn
preparing_own c good v n plex added edits laid =
    let made = logs_made (objects_of c) v laid.dco laid.plan (log_state v.state) added laid.records in
    subst (λ es. AreEditsOf c v.name es) (sym laid.edits_are)
    (refl, (logs_are_of (objects_of c) v laid.dco laid.plan (log_state v.state) added made, (refl, ((refl, data_name c v.name plex laid.plex_is), tt))))

-- ---- a DCO

vol_reference : (all : List Object) (v : Vol) → fault_in rule.ReferencesAreThere all (VolRecord v) ≡ None → missing v.dco (λ d. has_dco_of d v.name all) ≡ None
unfolding fault_in
vol_reference all v e = second_none (missing v.prefer (λ p. has_plex p all)) (missing v.dco (λ d. has_dco_of d v.name all)) e

same_dco : (d e : Dco) → DcoRecord d ≡ DcoRecord e → d ≡ e
same_dco d e is = cc

-- a DCO that a volume names is there, and names the volume
record HasDco (c : Config) (name vol : Word) : Type 0 where
  dco : Dco
  there : IsIn (objects_of c) (DcoRecord dco)
  named : dco.name ≡ name
  own : dco.vol ≡ vol

its_dco : (c : Config) (v : Vol) (name : Word) → IsIn c.volumes v → v.dco ≡ Some name → HasDco c name v.name
its_dco c v name there is =
    let all = objects_of c in
    let none = vol_reference all v (in_rule rule.ReferencesAreThere all (VolRecord v) (references_rule all (config_valid c)) (records_vol c v there)) in
    let has = unless_none (has_dco_of name v.name all) (NoObject name) (subst (λ o. missing o (λ d. has_dco_of d v.name all) ≡ None) is none) in
    let o = any_in (λ o. is_dco (λ d. bytes_eq d.name name && bytes_eq d.vol v.name) o) all has in
    by o.0 o.1 o.2
  where
    by : (o : Object) → IsIn (objects_of c) o → is_dco (λ d. bytes_eq d.name name && bytes_eq d.vol v.name) o ≡ true → HasDco c name v.name
    by (DcoRecord d) here is =
        let parts = and_parts (bytes_eq d.name name) (bytes_eq d.vol v.name) is in
        record { dco = d; there = here; named = bytes_eq_same d.name name parts.0; own = bytes_eq_same d.vol v.name parts.1 }
    by o here is = absurd (false≢true is)

-- there is one of a name
one_dco : (c : Config) (d e : Dco) → IsIn (objects_of c) (DcoRecord d) → IsIn (objects_of c) (DcoRecord e) → d.name ≡ e.name → d ≡ e
one_dco c d e here there same = same_dco d e (one_named [] (objects_of c) (DcoRecord d) (DcoRecord e) (names_differ (objects_of c) (config_valid c)) here there same)

dco_name_own : (c : Config) (v : Vol) (name : Word) → IsIn c.volumes v → v.dco ≡ Some name → IsDcoNameOf c v.name name
dco_name_own c v name there is =
    let own = its_dco c v name there is in
    record {
      records = λ d here same. ap (λ (x : Dco). x.vol) (one_dco c d own.dco (dco_in c d (is_in c.dcos d here)) own.there (same ∙ sym own.named)) ∙ own.own;
      volumes = λ w here same.
          let other = its_dco c w name (is_in c.volumes w here) same in
          sym other.own ∙ ap (λ (x : Dco). x.vol) (one_dco c other.dco own.dco other.there own.there (other.named ∙ sym own.named)) ∙ own.own;
    }

-- ---- the logs of a volume are removed

edits_then : (c : Config) (vol : Word) (ps : List Plex) (es : List Edit) → ((p : Plex) → IsIn ps p → IsPlexNameOf c vol p.name) → AreEditsOf c vol es → AreEditsOf c vol (map (λ (p : Plex). RemovePlex p.name) ps ++ es)
edits_then c vol [] es each of = of
edits_then c vol (p ∷ ps) es each of = (each p (inl refl), edits_then c vol ps es (λ q there. each q (inr there)) of)

pub unpreparing_own : EachUnpreparingIsOwn
unpreparing_own c name v plex edits may =
    let here = (found_there name c.volumes v may.found).0 in
    subst (λ es. AreEditsOf c v.name es) (sym may.edits_are)
    (edits_then c v.name (log_plexes_of c v.name) _
    (λ p there. let r = filtered (is_log_plex_of v.name) c.plexes p there in own_name c v.name p r.0 (and_parts (refers p.vol v.name) (is_log p.kind) r.1).0)
    (dco_name_own c v may.dco here may.dco_is, ((refl, data_name c v.name plex may.plex_is), tt)))

pub own_group : EachOwnEditKeepsGroup
own_group c c' vol es of is = (group_same c c' vol es of is, disks_same c c' vol es of is, vol_known c c' vol es of is)

-- ---- the tests

unless_answered : (b : Bool) (f : ObjectFault) → (refusal_by f ≡ None → ⊥) → IsAnswered (unless b f)
unless_answered true f some e = refl
unless_answered false f some e = absurd (some e)

name_answered : (group : List Object) (o : Option Word) → IsAnswered (dco_name_fault group o)
name_answered group None e = refl
name_answered group (Some dco) e = unless_answered (not (has_name dco group)) (Exists dco) (λ h. cc) e

dco_answered : (group : List Object) (o new : Option Word) → IsAnswered (dco_fault group o new)
dco_answered group None new e = name_answered group new e
dco_answered group (Some dco) new e = cc

fault_answered : (group : List Object) (v : Vol) (count : ℕ) (region : Option ℕ) → IsAnswered (logs_fault group v count region)
fault_answered group v count region =
    let size = region_with v region in
    let plexes = unless (nat_le (plex_count group v.name + count) 32) (Limit limit.Plexes) in
    first_answered (logs_limit_fault group v count size) (new_dco_fault group v count)
    (first_answered (unless (is_region_size size) (Limit limit.Region)) (first_some (unless (is_geometry v.len size) (Limit limit.Regions)) plexes)
    (unless_answered (is_region_size size) (Limit limit.Region) (λ h. cc))
    (first_answered (unless (is_geometry v.len size) (Limit limit.Regions)) plexes
    (unless_answered (is_geometry v.len size) (Limit limit.Regions) (λ h. cc))
    (unless_answered (nat_le (plex_count group v.name + count) 32) (Limit limit.Plexes) (λ h. cc))))
    (first_answered (dco_fault group v.dco (dco_name v.name)) (unless (logs_fit group v.name count) (NoLog v.name))
    (dco_answered group v.dco (dco_name v.name))
    (unless_answered (logs_fit group v.name count) (NoLog v.name) (λ h. cc)))

pub fits_logs : EachFittingLogHasNoFault
fits_logs runs c n v found fits =
    let tested = subst (λ o. found_for_logs runs c n o ≡ None) found fits in
    fault_answered (objects_of c) v n.count n.region
    (second_none (where_ (runs && has_other_region v n.region) (refusal.VolState v.state)) (refusal_from (logs_fault (objects_of c) v n.count n.region)) tested)
