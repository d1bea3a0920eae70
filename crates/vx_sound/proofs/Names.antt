-- Which volumes a configuration records, by their names, and that no command records one of a name that a volume on a whole device has.
use Rattle.std.proofs.Common.{◌≡◌, ◌∙◌, ◌⊎◌, ℕ, ◌+◌, ◌^◌, ◌||◌, not, nat_lt, Bool, true, false, List, [], ◌∷◌, ◌++◌, map, Option, Some, None, is_some, MatchBool, MatchOption, refl, sym, ap, subst, inl, inr}
use Rattle.std.specs.List.{list_all, list_any, filter_map, cons_option}
use Rattle.std.specs.Prelude.{if◌then◌else◌}
use Rattle.std.specs.Str.{bytes_eq}
use Rattle.std.proofs.lemmas.List.Elements.{filter_map-append}
use Rattle.std.proofs.lemmas.List.Folds.{list_any-append}
use Rattle.std.proofs.lemmas.Bool.{and_parts, false≢true}
use Rattle.vx_base.specs.Named.{Word}
use Rattle.vx_base.proofs.NamedLemmas.{bytes_eq_same}
use Rattle.vx_mask.specs.Mask.{has}
use Rattle.vx_mask.proofs.Tests.{or_cases, or_from_left, or_from_right, not_both}
use Rattle.vx_copies.specs.Image.{Offer, highest}
use Rattle.vx_config_parts.specs.declared.disk.Disk.{Disk}
use Rattle.vx_config_parts.specs.declared.group.Group.{Group as GroupPart}
use Rattle.vx_config_parts.specs.declared.object.Object.{Object}
use Rattle.vx_config_parts.specs.declared.object.Object.TheVariants.{GroupRecord, DiskRecord, SubdiskRecord, PlexRecord, VolRecord, DcoRecord, SnapRecord}
use Rattle.vx_config_parts.specs.declared.state.PlexState.{PlexState}
use Rattle.vx_config_parts.specs.declared.state.VolState.{VolState}
use Rattle.vx_config_parts.specs.declared.vol.PolicyName.{PolicyName}
use Rattle.vx_config_parts.specs.declared.vol.Vol.{Vol}
use Rattle.vx_config_parts.specs.Objects.{is_vol}
use Rattle.vx_objects.specs.declared.config.Config.{Config}
use Rattle.vx_objects.specs.declared.edit.Edit.{Edit}
use Rattle.vx_objects.specs.declared.edit.Edit.TheVariants.{AddDisk, Make, SetPlex, SetVol, RemoveVol}
use Rattle.vx_objects.specs.Applied.{IsEdited}
use Rattle.vx_objects.specs.Config.{objects_of}
use Rattle.vx_objects.specs.Edits.{change, added, edited, kept, policy_kind, policy_plex, stays_without_vol}
use Rattle.vx_objects.specs.Parts.{as_group, as_disk, as_subdisk, as_plex, as_vol, as_dco, as_snap, in_kinds, sorted_below}
use Rattle.vx_objects.proofs.InKinds.{volumes_below}
use Rattle.vx_objects.proofs.OneGroup.{first_none, second_none}
use Rattle.vx_rules.specs.Adding.{firsts, had_fault}
use Rattle.vx_rules.specs.Faults.{first_of, first_some}
use Rattle.vx_script_words.specs.declared.value.DiskAt.{DiskAt}
use Rattle.vx_answers.specs.declared.refusal.Refusal.{Refusal}
use Rattle.vx_answers.specs.declared.refusal.Refusal.TheVariants.{Exists}
use Rattle.vx_moments.specs.Leaving.{lone}
use Rattle.vx_moments.specs.World.{World, Volume, Group}
use Rattle.vx_stages.specs.Finding.{Candidate, Finds, FindsAll, FindsOffer, FindsText, IsDamage, IsDiskOf, first_that, good_ones, import_records, is_damaged_one, is_recorded, is_taken_of, missing_from, needs_sync, offers_of}
use Rattle.vx_stages.specs.Making.{adding_refusal, broken, is_started, limit_rules, reference_rules, space_rules, started_name}
use Rattle.vx_stages.specs.Records.{disk_records, new_records}
use Rattle.vx_stages.specs.Refusals.{refusal_from}
use Rattle.vx_stages.specs.Stages.{edits_of, policy_edit}
use Rattle.vx_stages.specs.Tests.{recorded}
use Rattle.vx_group_edits.specs.OfVolume.{AreOf, is_part_of}
use Rattle.vx_stages.specs.declared.stage.Change.{Change}
use Rattle.vx_stages.specs.declared.stage.Change.TheVariants as changes

-- the configuration records a volume of the name
abbrev pub RecordsVolume : Config → Word → Type 0
RecordsVolume config vol = list_any (λ v. bytes_eq v.name vol) config.volumes ≡ true

-- no volume on a whole device has the name of one that the configuration records
abbrev pub IsApart : Config → World → Type 0
IsApart config w = (vol : Word) → RecordsVolume config vol → lone (w.volumes vol) ≡ None

-- ---- the volumes of records

-- the record is that of a volume of the name
abbrev pub is_named : Word → Object → Bool
is_named vol o = is_vol (λ v. bytes_eq v.name vol) o

abbrev pub has_named : Word → List Object → Bool
has_named vol os = list_any (is_named vol) os

any_vol : (test : Vol → Bool) (os : List Object) → list_any (λ o. is_vol test o) os ≡ list_any test (filter_map as_vol os)
any_vol test [] = refl
any_vol test (VolRecord v ∷ os) = ap (λ (b : Bool). test v || b) (any_vol test os)
any_vol test (GroupRecord g ∷ os) = any_vol test os
any_vol test (DiskRecord d ∷ os) = any_vol test os
any_vol test (SubdiskRecord s ∷ os) = any_vol test os
any_vol test (PlexRecord p ∷ os) = any_vol test os
any_vol test (DcoRecord d ∷ os) = any_vol test os
any_vol test (SnapRecord s ∷ os) = any_vol test os

no_vols : (gs : List GroupPart) → filter_map as_vol (map GroupRecord gs) ≡ []
no_vols [] = refl
no_vols (g ∷ gs) = no_vols gs

volumes_in : (config : Config) → filter_map as_vol (objects_of config) ≡ config.volumes
volumes_in config = volumes_below config.disks config.subdisks config.plexes config.volumes config.dcos config.snaps

volumes_sorted : (all : List Object) → filter_map as_vol (in_kinds all) ≡ filter_map as_vol all
volumes_sorted all =
    filter_map-append as_vol (map GroupRecord (filter_map as_group all)) (sorted_below all)
    ∙ ap (λ (vs : List Vol). vs ++ filter_map as_vol (sorted_below all)) (no_vols (filter_map as_group all))
    ∙ volumes_below (filter_map as_disk all) (filter_map as_subdisk all) (filter_map as_plex all) (filter_map as_vol all) (filter_map as_dco all) (filter_map as_snap all)

-- a configuration records what its records are
pub recorded_named : (config : Config) (vol : Word) → list_any (λ v. bytes_eq v.name vol) config.volumes ≡ has_named vol (objects_of config)
recorded_named config vol = ap (λ (vs : List Vol). list_any (λ v. bytes_eq v.name vol) vs) (sym (volumes_in config)) ∙ sym (any_vol (λ v. bytes_eq v.name vol) (objects_of config))

pub made_named : (config : Config) (all : List Object) (vol : Word) → objects_of config ≡ in_kinds all → list_any (λ v. bytes_eq v.name vol) config.volumes ≡ has_named vol all
made_named config all vol made =
    ap (λ (vs : List Vol). list_any (λ v. bytes_eq v.name vol) vs) (sym (volumes_in config) ∙ ap (λ (os : List Object). filter_map as_vol os) made ∙ volumes_sorted all)
    ∙ sym (any_vol (λ v. bytes_eq v.name vol) all)

-- ---- edits

abbrev pub named_in : Word → Option Object → Bool
named_in vol None = false
named_in vol (Some o) = is_named vol o

-- the edit gives no volume another name
abbrev pub KeepsNames : Edit → Type 0
KeepsNames e = (vol : Word) (all : List Object) (o : Object) → named_in vol (change e all o) ≡ true → is_named vol o ≡ true

pub named_filtered : (vol : Word) (f : Object → Option Object) → ((o : Object) → named_in vol (f o) ≡ true → is_named vol o ≡ true) → (os : List Object) → has_named vol (filter_map f os) ≡ true → has_named vol os ≡ true
named_filtered vol f keeps [] h = h
named_filtered vol f keeps (o ∷ os) h = by (f o) refl (named_filtered vol f keeps os) h
  where
    by : (p : Option Object) → f o ≡ p → (has_named vol (filter_map f os) ≡ true → has_named vol os ≡ true) → has_named vol (cons_option p (filter_map f os)) ≡ true → has_named vol (o ∷ os) ≡ true
    by None is more h = or_from_right (is_named vol o) (has_named vol os) (more h)
    by (Some p) is more h = elim (or_cases (is_named vol p) (has_named vol (filter_map f os)) h) [
      | inl here ↦ or_from_left (is_named vol o) (has_named vol os) (keeps o (ap (named_in vol) is ∙ here))
      | inr there ↦ or_from_right (is_named vol o) (has_named vol os) (more there)
    ]

pub named_edited : (e : Edit) → KeepsNames e → (vol : Word) (all : List Object) → has_named vol (edited e all) ≡ true → (has_named vol all ≡ true) ⊎ (has_named vol (added e) ≡ true)
named_edited e keeps vol all h =
    elim (or_cases (has_named vol (filter_map (λ o. change e all o) all)) (has_named vol (added e)) (sym (list_any-append (is_named vol) (filter_map (λ o. change e all o) all) (added e)) ∙ h)) [
      | inl old ↦ inl (named_filtered vol (λ o. change e all o) (keeps vol all) all old)
      | inr new ↦ inr new
    ]

kept_names : (vol : Word) (stays : Bool) (o : Object) → named_in vol (kept stays o) ≡ true → is_named vol o ≡ true
kept_names vol true o h = h
kept_names vol false o h = cc

pub policy_names : (vol : Word) (next : VolState) (policy : PolicyName) → KeepsNames (SetVol vol next policy)
unfolding change
policy_names vol next policy name all (VolRecord v) h = by (bytes_eq v.name vol) h
  where
    by : (b : Bool) → is_named name (VolRecord (if b then record v { state = next; rdpol = policy_kind policy; prefer = policy_plex policy } else v)) ≡ true → bytes_eq v.name name ≡ true
    by true h = h
    by false h = h
policy_names vol next policy name all (GroupRecord g) h = h
policy_names vol next policy name all (DiskRecord d) h = h
policy_names vol next policy name all (SubdiskRecord s) h = h
policy_names vol next policy name all (PlexRecord p) h = h
policy_names vol next policy name all (DcoRecord d) h = h
policy_names vol next policy name all (SnapRecord s) h = h

pub plex_names : (plex : Word) (vol : Option Word) (next : PlexState) (number : Option ℕ) → KeepsNames (SetPlex plex vol next number)
unfolding change
plex_names plex vol next number name all (VolRecord v) h = h
plex_names plex vol next number name all (GroupRecord g) h = h
plex_names plex vol next number name all (DiskRecord d) h = h
plex_names plex vol next number name all (SubdiskRecord s) h = h
plex_names plex vol next number name all (PlexRecord p) h = h
plex_names plex vol next number name all (DcoRecord d) h = h
plex_names plex vol next number name all (SnapRecord s) h = h

remove_names : (vol : Word) → KeepsNames (RemoveVol vol)
unfolding change
remove_names vol name all o h = kept_names name (stays_without_vol vol all o) o h

make_names : (xs : List Object) → KeepsNames (Make xs)
unfolding change
make_names xs name all o h = h

add_names : (disk : Disk) → KeepsNames (AddDisk disk)
unfolding change
add_names disk name all o h = h

-- what one edit makes of the names
one_edit : (e : Edit) → KeepsNames e → (old new : Config) → IsEdited (e ∷ []) old new → (vol : Word) → RecordsVolume new vol → RecordsVolume old vol ⊎ (has_named vol (added e) ≡ true)
one_edit e keeps old new made vol h = elim (named_edited e keeps vol (objects_of old) (sym (made_named new (edited e (objects_of old)) vol made) ∙ h)) [
  | inl was ↦ inl (recorded_named old vol ∙ was)
  | inr now ↦ inr now
]

no_edit : (old new : Config) → IsEdited [] old new → (vol : Word) → RecordsVolume new vol → RecordsVolume old vol
no_edit old new made vol h = recorded_named old vol ∙ sym (made_named new (objects_of old) vol made) ∙ h

-- a change of a volume records no other
change_records : (c : Change) (g : Option Group) (old new : Config) → IsEdited (edits_of c g) old new → (vol : Word) → RecordsVolume new vol → RecordsVolume old vol
unfolding added
change_records (changes.Remove name) g old new made vol h = elim (one_edit (RemoveVol name) (remove_names name) old new made vol h) [ inl was ↦ was | inr none ↦ cc ]
change_records (changes.Policy name policy) g old new made vol h = by (recorded name g) made
  where
    by : (v : Option Vol) → IsEdited (policy_edit v (λ v. SetVol name v.state policy)) old new → RecordsVolume old vol
    by None made = no_edit old new made vol h
    by (Some v) made = elim (one_edit (SetVol name v.state policy) (policy_names name v.state policy) old new made vol h) [ inl was ↦ was | inr none ↦ cc ]

module _ (w : World) where
  pub change_apart : (c : Change) (g : Option Group) (old new : Config) → IsEdited (edits_of c g) old new → IsApart old w → IsApart new w
  change_apart c g old new made apart vol h = apart vol (change_records c g old new made vol h)

  pub join_apart : (disk : Disk) (old new : Config) → IsEdited (AddDisk disk ∷ []) old new → IsApart old w → IsApart new w
  unfolding added
  join_apart disk old new made apart vol h = elim (one_edit (AddDisk disk) (add_names disk) old new made vol h) [ inl was ↦ apart vol was | inr none ↦ cc ]

  -- ---- records that are added

  none_lone : (vol : Word) → is_some (w.volumes vol) ≡ false → lone (w.volumes vol) ≡ None
  none_lone vol e = by (w.volumes vol) e
    where
      by : (o : Option Volume) → is_some o ≡ false → lone o ≡ None
      by None e = refl
      by (Some v) e = cc

  named_not_started : (os : List Object) → started_name (is_started w) os ≡ None → (vol : Word) → has_named vol os ≡ true → is_some (w.volumes vol) ≡ false
  named_not_started [] none vol h = cc
  named_not_started (VolRecord v ∷ os) none vol h = by (is_started w v.name) refl none (or_cases (bytes_eq v.name vol) (has_named vol os) h) (λ rest. named_not_started os rest vol)
    where
      by : (b : Bool) → is_some (w.volumes v.name) ≡ b → (if b then Some (Exists v.name) else started_name (is_started w) os) ≡ None → (bytes_eq v.name vol ≡ true) ⊎ (has_named vol os ≡ true)
          → (started_name (is_started w) os ≡ None → has_named vol os ≡ true → is_some (w.volumes vol) ≡ false) → is_some (w.volumes vol) ≡ false
      by true is e any more = cc
      by false is e (inl here) more = subst (λ (n : Word). is_some (w.volumes n) ≡ false) (bytes_eq_same v.name vol here) is
      by false is e (inr there) more = more e there
  named_not_started (GroupRecord g ∷ os) none vol h = named_not_started os none vol h
  named_not_started (DiskRecord d ∷ os) none vol h = named_not_started os none vol h
  named_not_started (SubdiskRecord s ∷ os) none vol h = named_not_started os none vol h
  named_not_started (PlexRecord p ∷ os) none vol h = named_not_started os none vol h
  named_not_started (DcoRecord d ∷ os) none vol h = named_not_started os none vol h
  named_not_started (SnapRecord s ∷ os) none vol h = named_not_started os none vol h

  not_started : (group xs : List Object) → adding_refusal (is_started w) group xs ≡ None → started_name (is_started w) xs ≡ None
  not_started group xs fine =
      let known = firsts (group ++ xs) in
      let all = group ++ xs in
      let space = broken space_rules known all in
      let names = first_some (started_name (is_started w) xs) space in
      let limits = first_some (broken limit_rules known all) names in
      let had = first_some (refusal_from (first_of (had_fault group) xs)) limits in
      first_none (started_name (is_started w) xs) space
      (second_none (broken limit_rules known all) names
      (second_none (refusal_from (first_of (had_fault group) xs)) limits
      (second_none (broken reference_rules known all) had fine)))

  pub make_apart : (xs : List Object) (old new : Config) → IsEdited (Make xs ∷ []) old new → adding_refusal (is_started w) (objects_of old) xs ≡ None → IsApart old w → IsApart new w
  unfolding added
  make_apart xs old new made fine apart vol h = elim (one_edit (Make xs) (make_names xs) old new made vol h) [
    | inl was ↦ apart vol was
    | inr now ↦ none_lone vol (named_not_started xs (not_started (objects_of old) xs fine) vol now)
  ]

  -- records that are of one volume are plexes and subdisks
  part_unnamed : (name vol : Word) (all os : List Object) → list_all (is_part_of name all) os ≡ true → has_named vol os ≡ false
  part_unnamed name vol all [] of = refl
  part_unnamed name vol all (PlexRecord p ∷ os) of = part_unnamed name vol all os (and_parts (is_part_of name all (PlexRecord p)) (list_all (is_part_of name all) os) of).1
  part_unnamed name vol all (SubdiskRecord s ∷ os) of = part_unnamed name vol all os (and_parts (is_part_of name all (SubdiskRecord s)) (list_all (is_part_of name all) os) of).1
  part_unnamed name vol all (o ∷ os) of = absurd (false≢true of)

  pub parts_apart : (name : Word) (xs : List Object) (old new : Config) → AreOf name xs → IsEdited (Make xs ∷ []) old new → IsApart old w → IsApart new w
  unfolding added
  parts_apart name xs old new of made apart vol h = elim (one_edit (Make xs) (make_names xs) old new made vol h) [
    | inl was ↦ apart vol was
    | inr now ↦ absurd (not_both now (part_unnamed name vol xs xs of))
  ]

  -- ---- a new group

  no_volume : (slot : ℕ) (ps : List DiskAt) (vol : Word) → has_named vol (disk_records slot w ps) ≡ false
  no_volume slot [] vol = refl
  no_volume slot (p ∷ ps) vol = no_volume (slot + 1) ps vol

  pub create_apart : (dg : Word) (pairs : List DiskAt) (config : Config) → objects_of config ≡ new_records dg w pairs → IsApart config w
  create_apart dg pairs config made vol h = not_both (sym (ap (has_named vol) made) ∙ sym (recorded_named config vol) ∙ h) (no_volume 0 pairs vol)

  -- ---- an import

  synced_named : (vol : Word) (o : Object) → is_named vol (needs_sync o) ≡ is_named vol o
  synced_named vol (VolRecord v) = refl
  synced_named vol (GroupRecord g) = refl
  synced_named vol (DiskRecord d) = refl
  synced_named vol (SubdiskRecord s) = refl
  synced_named vol (PlexRecord p) = refl
  synced_named vol (DcoRecord d) = refl
  synced_named vol (SnapRecord s) = refl

  all_synced : (vol : Word) (os : List Object) → has_named vol (map needs_sync os) ≡ has_named vol os
  all_synced vol [] = refl
  all_synced vol (o ∷ os) = ap (λ (b : Bool). b || has_named vol (map needs_sync os)) (synced_named vol o) ∙ ap (λ (b : Bool). is_named vol o || b) (all_synced vol os)

  not_first : (vs : List Vol) (vol : Word) → first_that (λ v. is_some (w.volumes v.name)) vs ≡ None → list_any (λ v. bytes_eq v.name vol) vs ≡ true → is_some (w.volumes vol) ≡ false
  not_first [] vol none h = cc
  not_first (v ∷ vs) vol none h = by (is_some (w.volumes v.name)) refl none (or_cases (bytes_eq v.name vol) (list_any (λ v. bytes_eq v.name vol) vs) h) (not_first vs vol)
    where
      by : (b : Bool) → is_some (w.volumes v.name) ≡ b → (if b then Some v else first_that (λ v. is_some (w.volumes v.name)) vs) ≡ None → (bytes_eq v.name vol ≡ true) ⊎ (list_any (λ v. bytes_eq v.name vol) vs ≡ true)
          → (first_that (λ v. is_some (w.volumes v.name)) vs ≡ None → list_any (λ v. bytes_eq v.name vol) vs ≡ true → is_some (w.volumes vol) ≡ false) → is_some (w.volumes vol) ≡ false
      by true is e any more = cc
      by false is e (inl here) more = subst (λ (n : Word). is_some (w.volumes n) ≡ false) (bytes_eq_same v.name vol here) is
      by false is e (inr there) more = more e there

  pub import_apart : (config new : Config) → objects_of new ≡ import_records config → first_that (λ v. is_some (w.volumes v.name)) config.volumes ≡ None → IsApart new w
  import_apart config new made none vol h =
      none_lone vol (not_first config.volumes vol none (recorded_named config vol ∙ sym (all_synced vol (objects_of config)) ∙ sym (made_named new (map needs_sync (objects_of config)) vol made) ∙ h))

-- ---- what an import finds

-- none of its volumes has the name of a started one
abbrev pub IsFree : World → (Offer → Config → Type 0) → Offer → Config → Type 0
IsFree w F o config = F o config × (first_that (λ v. is_some (w.volumes v.name)) config.volumes ≡ None)

module _ (dg : Word) (w : World) (unread : Word → Bool) (cs : List Candidate) (F : Offer → Config → Type 0) where
  by_names : (o : Offer) (config : Config) (b : Bool) (x : Option Candidate) (y : Option Vol) → first_that (λ v. is_some (w.volumes v.name)) config.volumes ≡ y
      → MatchBool b (MatchOption x (MatchOption y (F o config) (λ v. ⊥)) (λ c. ⊥)) ⊥ → MatchBool b (MatchOption x (MatchOption y (IsFree w F o config) (λ v. ⊥)) (λ c. ⊥)) ⊥
  by_names o config true None None e h = (h, e)
  by_names o config true None (Some v) e h = h
  by_names o config true (Some c) y e h = h
  by_names o config false x y e h = h

  by_text : (o : Offer) → FindsText dg w o cs (λ r. ⊥) (F o) → FindsText dg w o cs (λ r. ⊥) (IsFree w F o)
  by_text o (inl bad) = inl bad
  by_text o (inr (rs, spells, inl broken)) = inr (rs, spells, inl broken)
  by_text o (inr (rs, spells, inr (config, read, h))) =
      inr (rs, spells, inr (config, read, by_names o config (bytes_eq config.group dg) (first_that (λ c. not (is_recorded config c.label)) (good_ones o.good cs)) (first_that (λ v. is_some (w.volumes v.name)) config.volumes) refl h))

  by_slots : (o : Offer) (x : Option ℕ) → MatchOption x (FindsText dg w o cs (λ r. ⊥) (F o)) (λ slot. (disk : Option Word) × IsDiskOf o.text slot disk × ⊥)
      → MatchOption x (FindsText dg w o cs (λ r. ⊥) (IsFree w F o)) (λ slot. (disk : Option Word) × IsDiskOf o.text slot disk × ⊥)
  by_slots o None h = by_text o h
  by_slots o (Some slot) h = h

  by_offer : (o : Offer) (b : Bool) (x y : Option Candidate) → MatchBool b (MatchOption x ⊥ (λ c. ⊥)) (MatchOption y (FindsAll dg w unread o cs (λ r. ⊥) (F o)) (λ c. (r : Refusal) × IsDamage c r × ⊥))
      → MatchBool b (MatchOption x ⊥ (λ c. ⊥)) (MatchOption y (FindsAll dg w unread o cs (λ r. ⊥) (IsFree w F o)) (λ c. (r : Refusal) × IsDamage c r × ⊥))
  by_offer o true x y h = h
  by_offer o false x None h = by_slots o (missing_from 32 0 o.good unread cs) h
  by_offer o false x (Some c) h = h

  by_highest : (top : Option Offer) (x : Option Candidate) → MatchOption top (MatchOption x ⊥ (λ c. (r : Refusal) × IsDamage c r × ⊥)) (λ o. FindsOffer dg w unread o cs (λ r. ⊥) (F o))
      → MatchOption top (MatchOption x ⊥ (λ c. (r : Refusal) × IsDamage c r × ⊥)) (λ o. FindsOffer dg w unread o cs (λ r. ⊥) (IsFree w F o))
  by_highest None x h = h
  by_highest (Some o) x h = by_offer o (nat_lt (2 ^ 63) o.sequence) (first_that (is_taken_of dg unread o.sequence) cs) (first_that (is_damaged_one unread (λ c. has o.good c.label.slot)) cs) h

  pub finds_free : Finds dg w unread cs (λ r. ⊥) F → Finds dg w unread cs (λ r. ⊥) (IsFree w F)
  finds_free h = by_highest (highest (offers_of dg unread cs)) (first_that (is_damaged_one unread (λ c. true)) cs) h
