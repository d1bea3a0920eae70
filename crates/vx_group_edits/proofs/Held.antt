-- All disks of the plex of a mirror are good: each of its subdisks is a new one, and so on a good disk.
use Rattle.std.proofs.Common.{◌≡◌, ◌≢◌, ℕ, Bool, true, false, not, Option, Some, None, List, [], ◌∷◌, ◌++◌, take, drop, refl, sym, subst, inl, inr}
use Rattle.std.specs.Prelude.{◌||◌, Contains}
use Rattle.std.specs.List.{list_all}
use Rattle.std.specs.Str.{bytes_eq}
use Rattle.std.proofs.lemmas.Bool.{and_parts, false≢true}
use Rattle.vx_base.specs.Named.{Word}
use Rattle.vx_base.proofs.NamedLemmas.{bytes_eq_same}
use Rattle.vx_mask.specs.Mask.{has}
use Rattle.vx_config_parts.specs.declared.object.Object.{Object}
use Rattle.vx_config_parts.specs.declared.object.Object.TheVariants.{PlexRecord, SubdiskRecord}
use Rattle.vx_config_parts.specs.declared.fault.ObjectFault.TheVariants.{NoObject}
use Rattle.vx_config_parts.specs.declared.plex.Plex.{Plex}
use Rattle.vx_config_parts.specs.declared.subdisk.Subdisk.{Subdisk}
use Rattle.vx_config_parts.specs.declared.vol.Vol.{Vol}
use Rattle.vx_config_parts.specs.Objects.{is_plex, refers}
use Rattle.vx_rules.specs.declared.rule.Rule.TheVariants as rule
use Rattle.vx_rules.specs.Faults.{unless}
use Rattle.vx_rules.specs.References.{has_disk, has_plex, missing}
use Rattle.vx_rules.specs.Rules.{fault_in, fault_of, first_broken, rules}
use Rattle.vx_objects.specs.declared.config.Config.{Config}
use Rattle.vx_objects.specs.declared.edit.Edit.TheVariants.{Make}
use Rattle.vx_objects.specs.Applied.{IsEdited}
use Rattle.vx_objects.specs.Config.{objects_of}
use Rattle.vx_objects.proofs.OneGroup.{second_none, unless_none}
use Rattle.vx_image.specs.Bytes.{is_held}
use Rattle.vx_image.specs.Lies.{slot_of}
use Rattle.vx_image.proofs.PlexMembers.{IsIn, any_in, in_either, subdisk_in}
use Rattle.vx_image.proofs.Plexes.{config_valid}
use Rattle.vx_image.proofs.Valid.{in_rule, one_rule}
use Rattle.vx_image.proofs.Members.{contains}
use Rattle.vx_new_volumes.specs.Disks.{names_of}
use Rattle.vx_new_volumes.specs.Mirrors.{mirror_request}
use Rattle.vx_group_edits.proofs.ByKind.{plex_recorded}
use Rattle.vx_group_edits.proofs.Lists.{all_each}
use Rattle.vx_group_edits.specs.Joins.{Joins, subdisks_in}
use Rattle.vx_group_edits.proofs.Joined.{plex_joins}
use Rattle.vx_stages.specs.Mirroring.{IsMirrorLaid}
use Rattle.vx_group_edits.specs.MirrorLaws.{EachLaidMirrorIsHeld}
use Rattle.vx_group_edits.proofs.GoodDisks.{free_lies, good_name, good_slot}
use Rattle.vx_group_edits.proofs.Plans.{plan_lies}
use Rattle.vx_group_edits.proofs.Records.{mirror_is_of, mirror_made, mirror_passes}

-- ---- a subdisk that was there

pub references_rule : (all : List Object) → first_broken all ≡ None → fault_of rule.ReferencesAreThere all ≡ None
unfolding first_broken
references_rule all e = one_rule (take 2 rules) rule.ReferencesAreThere (drop 3 rules) all e

plex_named_by : (all : List Object) (s : Subdisk) → fault_in rule.ReferencesAreThere all (SubdiskRecord s) ≡ None → missing s.plex (λ p. has_plex p all) ≡ None
unfolding fault_in
plex_named_by all s e = second_none (unless (has_disk s.disk all) (NoObject s.disk)) (missing s.plex (λ p. has_plex p all)) e

there_by : (is_there : Word → Bool) (attribute : Option Word) (name : Word) → missing attribute is_there ≡ None → refers attribute name ≡ true → is_there name ≡ true
there_by is_there None name e on = absurd (false≢true on)
there_by is_there (Some w) name e on = subst (λ n. is_there n ≡ true) (bytes_eq_same w name on) (unless_none (is_there w) (NoObject w) e)

-- it is of a plex that was there
plex_of : (c : Config) (s : Subdisk) (name : Word) → IsIn c.subdisks s → refers s.plex name ≡ true → (q : Plex) × IsIn c.plexes q × (q.name ≡ name)
plex_of c s name there on =
    let all = objects_of c in
    let none = in_rule rule.ReferencesAreThere all (SubdiskRecord s) (references_rule all (config_valid c)) (subdisk_in c s there) in
    let named = there_by (λ n. has_plex n all) s.plex name (plex_named_by all s none) on in
    let o = any_in (λ o. is_plex (λ p. bytes_eq p.name name) o) all named in
    by o.0 o.1 o.2
  where
    by : (o : Object) → IsIn (objects_of c) o → is_plex (λ p. bytes_eq p.name name) o ≡ true → (q : Plex) × IsIn c.plexes q × (q.name ≡ name)
    by (PlexRecord q) here is = (q, plex_recorded c q here, bytes_eq_same q.name name is)
    by o here is = absurd (false≢true is)

-- ---- a new one

-- a record that is a subdisk is on a disk whose name passes a test
abbrev pub lies : (Word → Bool) → Object → Bool
lies good (SubdiskRecord s) = good s.disk
lies good o = true

subdisk_lies : (good : Word → Bool) (os : List Object) (s : Subdisk) → list_all (lies good) os ≡ true → IsIn (subdisks_in os) s → good s.disk ≡ true
subdisk_lies good [] s all there = absurd there
subdisk_lies good (SubdiskRecord t ∷ os) s all (inl same) = subst (λ (x : Subdisk). good x.disk ≡ true) (sym same) (and_parts (good t.disk) (list_all (lies good) os) all).0
subdisk_lies good (SubdiskRecord t ∷ os) s all (inr there) = subdisk_lies good os s (and_parts (good t.disk) (list_all (lies good) os) all).1 there
subdisk_lies good (o ∷ os) s all there = subdisk_lies good os s all there

-- where all that is added lies on disks with the names of good ones, all disks of a new plex are good
module _ (c c' : Config) (good : ℕ) (added : List Object) (disks : c'.disks ≡ c.disks) (subdisks : c'.subdisks ≡ c.subdisks ++ subdisks_in added) (lie : list_all (lies (good_name c.disks good)) added ≡ true)
    (p : Plex) (new : (q : Plex) → Contains c.plexes q → q.name ≢ p.name) where
  -- a subdisk of the plex is new, and so on a good disk
  on_disk : (s : Subdisk) → IsIn c'.subdisks s → refers s.plex p.name ≡ true → good_name c'.disks good s.disk ≡ true
  on_disk s here on = elim (in_either c.subdisks (subdisks_in added) s (subst (λ ss. IsIn ss s) subdisks here)) [
    | inl old ↦ let q = plex_of c s p.name old on in absurd (new q.0 (contains c.plexes q.0 q.1) q.2)
    | inr there ↦ subst (λ ds. good_name ds good s.disk ≡ true) (sym disks) (subdisk_lies (good_name c.disks good) added s lie there)
  ]

  pub new_held : is_held c' good p ≡ true
  new_held = all_each (λ s. not (refers s.plex p.name) || has good (slot_of c'.disks s.disk)) c'.subdisks (λ s here. by s here (refers s.plex p.name) refl)
    where
      by : (s : Subdisk) → IsIn c'.subdisks s → (b : Bool) → refers s.plex p.name ≡ b → (not b || has good (slot_of c'.disks s.disk)) ≡ true
      by s here true on = good_slot c' good s here (on_disk s here on)
      by s here false on = refl

-- ---- a mirror

module _ (c c' : Config) (good : ℕ) (v : Vol) (disks : List Word) (m : ℕ) (added : List Object) (laid : IsMirrorLaid c good v disks m added) (edits : IsEdited (Make added ∷ []) c c') where
  joined : Joins c v.name added c'
  joined = plex_joins c c' v.name added (mirror_is_of (objects_of c) v laid.lowest m laid.plan added laid.records).2.of edits

  -- each subdisk that is added is on a disk with the name of a good one
  added_lie : list_all (lies (good_name c.disks good)) added ≡ true
  added_lie =
      let made = mirror_made (objects_of c) v laid.lowest m laid.plan added laid.records in
      let planned = plan_lies (good_name c.disks good) (mirror_request (objects_of c) v laid.lowest disks) (names_of laid.planned.disks) laid.planned.free laid.plan (free_lies c good laid.planned.free laid.planned.are_free) laid.planned.is in
      let rest = mirror_passes (lies (good_name c.disks good)) (λ e. good_name c.disks good e.disk) (objects_of c) v laid.lowest m laid.plan added made (λ name col at e fits. fits) planned in
      subst (λ os. list_all (lies (good_name c.disks good)) os ≡ true) made.are rest

pub laid_held : EachLaidMirrorIsHeld
laid_held c c' good v disks m added laid edits p new =
    let all = joined c c' good v disks m added laid edits in
    new_held c c' good added all.disks all.subdisks (added_lie c c' good v disks m added laid edits) p (all.new p new).name
