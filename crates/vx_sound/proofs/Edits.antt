-- What commands make of a configuration: its group's name stays, and its disks.
use Rattle.std.proofs.Common.{◌≡◌, ℕ, ◌+◌, ◌==◌, ◌||◌, not, Bool, true, false, List, [], ◌∷◌, ◌++◌, map, Option, Some, None, refl, sym, ◌∙◌, ap, subst}
use Rattle.std.specs.List.{list_any, filter_map, cons_option}
use Rattle.std.specs.Str.{bytes_eq}
use Rattle.std.proofs.lemmas.Bool.{eq-eqb}
use Rattle.std.proofs.lemmas.List.Elements.{filter_map-append}
use Rattle.std.proofs.lemmas.List.Folds.{list_any-append}
use Rattle.vx_base.specs.Named.{Word}
use Rattle.vx_mask.proofs.Tests.{or_from_left, or_from_right}
use Rattle.vx_copies.specs.Lists.{AllOf}
use Rattle.vx_config_parts.specs.declared.disk.Disk.{Disk}
use Rattle.vx_config_parts.specs.declared.group.Group.{Group as GroupPart}
use Rattle.vx_config_parts.specs.declared.state.PlexState.{PlexState}
use Rattle.vx_config_parts.specs.declared.state.VolState.{VolState}
use Rattle.vx_config_parts.specs.declared.vol.PolicyName.{PolicyName}
use Rattle.vx_config_parts.specs.declared.vol.Vol.{Vol}
use Rattle.vx_config_parts.specs.declared.object.Object.{Object}
use Rattle.vx_config_parts.specs.declared.object.Object.TheVariants.{GroupRecord, DiskRecord, SubdiskRecord, PlexRecord, VolRecord, DcoRecord, SnapRecord}
use Rattle.vx_config_parts.specs.Objects.{refers}
use Rattle.vx_objects.specs.declared.config.Config.{Config}
use Rattle.vx_objects.specs.declared.edit.Edit.{Edit}
use Rattle.vx_objects.specs.declared.edit.Edit.TheVariants.{AddDisk, Make, SetPlex, SetVol, RemoveVol}
use Rattle.vx_objects.specs.Applied.{IsEdited}
use Rattle.vx_objects.specs.Config.{objects_of}
use Rattle.vx_objects.specs.Edits.{change, added, edited, kept, names_plex_of}
use Rattle.vx_objects.specs.Parts.{as_disk, in_kinds, records_below}
use Rattle.vx_script_words.specs.declared.value.DiskAt.{DiskAt}
use Rattle.vx_moments.specs.World.{World, Group}
use Rattle.vx_stages.specs.Finding.{needs_sync, import_records}
use Rattle.vx_stages.specs.Records.{disk_records, new_records, new_members}
use Rattle.vx_stages.specs.Stages.{edits_of, policy_edit}
use Rattle.vx_stages.specs.Tests.{recorded}
use Rattle.vx_stages.specs.declared.stage.Change.{Change}
use Rattle.vx_stages.specs.declared.stage.Change.TheVariants as changes
use Rattle.vx_sound.proofs.Configs.{Records, disks_in, disks_made}
use Rattle.vx_sound.proofs.Lists.{all_imp}

-- the name in the group's record, which is the first
abbrev pub name_first : List Object → Word
name_first (GroupRecord g ∷ os) = g.name
name_first os = []

pub disk_in : Option Object → Option Disk
disk_in None = None
disk_in (Some o) = as_disk o

cons_where : (x : Option Object) (os : List Object) → filter_map as_disk (cons_option x os) ≡ cons_option (disk_in x) (filter_map as_disk os)
unfolding disk_in
cons_where None os = refl
cons_where (Some o) os = refl

-- what leaves each disk's record alone leaves the disks
pub same_disks : (f : Object → Option Object) → ((o : Object) → disk_in (f o) ≡ as_disk o) → (os : List Object) → filter_map as_disk (filter_map f os) ≡ filter_map as_disk os
same_disks f same [] = refl
same_disks f same (o ∷ os) =
    cons_where (f o) (filter_map f os) ∙ ap (λ (d : Option Disk). cons_option d (filter_map as_disk (filter_map f os))) (same o)
    ∙ ap (λ (ds : List Disk). cons_option (as_disk o) ds) (same_disks f same os)

stays_none : (stays : Bool) (o : Object) → as_disk o ≡ None → disk_in (kept stays o) ≡ as_disk o
unfolding disk_in
stays_none true o none = refl
stays_none false o none = sym none

-- the edit lets the records of the group and of disks alone
pub record IsKeeping (e : Edit) : Type 0 where
  pub disks : (all : List Object) (o : Object) → disk_in (change e all o) ≡ as_disk o
  pub group : (all : List Object) (g : GroupPart) → change e all (GroupRecord g) ≡ Some (GroupRecord g)

policy_keeps : (vol : Word) (next : VolState) (policy : PolicyName) (all : List Object) (o : Object) → disk_in (change (SetVol vol next policy) all o) ≡ as_disk o
unfolding change disk_in
policy_keeps vol next policy all (GroupRecord g) = refl
policy_keeps vol next policy all (DiskRecord d) = refl
policy_keeps vol next policy all (SubdiskRecord s) = refl
policy_keeps vol next policy all (PlexRecord p) = refl
policy_keeps vol next policy all (VolRecord v) = refl
policy_keeps vol next policy all (DcoRecord d) = refl
policy_keeps vol next policy all (SnapRecord s) = refl

plex_keeps : (plex : Word) (vol : Option Word) (next : PlexState) (number : Option ℕ) (all : List Object) (o : Object) → disk_in (change (SetPlex plex vol next number) all o) ≡ as_disk o
unfolding change disk_in
plex_keeps plex vol next number all (GroupRecord g) = refl
plex_keeps plex vol next number all (DiskRecord d) = refl
plex_keeps plex vol next number all (SubdiskRecord s) = refl
plex_keeps plex vol next number all (PlexRecord p) = refl
plex_keeps plex vol next number all (VolRecord v) = refl
plex_keeps plex vol next number all (DcoRecord d) = refl
plex_keeps plex vol next number all (SnapRecord s) = refl

remove_keeps : (vol : Word) (all : List Object) (o : Object) → disk_in (change (RemoveVol vol) all o) ≡ as_disk o
unfolding change disk_in
remove_keeps vol all (GroupRecord g) = refl
remove_keeps vol all (DiskRecord d) = refl
remove_keeps vol all (SubdiskRecord s) = stays_none (not (names_plex_of s.plex vol all)) (SubdiskRecord s) refl
remove_keeps vol all (PlexRecord p) = stays_none (not (refers p.vol vol)) (PlexRecord p) refl
remove_keeps vol all (VolRecord v) = stays_none (not (bytes_eq v.name vol)) (VolRecord v) refl
remove_keeps vol all (DcoRecord d) = stays_none (not (bytes_eq d.vol vol)) (DcoRecord d) refl
remove_keeps vol all (SnapRecord s) = refl

pub policy_kept : (vol : Word) (next : VolState) (policy : PolicyName) → IsKeeping (SetVol vol next policy)
unfolding change
policy_kept vol next policy = record { disks = policy_keeps vol next policy; group = λ all g. refl }

pub plex_kept : (plex : Word) (vol : Option Word) (next : PlexState) (number : Option ℕ) → IsKeeping (SetPlex plex vol next number)
unfolding change
plex_kept plex vol next number = record { disks = plex_keeps plex vol next number; group = λ all g. refl }

remove_kept : (vol : Word) → IsKeeping (RemoveVol vol)
unfolding change
remove_kept vol = record { disks = remove_keeps vol; group = λ all g. refl }

make_kept : (xs : List Object) → IsKeeping (Make xs)
unfolding change disk_in
make_kept xs = record { disks = λ all o. refl; group = λ all g. refl }

add_kept : (disk : Disk) → IsKeeping (AddDisk disk)
unfolding change disk_in
add_kept disk = record { disks = λ all o. refl; group = λ all g. refl }

-- the group has its name, and the disks that it had
pub record IsGrown (old new : Config) : Type 0 where
  pub group : new.group ≡ old.group
  pub disks : (slot : ℕ) → Records old slot → Records new slot

pub same_grown : (old new : Config) → new.group ≡ old.group → new.disks ≡ old.disks → IsGrown old new
same_grown old new group same = record { group = group; disks = λ slot h. ap (λ (ds : List Disk). list_any (λ d. d.slot == slot) ds) same ∙ h }

module _ (e : Edit) (keeps : IsKeeping e) (old new : Config) (made : IsEdited (e ∷ []) old new) where
  abbrev all : List Object
  all = objects_of old

  group_kept : new.group ≡ old.group
  group_kept =
      ap name_first made
      ∙ ap (λ (x : Option Object). name_first (in_kinds (cons_option x (filter_map (λ o. change e all o) (records_below old.disks old.subdisks old.plexes old.volumes old.dcos old.snaps)) ++ added e)))
      (keeps.group all (record { name = old.group; version = old.version }))

  disks_are : new.disks ≡ old.disks ++ filter_map as_disk (added e)
  disks_are =
      disks_made new (edited e all) made ∙ filter_map-append as_disk (filter_map (λ o. change e all o) all) (added e)
      ∙ ap (λ (ds : List Disk). ds ++ filter_map as_disk (added e)) (same_disks (λ o. change e all o) (keeps.disks all) all ∙ disks_in old)

  one_grown : IsGrown old new
  one_grown = record {
    group = group_kept;
    disks = λ slot h.
        ap (λ (ds : List Disk). list_any (λ d. d.slot == slot) ds) disks_are ∙ list_any-append (λ d. d.slot == slot) old.disks (filter_map as_disk (added e))
        ∙ or_from_left (list_any (λ d. d.slot == slot) old.disks) (list_any (λ d. d.slot == slot) (filter_map as_disk (added e))) h;
  }

none_grown : (old new : Config) → IsEdited [] old new → IsGrown old new
none_grown old new made = same_grown old new (ap name_first made) (disks_made new (objects_of old) made ∙ disks_in old)

-- records that are added
pub make_grown : (xs : List Object) (old new : Config) → IsEdited (Make xs ∷ []) old new → IsGrown old new
make_grown xs old new made = one_grown (Make xs) (make_kept xs) old new made

-- a change of a volume
pub change_grown : (c : Change) (g : Option Group) (old new : Config) → IsEdited (edits_of c g) old new → IsGrown old new
change_grown (changes.Remove vol) g old new made = one_grown (RemoveVol vol) (remove_kept vol) old new made
change_grown (changes.Policy vol policy) g old new made = by (recorded vol g) made
  where
    by : (v : Option Vol) → IsEdited (policy_edit v (λ v. SetVol vol v.state policy)) old new → IsGrown old new
    by None made = none_grown old new made
    by (Some v) made = one_grown (SetVol vol v.state policy) (policy_kept vol v.state policy) old new made

-- a disk that joins is recorded too
module _ (disk : Disk) (old new : Config) (made : IsEdited (AddDisk disk ∷ []) old new) where
  pub join_grown : IsGrown old new
  join_grown = one_grown (AddDisk disk) (add_kept disk) old new made

  pub join_records : Records new disk.slot
  unfolding added
  join_records =
      ap (λ (ds : List Disk). list_any (λ d. d.slot == disk.slot) ds) (disks_are (AddDisk disk) (add_kept disk) old new made)
      ∙ list_any-append (λ d. d.slot == disk.slot) old.disks (disk ∷ [])
      ∙ or_from_right (list_any (λ d. d.slot == disk.slot) old.disks) ((disk.slot == disk.slot) || false) (or_from_left (disk.slot == disk.slot) false (eq-eqb disk.slot disk.slot refl))

-- what an import writes
synced_disk : (o : Object) → as_disk (needs_sync o) ≡ as_disk o
synced_disk (GroupRecord g) = refl
synced_disk (DiskRecord d) = refl
synced_disk (SubdiskRecord s) = refl
synced_disk (PlexRecord p) = refl
synced_disk (VolRecord v) = refl
synced_disk (DcoRecord d) = refl
synced_disk (SnapRecord s) = refl

synced_disks : (os : List Object) → filter_map as_disk (map needs_sync os) ≡ filter_map as_disk os
synced_disks [] = refl
synced_disks (o ∷ os) = ap (λ (d : Option Disk). cons_option d (filter_map as_disk (map needs_sync os))) (synced_disk o) ∙ ap (λ (ds : List Disk). cons_option (as_disk o) ds) (synced_disks os)

pub import_grown : (old new : Config) → objects_of new ≡ import_records old → IsGrown old new
import_grown old new made = same_grown old new (ap name_first made) (disks_made new (map needs_sync (objects_of old)) made ∙ synced_disks (objects_of old) ∙ disks_in old)

-- a new group
module _ (dg : Word) (w : World) (pairs : List DiskAt) (config : Config) (made : objects_of config ≡ new_records dg w pairs) where
  pub new_group : config.group ≡ dg
  new_group = ap name_first made

  recorded_from : (slot : ℕ) (ps : List DiskAt) → AllOf (λ m. list_any (λ d. d.slot == m.slot) (filter_map as_disk (disk_records slot w ps)) ≡ true) (new_members slot ps)
  recorded_from slot [] = tt
  recorded_from slot (p ∷ ps) = (
    or_from_left (slot == slot) (list_any (λ d. d.slot == slot) (filter_map as_disk (disk_records (slot + 1) w ps))) (eq-eqb slot slot refl),
    all_imp (λ m. list_any (λ d. d.slot == m.slot) (filter_map as_disk (disk_records (slot + 1) w ps)) ≡ true) (λ m. ((slot == m.slot) || list_any (λ d. d.slot == m.slot) (filter_map as_disk (disk_records (slot + 1) w ps))) ≡ true)
        (new_members (slot + 1) ps) (λ m h. or_from_right (slot == m.slot) (list_any (λ d. d.slot == m.slot) (filter_map as_disk (disk_records (slot + 1) w ps))) h) (recorded_from (slot + 1) ps),
  )

  pub new_recorded : AllOf (λ m. Records config m.slot) (new_members 0 pairs)
  new_recorded =
      let disks : config.disks ≡ filter_map as_disk (disk_records 0 w pairs) = sym (disks_in config) ∙ ap (λ (os : List Object). filter_map as_disk os) made in
      subst (λ (ds : List Disk). AllOf (λ m. list_any (λ d. d.slot == m.slot) ds ≡ true) (new_members 0 pairs)) (sym disks) (recorded_from 0 pairs)
