-- What an edit keeps of a configuration: its name, and its disks.
use Rattle.std.proofs.Common.{◌≡◌, ◌∙◌, Bool, true, false, Option, Some, None, List, [], ◌∷◌, ◌++◌, map, refl, sym, ap}
use Rattle.std.specs.List.{filter_map}
use Rattle.std.proofs.lemmas.List.{append-nil}
use Rattle.std.proofs.lemmas.List.Elements.{filter_map-append}
use Rattle.vx_base.specs.Named.{Word}
use Rattle.vx_config_parts.specs.declared.disk.Disk.{Disk}
use Rattle.vx_config_parts.specs.declared.vol.PolicyName.{PolicyName}
use Rattle.vx_config_parts.specs.declared.vol.Vol.{Vol}
use Rattle.vx_config_parts.specs.declared.state.VolState.{VolState}
use Rattle.vx_config_parts.specs.declared.object.Object.{Object}
use Rattle.vx_config_parts.specs.declared.object.Object.TheVariants.{GroupRecord, DiskRecord, SubdiskRecord, PlexRecord, VolRecord, DcoRecord, SnapRecord}
use Rattle.vx_objects.specs.declared.config.Config.{Config}
use Rattle.vx_objects.specs.declared.edit.Edit.{Edit}
use Rattle.vx_objects.specs.declared.edit.Edit.TheVariants.{AddDisk, SetVol, RemoveVol}
use Rattle.vx_objects.specs.Applied.{IsEdited}
use Rattle.vx_objects.specs.Config.{objects_of}
use Rattle.vx_objects.specs.Edits.{change, added, edited, edited_by, kept, stays_without_vol}
use Rattle.vx_objects.specs.Parts.{as_disk, as_group, as_subdisk, as_plex, as_vol, as_dco, as_snap, in_kinds, sorted_below}
use Rattle.vx_objects.proofs.InKinds.{disks_below}
use Rattle.vx_stages.specs.Stages.{policy_edit}
use Rattle.vx_stages.specs.Tests.{volume_in}
use Rattle.vx_stages.specs.declared.stage.Change.{Change}
use Rattle.vx_stages.specs.declared.stage.Change.TheVariants as changes
use Rattle.vx_stage_changes.specs.Planning.{change_edits}

no_disks : {A : Type 0} (f : A → Object) → ((a : A) → as_disk (f a) ≡ None) → (xs : List A) → filter_map as_disk (map f xs) ≡ []
no_disks f none [] = refl
no_disks f none (x ∷ xs) = rw (none x) (no_disks f none xs)

pub disks_of : (c : Config) → filter_map as_disk (objects_of c) ≡ c.disks
disks_of c = disks_below c.disks c.subdisks c.plexes c.volumes c.dcos c.snaps

pub disks_in : (all : List Object) → filter_map as_disk (in_kinds all) ≡ filter_map as_disk all
disks_in all =
    filter_map-append as_disk (map GroupRecord (filter_map as_group all)) (sorted_below all)
    ∙ ap (λ (zs : List Disk). zs ++ filter_map as_disk (sorted_below all)) (no_disks GroupRecord (λ a. refl) (filter_map as_group all))
    ∙ disks_below (filter_map as_disk all) (filter_map as_subdisk all) (filter_map as_plex all) (filter_map as_vol all) (filter_map as_dco all) (filter_map as_snap all)

-- a record that becomes another, or goes, is none of a kind or stays so
abbrev KeepsKind : {B : Type 0} → (Object → Option B) → Option Object → Object → Type 0
KeepsKind pick None o = pick o ≡ None
KeepsKind pick (Some p) o = pick p ≡ pick o

picked_first : {B : Type 0} (pick : Object → Option B) (p o : Object) (xs ys : List Object) → pick p ≡ pick o → filter_map pick xs ≡ filter_map pick ys → filter_map pick (p ∷ xs) ≡ filter_map pick (o ∷ ys)
picked_first pick p o xs ys same rest = rw (same, rest) refl

picked_none : {B : Type 0} (pick : Object → Option B) (o : Object) (ys : List Object) → pick o ≡ None → filter_map pick (o ∷ ys) ≡ filter_map pick ys
picked_none pick o ys none = rw none refl

picked : {B : Type 0} (pick : Object → Option B) (f : Object → Option Object) → ((o : Object) → KeepsKind pick (f o) o) → (os : List Object) → filter_map pick (filter_map f os) ≡ filter_map pick os
picked pick f keeps [] = refl
picked pick f keeps (o ∷ os) = by (f o) refl (keeps o) (picked pick f keeps os)
  where
    by : (r : Option Object) → f o ≡ r → KeepsKind pick r o → filter_map pick (filter_map f os) ≡ filter_map pick os → filter_map pick (filter_map f (o ∷ os)) ≡ filter_map pick (o ∷ os)
    by None e none rest = rw e rest ∙ sym (picked_none pick o os none)
    by (Some p) e same rest = rw e (picked_first pick p o (filter_map f os) os same rest)

kept_kind : {B : Type 0} (pick : Object → Option B) (stays : Bool) (o : Object) → pick o ≡ None → KeepsKind pick (kept stays o) o
kept_kind pick true o none = refl
kept_kind pick false o none = none

module _ (all : List Object) where
  set_disk : (vol : Word) (next : VolState) (policy : PolicyName) (o : Object) → KeepsKind as_disk (change (SetVol vol next policy) all o) o
  unfolding change
  set_disk vol next policy (GroupRecord g) = refl
  set_disk vol next policy (DiskRecord d) = refl
  set_disk vol next policy (SubdiskRecord s) = refl
  set_disk vol next policy (PlexRecord p) = refl
  set_disk vol next policy (VolRecord v) = refl
  set_disk vol next policy (DcoRecord d) = refl
  set_disk vol next policy (SnapRecord s) = refl

  set_group : (vol : Word) (next : VolState) (policy : PolicyName) (o : Object) → KeepsKind as_group (change (SetVol vol next policy) all o) o
  unfolding change
  set_group vol next policy (GroupRecord g) = refl
  set_group vol next policy (DiskRecord d) = refl
  set_group vol next policy (SubdiskRecord s) = refl
  set_group vol next policy (PlexRecord p) = refl
  set_group vol next policy (VolRecord v) = refl
  set_group vol next policy (DcoRecord d) = refl
  set_group vol next policy (SnapRecord s) = refl

  remove_disk : (vol : Word) (o : Object) → KeepsKind as_disk (change (RemoveVol vol) all o) o
  unfolding change
  remove_disk vol (GroupRecord g) = refl
  remove_disk vol (DiskRecord d) = refl
  remove_disk vol (SubdiskRecord s) = kept_kind as_disk (stays_without_vol vol all (SubdiskRecord s)) (SubdiskRecord s) refl
  remove_disk vol (PlexRecord p) = kept_kind as_disk (stays_without_vol vol all (PlexRecord p)) (PlexRecord p) refl
  remove_disk vol (VolRecord v) = kept_kind as_disk (stays_without_vol vol all (VolRecord v)) (VolRecord v) refl
  remove_disk vol (DcoRecord d) = kept_kind as_disk (stays_without_vol vol all (DcoRecord d)) (DcoRecord d) refl
  remove_disk vol (SnapRecord s) = refl

  remove_group : (vol : Word) (o : Object) → KeepsKind as_group (change (RemoveVol vol) all o) o
  unfolding change
  remove_group vol (GroupRecord g) = refl
  remove_group vol (DiskRecord d) = refl
  remove_group vol (SubdiskRecord s) = kept_kind as_group (stays_without_vol vol all (SubdiskRecord s)) (SubdiskRecord s) refl
  remove_group vol (PlexRecord p) = kept_kind as_group (stays_without_vol vol all (PlexRecord p)) (PlexRecord p) refl
  remove_group vol (VolRecord v) = kept_kind as_group (stays_without_vol vol all (VolRecord v)) (VolRecord v) refl
  remove_group vol (DcoRecord d) = kept_kind as_group (stays_without_vol vol all (DcoRecord d)) (DcoRecord d) refl
  remove_group vol (SnapRecord s) = refl

  set_adds : (vol : Word) (next : VolState) (policy : PolicyName) → added (SetVol vol next policy) ≡ []
  unfolding added
  set_adds vol next policy = refl

  remove_adds : (vol : Word) → added (RemoveVol vol) ≡ []
  unfolding added
  remove_adds vol = refl

  only_changed : (e : Edit) → added e ≡ [] → edited e all ≡ filter_map (λ o. change e all o) all
  only_changed e none = ap (λ os. filter_map (λ o. change e all o) all ++ os) none ∙ append-nil (filter_map (λ o. change e all o) all)

  -- the edits of a change keep what is picked, if each of them does
  kinds_kept : {B : Type 0} (pick : Object → Option B) → ((vol : Word) (next : VolState) (policy : PolicyName) (o : Object) → KeepsKind pick (change (SetVol vol next policy) all o) o) → ((vol : Word) (o : Object) → KeepsKind pick (change (RemoveVol vol) all o) o)
      → (c : Change) (config : Config) → filter_map pick (edited_by (change_edits c config) all) ≡ filter_map pick all
  kinds_kept pick sets removes (changes.Remove vol) config = ap (filter_map pick) (only_changed (RemoveVol vol) (remove_adds vol)) ∙ picked pick (λ o. change (RemoveVol vol) all o) (removes vol) all
  kinds_kept pick sets removes (changes.Policy vol policy) config = by (volume_in vol config.volumes)
    where
      by : (o : Option Vol) → filter_map pick (edited_by (policy_edit o (λ v. SetVol vol v.state policy)) all) ≡ filter_map pick all
      by None = refl
      by (Some v) = ap (filter_map pick) (only_changed (SetVol vol v.state policy) (set_adds vol v.state policy)) ∙ picked pick (λ o. change (SetVol vol v.state policy) all o) (sets vol v.state policy) all

first_name : List Object → Word
first_name [] = []
first_name (GroupRecord g ∷ os) = g.name
first_name (o ∷ os) = []

module _ (c : Change) (old new : Config) (edited_is : IsEdited (change_edits c old) old new) where
  after : List Object
  after = edited_by (change_edits c old) (objects_of old)

  pub disks_kept : new.disks ≡ old.disks
  unfolding after
  disks_kept = sym (disks_of new) ∙ ap (filter_map as_disk) edited_is ∙ disks_in after ∙ kinds_kept (objects_of old) as_disk (set_disk (objects_of old)) (remove_disk (objects_of old)) c old ∙ disks_of old

  pub group_kept : new.group ≡ old.group
  unfolding first_name after
  group_kept = ap first_name edited_is ∙ ap (λ gs. first_name (map GroupRecord gs ++ sorted_below after)) (kinds_kept (objects_of old) as_group (set_group (objects_of old)) (remove_group (objects_of old)) c old)

-- a new disk is recorded last
module _ (disk : Disk) (old new : Config) (joined : IsEdited (AddDisk disk ∷ []) old new) where
  stays : (all os : List Object) → filter_map (λ o. change (AddDisk disk) all o) os ≡ os
  unfolding change
  stays all [] = refl
  stays all (o ∷ os) = ap (λ (rest : List Object). o ∷ rest) (stays all os)

  adds : added (AddDisk disk) ≡ DiskRecord disk ∷ []
  unfolding added
  adds = refl

  longer : edited (AddDisk disk) (objects_of old) ≡ objects_of old ++ DiskRecord disk ∷ []
  longer = ap (λ (os : List Object). os ++ added (AddDisk disk)) (stays (objects_of old) (objects_of old)) ∙ ap (λ (os : List Object). objects_of old ++ os) adds

  kinds_after : objects_of new ≡ in_kinds (objects_of old ++ DiskRecord disk ∷ [])
  kinds_after = joined ∙ ap in_kinds longer

  pub joined_group : new.group ≡ old.group
  unfolding first_name
  joined_group = ap first_name kinds_after

  pub joined_disks : new.disks ≡ old.disks ++ disk ∷ []
  joined_disks =
      sym (disks_of new) ∙ ap (filter_map as_disk) kinds_after ∙ disks_in (objects_of old ++ DiskRecord disk ∷ [])
      ∙ filter_map-append as_disk (objects_of old) (DiskRecord disk ∷ []) ∙ ap (λ (zs : List Disk). zs ++ disk ∷ []) (disks_of old)
