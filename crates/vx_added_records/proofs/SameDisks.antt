-- What edits keep of a configuration: the name of its group, and its disks, behind which stand those that they add.
use Rattle.std.proofs.Common.{◌≡◌, ◌∙◌, ◌⊎◌, inl, inr, Bool, true, false, Option, Some, None, List, [], ◌∷◌, ◌++◌, map, refl, sym, ap, append_assoc, if◌then◌else◌}
use Rattle.std.specs.List.{filter_map}
use Rattle.std.specs.Str.{bytes_eq}
use Rattle.std.proofs.lemmas.List.{append-nil}
use Rattle.std.proofs.lemmas.List.Elements.{filter_map-append}
use Rattle.vx_base.specs.Named.{Word}
use Rattle.vx_config_parts.specs.declared.disk.Disk.{Disk}
use Rattle.vx_config_parts.specs.declared.group.Group.{Group}
use Rattle.vx_config_parts.specs.declared.object.Object.{Object}
use Rattle.vx_config_parts.specs.declared.object.Object.TheVariants.{GroupRecord, DiskRecord, PlexRecord, VolRecord, DcoRecord}
use Rattle.vx_objects.specs.declared.config.Config.{Config}
use Rattle.vx_objects.specs.declared.edit.Edit.{Edit}
use Rattle.vx_objects.specs.declared.edit.Edit.TheVariants as edit
use Rattle.vx_objects.specs.Applied.{IsEdited}
use Rattle.vx_objects.specs.Config.{objects_of}
use Rattle.vx_objects.specs.Edits.{change, added, edited, edited_by, kept, stays_without_plex, stays_without_vol, stays_without_snap}
use Rattle.vx_objects.specs.Parts.{as_disk, as_group, as_subdisk, as_plex, as_vol, as_dco, as_snap, in_kinds, records_below, sorted_below}
use Rattle.vx_objects.proofs.InKinds.{disks_below}

-- a record of no group and of no disk
abbrev IsOther : Object → Type 0
IsOther (GroupRecord g) = ⊥
IsOther (DiskRecord d) = ⊥
IsOther o = Unit {0}

-- what becomes of a record: it stays, or is such a one, and becomes another such or goes
abbrev Stays : Object → Option Object → Type 0
Stays o None = IsOther o
Stays o (Some p) = (p ≡ o) ⊎ (IsOther p × IsOther o)

kept_other : (stays : Bool) (o : Object) → IsOther o → Stays o (kept stays o)
kept_other true o other = inl refl
kept_other false o other = other

without : (same : Bool) (o : Object) → IsOther o → Stays o (if same then None else Some o)
without true o other = other
without false o other = inl refl

stays : (e : Edit) (all : List Object) (o : Object) → Stays o (change e all o)
unfolding change
stays (edit.AddDisk disk) all o = inl refl
stays (edit.Make objects) all o = inl refl
stays (edit.AddSnap snap) all o = inl refl
stays (edit.SetPlex plex vol next number) all (PlexRecord p) = inr (tt, tt)
stays (edit.SetPlex plex vol next number) all o = inl refl
stays (edit.SetVol vol next policy) all (VolRecord v) = inr (tt, tt)
stays (edit.SetVol vol next policy) all o = inl refl
stays (edit.SetRegion vol region) all (VolRecord v) = inr (tt, tt)
stays (edit.SetRegion vol region) all o = inl refl
stays (edit.AddDco dco) all (VolRecord v) = inr (tt, tt)
stays (edit.AddDco dco) all o = inl refl
stays (edit.RemoveDco dco) all (VolRecord v) = inr (tt, tt)
stays (edit.RemoveDco dco) all (DcoRecord d) = without (bytes_eq d.name dco) (DcoRecord d) tt
stays (edit.RemoveDco dco) all o = inl refl
stays (edit.RemovePlex plex) all (GroupRecord g) = inl refl
stays (edit.RemovePlex plex) all (DiskRecord d) = inl refl
stays (edit.RemovePlex plex) all o = kept_other (stays_without_plex plex o) o tt
stays (edit.RemoveVol vol) all (GroupRecord g) = inl refl
stays (edit.RemoveVol vol) all (DiskRecord d) = inl refl
stays (edit.RemoveVol vol) all o = kept_other (stays_without_vol vol all o) o tt
stays (edit.RemoveSnap snap) all (GroupRecord g) = inl refl
stays (edit.RemoveSnap snap) all (DiskRecord d) = inl refl
stays (edit.RemoveSnap snap) all o = kept_other (stays_without_snap snap o) o tt

-- ---- disks

no_disk : (o : Object) → IsOther o → as_disk o ≡ None
no_disk (GroupRecord g) other = absurd other
no_disk (DiskRecord d) other = absurd other
no_disk o other = refl

module _ (f : Object → Option Object) (f_stays : (o : Object) → Stays o (f o)) where
  disk_stays : (o : Object) (os : List Object) (r : Option Object) → f o ≡ r → Stays o r → filter_map as_disk (filter_map f os) ≡ filter_map as_disk os → filter_map as_disk (filter_map f (o ∷ os)) ≡ filter_map as_disk (o ∷ os)
  disk_stays o os None is other rest = rw (is, no_disk o other) rest
  disk_stays o os (Some p) is (inl same) rest = rw (is, same, rest) refl
  disk_stays o os (Some p) is (inr other) rest = rw (is, no_disk p other.0, no_disk o other.1) rest

  disks_stay : (os : List Object) → filter_map as_disk (filter_map f os) ≡ filter_map as_disk os
  disks_stay [] = refl
  disks_stay (o ∷ os) = disk_stays o os (f o) refl (f_stays o) (disks_stay os)

-- the disks that the edits add
abbrev pub new_disks : List Edit → List Disk
new_disks [] = []
new_disks (e ∷ es) = filter_map as_disk (added e) ++ new_disks es

disks_edited : (es : List Edit) (all : List Object) → filter_map as_disk (edited_by es all) ≡ filter_map as_disk all ++ new_disks es
disks_edited [] all = sym (append-nil (filter_map as_disk all))
disks_edited (e ∷ es) all =
    disks_edited es (edited e all)
    ∙ ap (λ (ds : List Disk). ds ++ new_disks es) (filter_map-append as_disk (filter_map (λ o. change e all o) all) (added e) ∙ rw (disks_stay (λ o. change e all o) (stays e all) all) refl)
    ∙ append_assoc (filter_map as_disk all) (filter_map as_disk (added e)) (new_disks es)

no_disks : (gs : List Group) → filter_map as_disk (map GroupRecord gs) ≡ []
no_disks [] = refl
no_disks (g ∷ gs) = no_disks gs

disks_in : (all : List Object) → filter_map as_disk (in_kinds all) ≡ filter_map as_disk all
disks_in all =
    filter_map-append as_disk (map GroupRecord (filter_map as_group all)) (sorted_below all)
    ∙ rw (no_disks (filter_map as_group all)) (disks_below (filter_map as_disk all) (filter_map as_subdisk all) (filter_map as_plex all) (filter_map as_vol all) (filter_map as_dco all) (filter_map as_snap all))

disks_of : (c : Config) → filter_map as_disk (objects_of c) ≡ c.disks
disks_of c = disks_below c.disks c.subdisks c.plexes c.volumes c.dcos c.snaps

pub disks_after : (es : List Edit) (old new : Config) → IsEdited es old new → new.disks ≡ old.disks ++ new_disks es
disks_after es old new is = sym (disks_of new) ∙ ap (filter_map as_disk) is ∙ disks_in (edited_by es (objects_of old)) ∙ disks_edited es (objects_of old) ∙ ap (λ (ds : List Disk). ds ++ new_disks es) (disks_of old)

-- records are added, and none of them is a disk
pub disks_beside : (os : List Object) (old new : Config) → filter_map as_disk os ≡ [] → IsEdited (edit.Make os ∷ []) old new → new.disks ≡ old.disks
unfolding added
disks_beside os old new none is = disks_after (edit.Make os ∷ []) old new is ∙ rw none (append-nil old.disks)

-- ---- the group

group_stays : (g : Group) (r : Option Object) → Stays (GroupRecord g) r → r ≡ Some (GroupRecord g)
group_stays g None other = absurd other
group_stays g (Some p) (inl same) = ap (λ o. Some o) same
group_stays g (Some p) (inr other) = absurd other.1

-- the record of the group stays the first
first_edited : (es : List Edit) (g : Group) (os : List Object) → (rest : List Object) × (edited_by es (GroupRecord g ∷ os) ≡ GroupRecord g ∷ rest)
first_edited [] g os = (os, refl)
first_edited (e ∷ es) g os =
    let all : List Object = GroupRecord g ∷ os in
    let here : edited e all ≡ GroupRecord g ∷ (filter_map (λ o. change e all o) os ++ added e) = rw (group_stays g (change e all (GroupRecord g)) (stays e all (GroupRecord g))) refl in
    let later = first_edited es g (filter_map (λ o. change e all o) os ++ added e) in
    (later.0, ap (edited_by es) here ∙ later.1)

first_name : List Object → Word
first_name [] = []
first_name (GroupRecord g ∷ os) = g.name
first_name (o ∷ os) = []

pub group_kept : (es : List Edit) (old new : Config) → IsEdited es old new → new.group ≡ old.group
unfolding first_name
group_kept es old new is =
    let first = first_edited es (record { name = old.group; version = old.version }) (records_below old.disks old.subdisks old.plexes old.volumes old.dcos old.snaps) in
    ap first_name (is ∙ ap in_kinds first.1)
