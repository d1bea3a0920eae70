-- What a configuration of a group and its disks records.
use Rattle.std.proofs.Common.{◌≡◌, ◌-◌, Bool, true, ◌&&◌, ◌||◌, ◌==◌, List, [], ◌∷◌, Option, None, refl, sym, ◌∙◌, ap}
use Rattle.std.specs.List.{list_any, list_all, filter_map}
use Rattle.std.specs.List.Sorted.{IsPermutation}
use Rattle.std.specs.Str.{bytes_eq}
use Rattle.std.proofs.lemmas.List.Sorted.{list_any-IsPermutation}
use Rattle.vx_base.specs.Named.{Word}
use Rattle.vx_header.specs.Named.{Label}
use Rattle.vx_config_parts.specs.declared.disk.Disk.{Disk}
use Rattle.vx_config_parts.specs.declared.group.Group.{Group as GroupPart}
use Rattle.vx_config_parts.specs.declared.object.Object.{Object}
use Rattle.vx_config_parts.specs.declared.object.Object.TheVariants.{GroupRecord, DiskRecord, SubdiskRecord, PlexRecord, VolRecord, DcoRecord, SnapRecord}
use Rattle.vx_config_parts.specs.Objects.{is_disk}
use Rattle.vx_objects.specs.declared.config.Config.{Config}
use Rattle.vx_objects.specs.Config.{objects_of}
use Rattle.vx_objects.specs.Parts.{as_disk, as_subdisk, as_plex, as_vol, as_dco, as_snap}
use Rattle.vx_objects.proofs.InKinds.{disks_below, subdisks_below, plexes_below, volumes_below, dcos_below, snaps_below}
use Rattle.vx_stages.specs.Finding.{is_recorded}
use Rattle.vx_laws.specs.Returning.{HasJustDisks}
use Rattle.vx_laws.proofs.Orderless.{is_plain}

-- ---- what a configuration of these records is

-- the record of a group has the name
abbrev pub names_group : Word → Object → Bool
names_group group (GroupRecord g) = bytes_eq g.name group
names_group group o = true

pub any_disk : (test : Disk → Bool) (os : List Object) → list_any (λ o. is_disk test o) os ≡ list_any test (filter_map as_disk os)
any_disk test [] = refl
any_disk test (DiskRecord d ∷ os) = ap (λ (b : Bool). test d || b) (any_disk test os)
any_disk test (GroupRecord g ∷ os) = any_disk test os
any_disk test (SubdiskRecord s ∷ os) = any_disk test os
any_disk test (PlexRecord p ∷ os) = any_disk test os
any_disk test (VolRecord v ∷ os) = any_disk test os
any_disk test (DcoRecord d ∷ os) = any_disk test os
any_disk test (SnapRecord s ∷ os) = any_disk test os

pub none_of_kind : {A : Type 0} (as_kind : Object → Option A) → ((g : GroupPart) → as_kind (GroupRecord g) ≡ None) → ((d : Disk) → as_kind (DiskRecord d) ≡ None) → (os : List Object) → list_all is_plain os ≡ true → filter_map as_kind os ≡ []
none_of_kind as_kind no_group no_disk [] h = refl
none_of_kind as_kind no_group no_disk (GroupRecord g ∷ os) h = rw (no_group g) (none_of_kind as_kind no_group no_disk os h)
none_of_kind as_kind no_group no_disk (DiskRecord d ∷ os) h = rw (no_disk d) (none_of_kind as_kind no_group no_disk os h)
none_of_kind as_kind no_group no_disk (o ∷ os) h = cc

-- a disk of the configuration passes a test where its records have one that does
pub disks_pass : (config : Config) (test : Disk → Bool) → list_any test config.disks ≡ list_any (λ o. is_disk test o) (objects_of config)
disks_pass config test =
    ap (λ (ds : List Disk). list_any test ds) (sym (disks_below config.disks config.subdisks config.plexes config.volumes config.dcos config.snaps))
    ∙ sym (any_disk test (objects_of config))

-- the configuration records the disk as its records do
pub recorded_by : (config : Config) (l : Label) → is_recorded config l ≡ list_any (λ o. is_disk (λ d. d.slot == l.slot && bytes_eq d.name l.disk && d.publen == l.sectors - 2048) o) (objects_of config)
recorded_by config l = disks_pass config (λ d. d.slot == l.slot && bytes_eq d.name l.disk && d.publen == l.sectors - 2048)

pub same_recorded : (config other : Config) (l : Label) → IsPermutation (objects_of config) (objects_of other) → is_recorded config l ≡ true → is_recorded other l ≡ true
same_recorded config other l same h =
    recorded_by other l
    ∙ sym (list_any-IsPermutation (λ o. is_disk (λ d. d.slot == l.slot && bytes_eq d.name l.disk && d.publen == l.sectors - 2048) o) (objects_of config) (objects_of other) same)
    ∙ sym (recorded_by config l) ∙ h

-- a configuration of such records has disks alone
pub just_disks : (config : Config) → list_all is_plain (objects_of config) ≡ true → HasJustDisks config
just_disks config h = record {
  subdisks = sym (subdisks_below config.disks config.subdisks config.plexes config.volumes config.dcos config.snaps) ∙ none_of_kind as_subdisk (λ g. refl) (λ d. refl) (objects_of config) h;
  plexes = sym (plexes_below config.disks config.subdisks config.plexes config.volumes config.dcos config.snaps) ∙ none_of_kind as_plex (λ g. refl) (λ d. refl) (objects_of config) h;
  volumes = sym (volumes_below config.disks config.subdisks config.plexes config.volumes config.dcos config.snaps) ∙ none_of_kind as_vol (λ g. refl) (λ d. refl) (objects_of config) h;
  dcos = sym (dcos_below config.disks config.subdisks config.plexes config.volumes config.dcos config.snaps) ∙ none_of_kind as_dco (λ g. refl) (λ d. refl) (objects_of config) h;
  snaps = sym (snaps_below config.disks config.subdisks config.plexes config.volumes config.dcos config.snaps) ∙ none_of_kind as_snap (λ g. refl) (λ d. refl) (objects_of config) h;
}
