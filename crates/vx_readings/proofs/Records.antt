-- Configurations with the same records have the same of each kind.
use Rattle.std.proofs.Common.{◌≡◌, Option, List, length, sym, ◌∙◌, ap, subst}
use Rattle.std.specs.List.{filter_map}
use Rattle.std.proofs.lemmas.List.Sorted.{Contains-permutation, IsPermutation-sym}
use Rattle.vx_config_parts.specs.declared.disk.Disk.{Disk}
use Rattle.vx_config_parts.specs.declared.subdisk.Subdisk.{Subdisk}
use Rattle.vx_config_parts.specs.declared.plex.Plex.{Plex}
use Rattle.vx_config_parts.specs.declared.vol.Vol.{Vol}
use Rattle.vx_config_parts.specs.declared.snap.Snap.{Snap}
use Rattle.vx_config_parts.specs.declared.object.Object.{Object}
use Rattle.vx_objects.specs.declared.config.Config.{Config}
use Rattle.vx_objects.specs.Config.{objects_of}
use Rattle.vx_objects.specs.Parts.{as_disk, as_subdisk, as_plex, as_vol, as_snap}
use Rattle.vx_objects.proofs.InKinds.{disks_below, subdisks_below, plexes_below, volumes_below, snaps_below}
use Rattle.vx_image.proofs.PlexMembers.{IsIn}
use Rattle.vx_image.proofs.Members.{contains, is_in}
use Rattle.vx_readings.specs.Readings.{HaveSameRecords}
use Rattle.vx_readings.proofs.Lists.{as_many, picked_more}

disks_in : (c : Config) → filter_map as_disk (objects_of c) ≡ c.disks
disks_in c = disks_below c.disks c.subdisks c.plexes c.volumes c.dcos c.snaps

subdisks_in : (c : Config) → filter_map as_subdisk (objects_of c) ≡ c.subdisks
subdisks_in c = subdisks_below c.disks c.subdisks c.plexes c.volumes c.dcos c.snaps

plexes_in : (c : Config) → filter_map as_plex (objects_of c) ≡ c.plexes
plexes_in c = plexes_below c.disks c.subdisks c.plexes c.volumes c.dcos c.snaps

volumes_in : (c : Config) → filter_map as_vol (objects_of c) ≡ c.volumes
volumes_in c = volumes_below c.disks c.subdisks c.plexes c.volumes c.dcos c.snaps

snaps_in : (c : Config) → filter_map as_snap (objects_of c) ≡ c.snaps
snaps_in c = snaps_below c.disks c.subdisks c.plexes c.volumes c.dcos c.snaps

pub turned : (c other : Config) → HaveSameRecords c other → HaveSameRecords other c
turned c other same = IsPermutation-sym (objects_of c) (objects_of other) same

module _ (c other : Config) (same : HaveSameRecords c other) where
  record_here : (o : Object) → IsIn (objects_of c) o → IsIn (objects_of other) o
  record_here o one = is_in (objects_of other) o (Contains-permutation (objects_of c) (objects_of other) o same (contains (objects_of c) o one))

  kind_here : {B : Type 0} (pick : Object → Option B) (these those : List B) → filter_map pick (objects_of c) ≡ these → filter_map pick (objects_of other) ≡ those →
      (b : B) → IsIn these b → IsIn those b
  kind_here pick these those here there b one =
      subst (λ bs. IsIn bs b) there (picked_more pick (objects_of c) (objects_of other) record_here b (subst (λ bs. IsIn bs b) (sym here) one))

  pub disk_here : (d : Disk) → IsIn c.disks d → IsIn other.disks d
  disk_here = kind_here as_disk c.disks other.disks (disks_in c) (disks_in other)

  pub subdisk_here : (s : Subdisk) → IsIn c.subdisks s → IsIn other.subdisks s
  subdisk_here = kind_here as_subdisk c.subdisks other.subdisks (subdisks_in c) (subdisks_in other)

  pub plex_here : (p : Plex) → IsIn c.plexes p → IsIn other.plexes p
  plex_here = kind_here as_plex c.plexes other.plexes (plexes_in c) (plexes_in other)

  pub volume_here : (v : Vol) → IsIn c.volumes v → IsIn other.volumes v
  volume_here = kind_here as_vol c.volumes other.volumes (volumes_in c) (volumes_in other)

  pub snap_here : (s : Snap) → IsIn c.snaps s → IsIn other.snaps s
  snap_here = kind_here as_snap c.snaps other.snaps (snaps_in c) (snaps_in other)

  pub subdisks_many : length other.subdisks ≡ length c.subdisks
  subdisks_many = ap length (sym (subdisks_in other)) ∙ as_many as_subdisk (objects_of c) (objects_of other) same ∙ ap length (subdisks_in c)
