-- The records of a configuration, sorted into their kinds.
use Rattle.std.specs.Prelude.{ℕ, Option, Some, None, List, ◌∷◌, ◌++◌, map}
use Rattle.std.specs.List.{filter_map}
use Rattle.vx_base.specs.Named.{Word}
use Rattle.vx_config_parts.specs.declared.group.Group.{Group}
use Rattle.vx_config_parts.specs.declared.disk.Disk.{Disk}
use Rattle.vx_config_parts.specs.declared.subdisk.Subdisk.{Subdisk}
use Rattle.vx_config_parts.specs.declared.plex.Plex.{Plex}
use Rattle.vx_config_parts.specs.declared.vol.Vol.{Vol}
use Rattle.vx_config_parts.specs.declared.dco.Dco.{Dco}
use Rattle.vx_config_parts.specs.declared.snap.Snap.{Snap}
use Rattle.vx_config_parts.specs.declared.object.Object.{Object}
use Rattle.vx_config_parts.specs.declared.object.Object.TheVariants.{GroupRecord, DiskRecord, SubdiskRecord, PlexRecord, VolRecord, DcoRecord, SnapRecord}

abbrev pub as_group : Object → Option Group
as_group (GroupRecord g) = Some g
as_group _ = None

abbrev pub as_disk : Object → Option Disk
as_disk (DiskRecord d) = Some d
as_disk _ = None

abbrev pub as_subdisk : Object → Option Subdisk
as_subdisk (SubdiskRecord s) = Some s
as_subdisk _ = None

abbrev pub as_plex : Object → Option Plex
as_plex (PlexRecord p) = Some p
as_plex _ = None

abbrev pub as_vol : Object → Option Vol
as_vol (VolRecord v) = Some v
as_vol _ = None

abbrev pub as_dco : Object → Option Dco
as_dco (DcoRecord d) = Some d
as_dco _ = None

abbrev pub as_snap : Object → Option Snap
as_snap (SnapRecord s) = Some s
as_snap _ = None

-- the records behind the group's, kind by kind
abbrev pub records_below : List Disk → List Subdisk → List Plex → List Vol → List Dco → List Snap → List Object
records_below disks subdisks plexes volumes dcos snaps =
    map DiskRecord disks ++ (map SubdiskRecord subdisks ++ (map PlexRecord plexes ++ (map VolRecord volumes ++ (map DcoRecord dcos ++ map SnapRecord snaps))))

-- the records of a configuration, kind by kind
abbrev pub records_of : Word → ℕ → List Disk → List Subdisk → List Plex → List Vol → List Dco → List Snap → List Object
records_of group version disks subdisks plexes volumes dcos snaps = GroupRecord (record { name = group; version = version }) ∷ records_below disks subdisks plexes volumes dcos snaps

-- the records behind the group's, sorted into their kinds; within a kind they keep their order
abbrev pub sorted_below : List Object → List Object
sorted_below all =
    records_below (filter_map as_disk all) (filter_map as_subdisk all) (filter_map as_plex all) (filter_map as_vol all) (filter_map as_dco all) (filter_map as_snap all)

-- the records sorted into their kinds
abbrev pub in_kinds : List Object → List Object
in_kinds all = map GroupRecord (filter_map as_group all) ++ sorted_below all
