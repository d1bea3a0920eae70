-- Records of a configuration, by kind and by name.
use Rattle.std.specs.Prelude.{Bool, true, false, Option, Some, None, ◌&&◌}
use Rattle.std.specs.Str.{bytes_eq}
use Rattle.std.specs.Ordering.{is_lt, nat_cmp}
use Rattle.std.specs.Cmp.Lexicographic.{slice_cmp}
use Rattle.vx_base.specs.Named.{Word}
use Rattle.vx_config_parts.specs.declared.group.Group.{Group}
use Rattle.vx_config_parts.specs.declared.disk.Disk.{Disk}
use Rattle.vx_config_parts.specs.declared.subdisk.Subdisk.{Subdisk}
use Rattle.vx_config_parts.specs.declared.plex.Plex.{Plex}
use Rattle.vx_config_parts.specs.declared.plex.PlexKind.{PlexKind}
use Rattle.vx_config_parts.specs.declared.plex.PlexKind.TheVariants.{Data, Log}
use Rattle.vx_config_parts.specs.declared.vol.Vol.{Vol}
use Rattle.vx_config_parts.specs.declared.dco.Dco.{Dco}
use Rattle.vx_config_parts.specs.declared.snap.Snap.{Snap}
use Rattle.vx_config_parts.specs.declared.object.Object.{Object}
use Rattle.vx_config_parts.specs.declared.object.Object.TheVariants.{GroupRecord, DiskRecord, SubdiskRecord, PlexRecord, VolRecord, DcoRecord, SnapRecord}

abbrev pub name_of : Object → Word
name_of (GroupRecord g) = g.name
name_of (DiskRecord d) = d.name
name_of (SubdiskRecord s) = s.name
name_of (PlexRecord p) = p.name
name_of (VolRecord v) = v.name
name_of (DcoRecord d) = d.name
name_of (SnapRecord s) = s.name

-- it is a group record that passes the test
abbrev pub is_group : (Group → Bool) → Object → Bool
is_group test (GroupRecord g) = test g
is_group test _ = false

-- it is a disk that passes the test
abbrev pub is_disk : (Disk → Bool) → Object → Bool
is_disk test (DiskRecord d) = test d
is_disk test _ = false

-- it is a subdisk that passes the test
abbrev pub is_subdisk : (Subdisk → Bool) → Object → Bool
is_subdisk test (SubdiskRecord s) = test s
is_subdisk test _ = false

-- it is a plex that passes the test
abbrev pub is_plex : (Plex → Bool) → Object → Bool
is_plex test (PlexRecord p) = test p
is_plex test _ = false

-- it is a volume that passes the test
abbrev pub is_vol : (Vol → Bool) → Object → Bool
is_vol test (VolRecord v) = test v
is_vol test _ = false

-- it is a DCO that passes the test
abbrev pub is_dco : (Dco → Bool) → Object → Bool
is_dco test (DcoRecord d) = test d
is_dco test _ = false

-- it is a relation that passes the test
abbrev pub is_snap : (Snap → Bool) → Object → Bool
is_snap test (SnapRecord s) = test s
is_snap test _ = false

-- the first word comes before the second, byte by byte
abbrev pub comes_before : Word → Word → Bool
comes_before a b = is_lt (slice_cmp nat_cmp a b)

-- the attribute names that object
abbrev pub refers : Option Word → Word → Bool
refers None name = false
refers (Some n) name = bytes_eq n name

abbrev pub is_data : PlexKind → Bool
is_data Data = true
is_data Log = false

abbrev pub is_log : PlexKind → Bool
is_log Data = false
is_log Log = true

-- a data plex of the volume
abbrev pub is_data_plex_of : Word → Plex → Bool
is_data_plex_of vol p = refers p.vol vol && is_data p.kind

-- a log plex of the volume
abbrev pub is_log_plex_of : Word → Plex → Bool
is_log_plex_of vol p = refers p.vol vol && is_log p.kind
